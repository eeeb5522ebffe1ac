use Rattle.pcache_table.proofs.Words.{sym, ◌∙◌, ap, nat_cmp, IfOk-weaker, on_ok_weaker, on_err_weaker}
use Rattle.std.specs.FinMap as map
use Rattle.pcache_table.proofs.HashMaps.{found, put}
use Rattle.pcache_table.proofs.hashtable.hashed_table.HashedTable.insert.Goals as goal

pub returns-clause-before : goal.returns-clause-before
returns-clause-before g c = IfOk-weaker c.insert.result _ _ (λ old h. h ∙ sym (found c.self.inside.entries.entries c.args.number) ∙ ap (λ m. map.get m c.args.number) c.self.view_is) c.insert.ensures.old

pub returns-clause-ok : goal.returns-clause-ok
returns-clause-ok g c = on_ok_weaker c.insert.result (λ h. put c.self.inside.entries.entries c.insert.new.self.entries c.args.number c.args.value h.0 ∙ ap (λ m. map.insert m c.args.number c.args.value) c.self.view_is) c.insert.ensures.updates

pub returns-clause-err : goal.returns-clause-err
returns-clause-err g c = on_err_weaker c.insert.result (λ h. ap (λ es. map.from_entries {R = nat_cmp} es) h ∙ c.self.view_is) c.insert.ensures.err

pub returns-clause-absent : goal.returns-clause-absent
returns-clause-absent g c = on_err_weaker c.insert.result (λ h. sym (ap (λ m. map.get m c.args.number) c.self.view_is) ∙ found c.self.inside.entries.entries c.args.number ∙ h) c.insert.ensures.absent
