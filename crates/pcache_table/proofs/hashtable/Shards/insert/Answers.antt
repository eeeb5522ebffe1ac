use Rattle.pcache_table.proofs.Words.{◌∙◌, ◌%◌, ap, refl, sym, slice_get_within, IfOk-weaker, on_ok_weaker, on_err_weaker}
use Rattle.std.specs.FinMap as map
use Rattle.pcache_table.proofs.Sharded.{all-set, at_place, get-joined, insert-joined, placed-either}
use Rattle.pcache_table.proofs.hashtable.Shards.insert.Goals as goal

pub invariant_of-self : goal.invariant_of-self
invariant_of-self g c =
    let ps = c.self.inside.shards in
    let at = at_place g.row.N ps c.args.key c.index-self-place.result c.self.invariant.0 c.self.told in (
      c.self.invariant.0,
      all-set g.row.N (c.args.key % g.row.N) ps c.insert.new.self (slice_get_within ps (c.args.key % g.row.N) _ at) c.self.invariant.1
          (placed-either g.row.N (c.args.key % g.row.N) c.args.key c.args.value _ c.insert.new.self c.insert.result refl c.insert.ensures.ok c.insert.ensures.err (c.self.invariant.1 (c.args.key % g.row.N) _ at)),
    )

pub returns-clause-before : goal.returns-clause-before
returns-clause-before g c =
    let ps = c.self.inside.shards in
    let at = at_place g.row.N ps c.args.key c.index-self-place.result c.self.invariant.0 c.self.told in
    IfOk-weaker c.insert.result _ _ (λ old h. h ∙ sym (get-joined g.row.N ps c.args.key _ c.self.invariant.1 at) ∙ ap (λ m. map.get m c.args.key) c.self.view_is) c.insert.ensures.before

pub returns-clause-ok : goal.returns-clause-ok
returns-clause-ok g c =
    let ps = c.self.inside.shards in
    let at = at_place g.row.N ps c.args.key c.index-self-place.result c.self.invariant.0 c.self.told in
    on_ok_weaker c.insert.result (λ h. insert-joined g.row.N ps c.args.key c.args.value _ c.insert.new.self c.self.invariant.0 c.self.told c.self.invariant.1 at h ∙ ap (λ m. map.insert m c.args.key c.args.value) c.self.view_is) c.insert.ensures.ok

pub returns-clause-absent : goal.returns-clause-absent
returns-clause-absent g c =
    let ps = c.self.inside.shards in
    let at = at_place g.row.N ps c.args.key c.index-self-place.result c.self.invariant.0 c.self.told in
    on_err_weaker c.insert.result (λ h. sym (ap (λ m. map.get m c.args.key) c.self.view_is) ∙ get-joined g.row.N ps c.args.key _ c.self.invariant.1 at ∙ h) c.insert.ensures.absent
