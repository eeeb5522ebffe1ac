use Rattle.pcache_policies.proofs.Words.{sym, subst, IsSome, IfOk-weaker, on_err_weaker, IsWithinAsList, seen_of, Managed, KeepsLimits, entries_in}
use Rattle.pcache_policies.proofs.Managed.{keeps-from, reseen-back, reseen_there}
use Rattle.pcache_policies.proofs.manager.Manager.reweigh.Goals as goal

pub keep_limits_or_set-requires : goal.keep_limits_or_set-requires
keep_limits_or_set-requires g c =
    subst (λ (s : Managed _). IsSome (seen_of c.args.item.now (g.Q.Discipline.way.whole s.order))) (sym c.set.ensures)
    (reseen_there g.Q.Discipline.way c.laws.ensures c.args.item.now c.args.before c.args.after c.args.self.now.order c.requires)

pub returns-clause-ok : goal.returns-clause-ok
returns-clause-ok g c =
    IfOk-weaker c.keep_limits_or_set.result (λ out. KeepsLimits g.Q.Discipline.way c.set.new.self c.set.new.self.order c.keep_limits_or_set.new.self out.items)
    (λ out. KeepsLimits g.Q.Discipline.way c.args.self.now (g.Q.Discipline.way.reseen_in c.args.item.now c.args.after c.args.self.now.order) c.keep_limits_or_set.new.self out.items)
    (λ out keeps. keeps-from g.Q.Discipline.way c.laws.ensures c.args.self.now c.set.new.self c.keep_limits_or_set.new.self (g.Q.Discipline.way.reseen_in c.args.item.now c.args.after c.args.self.now.order) out.items c.set.ensures keeps)
    c.keep_limits_or_set.ensures.ok

pub returns-clause-within : goal.returns-clause-within
returns-clause-within g c = λ fits. c.keep_limits_or_set.ensures.within (subst (λ (s : Managed _). IsWithinAsList s.limits (entries_in g.Q.Discipline.way s.order)) (sym c.set.ensures) fits)

pub returns-clause-err : goal.returns-clause-err
returns-clause-err g c =
    on_err_weaker c.keep_limits_or_set.result
    (λ failed. reseen-back g.Q.Discipline.way c.laws.ensures c.args.self.now c.set.new.self c.keep_limits_or_set.new.self c.args.item.now c.args.before c.args.after c.requires c.set.ensures failed)
    c.keep_limits_or_set.ensures.err
