use Rattle.pcache_policies.proofs.Words.{sym, subst, IsSome, IfOk-weaker, on_err_weaker, seen_of, Managed, KeepsLimits}
use Rattle.pcache_policies.proofs.Managed.{keeps-from, readmitted-back, readmitted_there}
use Rattle.pcache_policies.proofs.manager.Manager.admit_again.Goals as goal

pub keep_limits_or_set-requires : goal.keep_limits_or_set-requires
keep_limits_or_set-requires g c =
    subst (λ (s : Managed _). IsSome (seen_of c.args.item.now (g.Q.Discipline.way.whole s.order))) (sym c.readmit.ensures)
    (readmitted_there g.Q.Discipline.way c.laws.ensures c.args.item.now c.args.before c.args.size c.args.self.now.order c.total_items.ensures.once c.requires)

pub returns-clause-ok : goal.returns-clause-ok
returns-clause-ok g c =
    IfOk-weaker c.keep_limits_or_set.result (λ out. KeepsLimits g.Q.Discipline.way c.readmit.new.self c.readmit.new.self.order c.keep_limits_or_set.new.self out.items)
    (λ out. KeepsLimits g.Q.Discipline.way c.args.self.now (g.Q.Discipline.way.readmitted c.args.item.now c.args.before c.args.size c.args.self.now.order) c.keep_limits_or_set.new.self out.items)
    (λ out keeps. keeps-from g.Q.Discipline.way c.laws.ensures c.args.self.now c.readmit.new.self c.keep_limits_or_set.new.self (g.Q.Discipline.way.readmitted c.args.item.now c.args.before c.args.size c.args.self.now.order) out.items c.readmit.ensures keeps)
    c.keep_limits_or_set.ensures.ok

pub returns-clause-err : goal.returns-clause-err
returns-clause-err g c =
    on_err_weaker c.keep_limits_or_set.result
    (λ failed. readmitted-back g.Q.Discipline.way c.laws.ensures c.args.self.now c.readmit.new.self c.keep_limits_or_set.new.self c.args.item.now c.args.before c.args.size c.requires c.total_items.ensures.once c.readmit.ensures failed)
    c.keep_limits_or_set.ensures.err
