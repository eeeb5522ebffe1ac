use Rattle.pcache_policies.proofs.Words.{sym, subst, refl, limits_of, IsWithinAsList, KeepsLimits, Managed, entries_in}
use Rattle.pcache_policies.proofs.Managed.{keeps-in, keeps-still, state}
use Rattle.pcache_policies.proofs.manager.Manager.keep_limits.Goals as goal

pub returns-then-is_within-clause-ok : goal.returns-then-is_within-clause-ok
returns-then-is_within-clause-ok g c =
    subst (λ (s : Managed _). KeepsLimits g.Q.Discipline.way s s.order (state (g.Q.Discipline.order c.self.inside.queue) (limits_of g.Q.Discipline.way.policy c.self.inside.limit c.self.inside.watermark) c.add.new.self.weight c.add.new.self.count) c.new.result.items) c.self.view_is
    (keeps-still g.Q.Discipline.way c.laws.ensures (limits_of g.Q.Discipline.way.policy c.self.inside.limit c.self.inside.watermark) c.self.inside.evicted.weight c.self.inside.evicted.count c.add.new.self.weight c.add.new.self.count (g.Q.Discipline.order c.self.inside.queue) c.new.result.items
    (subst (λ (s : Managed _). IsWithinAsList s.limits (entries_in g.Q.Discipline.way s.order)) (sym c.self.view_is) (c.if-is_within.ensures.yes refl)) c.new.ensures.items c.add.ensures.weight c.add.ensures.count)

pub returns-clause-ok : goal.returns-clause-ok
returns-clause-ok g c =
    subst (λ (s : Managed _). KeepsLimits g.Q.Discipline.way s s.order (state (g.Q.Discipline.order c.let_go.new.queue) (limits_of g.Q.Discipline.way.policy c.self.inside.limit c.self.inside.watermark) c.let_go.new.evicted.weight c.let_go.new.evicted.count) c.let_go.result.items) c.self.view_is
    (keeps-in g.Q.Discipline.way c.laws.ensures g.Q.Discipline.order g.Q.Discipline.left g.Q.Discipline.leaving (limits_of g.Q.Discipline.way.policy c.self.inside.limit c.self.inside.watermark) c.self.inside.evicted.weight c.self.inside.evicted.count c.let_go.new.evicted.weight c.let_go.new.evicted.count c.self.inside.queue c.choose.new.self c.let_go.new.queue c.let_go.result.items
    c.in_ok-out.ensures.room c.in_ok-out.ensures.heavy c.let_go.ensures.order c.let_go.ensures.out c.let_go.ensures.long c.let_go.ensures.weight c.let_go.ensures.count)
