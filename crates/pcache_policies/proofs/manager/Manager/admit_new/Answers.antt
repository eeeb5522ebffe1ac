use Rattle.pcache_policies.proofs.Words.{◌∙◌, subst, ap, refl, limits_of, seen_of, Admits, Managed}
use Rattle.pcache_policies.proofs.Managed.{absent_still, admits-in, admits-out, state}
use Rattle.pcache_policies.proofs.manager.Manager.admit_new.Goals as goal

pub enter-requires : goal.enter-requires
enter-requires g c = absent_still g.Q.Discipline.way (g.Q.Discipline.order c.self.inside.queue) (g.Q.Discipline.order c.choose.new.self) c.args.item c.choose.ensures.same (ap (λ (s : Managed _). seen_of c.args.item (g.Q.Discipline.way.whole s.order)) c.self.view_is ∙ c.requires)

pub returns-then-has_room-clause-ok : goal.returns-then-has_room-clause-ok
returns-then-has_room-clause-ok g c =
    subst (λ (s : Managed _). Admits g.Q.Discipline.way s c.args.item c.args.size (state (g.Q.Discipline.order c.let_go.new.queue) (limits_of g.Q.Discipline.way.policy c.self.inside.limit c.self.inside.watermark) c.let_go.new.evicted.weight c.let_go.new.evicted.count) c.let_go.result.items) c.self.view_is
    (admits-in g.Q.Discipline.way c.laws.ensures g.Q.Discipline.order g.Q.Discipline.left g.Q.Discipline.leaving (limits_of g.Q.Discipline.way.policy c.self.inside.limit c.self.inside.watermark) c.self.inside.evicted.weight c.self.inside.evicted.count c.let_go.new.evicted.weight c.let_go.new.evicted.count c.self.inside.queue c.choose.new.self c.enter.new.self c.let_go.new.queue c.knows-known.result c.args.item c.args.size c.let_go.result.items
    c.in_ok-out.ensures.room c.in_ok-out.ensures.heavy (c.if-has_room.ensures.room refl) c.knows-known.ensures c.in_ok-enter.ensures.ok c.in_ok-enter.ensures.leaving c.let_go.ensures.order c.let_go.ensures.out c.let_go.ensures.long c.let_go.ensures.weight c.let_go.ensures.count)

pub returns-clause-ok : goal.returns-clause-ok
returns-clause-ok g c =
    subst (λ (s : Managed _). Admits g.Q.Discipline.way s c.args.item c.args.size (state (g.Q.Discipline.order c.let_go-out.new.queue) (limits_of g.Q.Discipline.way.policy c.self.inside.limit c.self.inside.watermark) c.add.new.self.weight c.add.new.self.count) c.push_reserved.new.self.items) c.self.view_is
    (admits-out g.Q.Discipline.way c.laws.ensures g.Q.Discipline.order g.Q.Discipline.left g.Q.Discipline.leaving (limits_of g.Q.Discipline.way.policy c.self.inside.limit c.self.inside.watermark) c.self.inside.evicted.weight c.self.inside.evicted.count c.let_go-out.new.evicted.weight c.let_go-out.new.evicted.count c.add.new.self.weight c.add.new.self.count c.self.inside.queue c.choose.new.self c.let_go-out.new.queue c.args.item c.args.size c.let_go-out.result.items c.push_reserved.new.self.items
    c.in_ok-out.ensures.room c.in_ok-out.ensures.heavy (c.if-has_room.ensures.none refl) c.let_go-out.ensures.order c.let_go-out.ensures.out c.let_go-out.ensures.long c.push_reserved.ensures.items c.let_go-out.ensures.weight c.let_go-out.ensures.count c.add.ensures.weight c.add.ensures.count)
