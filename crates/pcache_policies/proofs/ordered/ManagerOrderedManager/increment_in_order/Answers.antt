use Rattle.pcache_policies.proofs.Words.{refl, ◌∙◌, seen_of}
use Rattle.pcache_policies.proofs.Managed.{increment, incremented-in, within-raised}
use Rattle.pcache_policies.proofs.Seens.{there-list, some_seen}
use Rattle.pcache_policies.proofs.ordered.ManagerOrderedManager.increment_in_order.Goals as goal

pub returns-clause-fair : goal.returns-clause-fair
returns-clause-fair g c = (increment g.Q.Discipline.way c.laws.ensures (seen_of c.args.item.now (g.Q.Discipline.way.whole c.args.self.now.order)) c.args.self.now c.increment_weight.new.self c.args.item.now c.args.delta c.args.max_weight c.in_ok-out.out.items refl c.in_ok-out.ensures.ok c.increment_weight.ensures.once).fair

pub returns-clause-tracked : goal.returns-clause-tracked
returns-clause-tracked g c = (increment g.Q.Discipline.way c.laws.ensures (seen_of c.args.item.now (g.Q.Discipline.way.whole c.args.self.now.order)) c.args.self.now c.increment_weight.new.self c.args.item.now c.args.delta c.args.max_weight c.in_ok-out.out.items refl c.in_ok-out.ensures.ok c.increment_weight.ensures.once).tracked

pub returns-clause-evicted : goal.returns-clause-evicted
returns-clause-evicted g c = (increment g.Q.Discipline.way c.laws.ensures (seen_of c.args.item.now (g.Q.Discipline.way.whole c.args.self.now.order)) c.args.self.now c.increment_weight.new.self c.args.item.now c.args.delta c.args.max_weight c.in_ok-out.out.items refl c.in_ok-out.ensures.ok c.increment_weight.ensures.once).evicted

pub returns-clause-limits : goal.returns-clause-limits
returns-clause-limits g c = (increment g.Q.Discipline.way c.laws.ensures (seen_of c.args.item.now (g.Q.Discipline.way.whole c.args.self.now.order)) c.args.self.now c.increment_weight.new.self c.args.item.now c.args.delta c.args.max_weight c.in_ok-out.out.items refl c.in_ok-out.ensures.ok c.increment_weight.ensures.once).limits

pub returns-in_err-out-clause-within : goal.returns-in_err-out-clause-within
returns-in_err-out-clause-within g c = λ has fits.
    let (v, is) = some_seen (seen_of c.args.item.now (g.Q.Discipline.way.whole c.args.self.now.order)) (there-list c.args.item.now (g.Q.Discipline.way.whole c.args.self.now.order) ∙ has) in
    let given = c.in_err-out.ensures.within v is (within-raised g.Q.Discipline.way c.laws.ensures c.args.self.now.limits c.args.self.now.order c.args.item.now c.args.delta c.args.max_weight v is c.increment_weight.ensures.once fits) in
    cc

pub returns-clause-order : goal.returns-clause-order
returns-clause-order g c = incremented-in g.Q.Discipline.way (seen_of c.args.item.now (g.Q.Discipline.way.whole c.args.self.now.order)) c.args.self.now c.increment_weight.new.self c.args.item.now c.args.delta c.args.max_weight c.in_ok-out.out.items c.in_ok-out.ensures.ok
