use Rattle.pcache_policies.proofs.Words.{refl, seen_of}
use Rattle.pcache_policies.proofs.Managed.{admission, admitted}
use Rattle.pcache_policies.proofs.ordered.ManagerOrderedManager.admit_in_order.Goals as goal

pub returns-clause-fair : goal.returns-clause-fair
returns-clause-fair g c = (admission g.Q.Discipline.way c.laws.ensures (seen_of c.args.item (g.Q.Discipline.way.whole c.args.self.now.order)) c.args.self.now c.admit.new.self c.args.item c.args.size c.in_ok-out.out.items refl c.in_ok-out.ensures.ok c.admit.ensures.once).fair

pub returns-clause-tracked : goal.returns-clause-tracked
returns-clause-tracked g c = (admission g.Q.Discipline.way c.laws.ensures (seen_of c.args.item (g.Q.Discipline.way.whole c.args.self.now.order)) c.args.self.now c.admit.new.self c.args.item c.args.size c.in_ok-out.out.items refl c.in_ok-out.ensures.ok c.admit.ensures.once).tracked

pub returns-clause-evicted : goal.returns-clause-evicted
returns-clause-evicted g c = (admission g.Q.Discipline.way c.laws.ensures (seen_of c.args.item (g.Q.Discipline.way.whole c.args.self.now.order)) c.args.self.now c.admit.new.self c.args.item c.args.size c.in_ok-out.out.items refl c.in_ok-out.ensures.ok c.admit.ensures.once).evicted

pub returns-clause-limits : goal.returns-clause-limits
returns-clause-limits g c = (admission g.Q.Discipline.way c.laws.ensures (seen_of c.args.item (g.Q.Discipline.way.whole c.args.self.now.order)) c.args.self.now c.admit.new.self c.args.item c.args.size c.in_ok-out.out.items refl c.in_ok-out.ensures.ok c.admit.ensures.once).limits

pub returns-clause-order : goal.returns-clause-order
returns-clause-order g c = admitted g.Q.Discipline.way (seen_of c.args.item (g.Q.Discipline.way.whole c.args.self.now.order)) c.args.self.now c.admit.new.self c.args.item c.args.size c.in_ok-out.out.items c.in_ok-out.ensures.ok
