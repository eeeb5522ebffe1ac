use Rattle.pcache_policies.proofs.Words.{◌∙◌, ap, map_of, entries_in}
use Rattle.pcache_policies.proofs.Managed.{map-removed}
use Rattle.pcache_policies.proofs.ordered.ManagerOrderedManager.remove_in_order.Goals as goal

pub returns-clause-tracked : goal.returns-clause-tracked
returns-clause-tracked g c = ap (λ s. map_of (entries_in g.Q.Discipline.way s.order)) c.remove.ensures ∙ map-removed g.Q.Discipline.way c.laws.ensures c.args.item.now c.args.self.now.order

pub returns-clause-order : goal.returns-clause-order
returns-clause-order g c = ap (λ s. s.order) c.remove.ensures
