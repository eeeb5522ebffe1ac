use Rattle.pcache_policies.proofs.ReclaimLaws.{two_queues_laws}
use Rattle.pcache_policies.proofs.reclaim.QueuesDiscipline.laws.Goals as goal

pub returns : goal.returns
returns g c = two_queues_laws
