use Rattle.pcache_policies.proofs.QueueLaws.{queue_laws}
use Rattle.pcache_policies.proofs.one_queue.TurnsDiscipline.laws.Goals as goal

pub returns : goal.returns
returns g c = queue_laws g.U.Uses.policy g.U.Uses.used g.met.U.Uses.weighs
