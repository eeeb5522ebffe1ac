use Rattle.pcache_evict.specs.declared.eviction.policy.EvictionPolicy.TheVariants.{TwoQueues}
use Rattle.pcache_policies.proofs.reclaim.QueuesDiscipline.has_room.Goals as goal

pub returns-clause-room : goal.returns-clause-room
returns-clause-room g c = c.has_room.ensures.room TwoQueues

pub returns-clause-none : goal.returns-clause-none
returns-clause-none g c = c.has_room.ensures.none TwoQueues
