use Rattle.pcache_evict.specs.declared.eviction.policy.EvictionPolicy.TheVariants.{TwoQueues}
use Rattle.pcache_policies.proofs.Words.{◌+◌, length, limits_of}
use Rattle.pcache_policies.proofs.ReclaimSteps.{Far}
use Rattle.pcache_policies.proofs.reclaim.Queues.make_room.Given as goal

abbrev pub invariant-loop-watermark : goal.invariant-loop-watermark
invariant-loop-watermark g l = Far (limits_of TwoQueues l.limit l.watermark) l.size l.count l.fn.self l.self

abbrev pub decreases-loop-watermark : goal.decreases-loop-watermark
decreases-loop-watermark g l = length l.self.ring.ahead + length l.self.ring.passed
