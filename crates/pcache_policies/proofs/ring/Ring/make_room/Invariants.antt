use Rattle.pcache_policies.specs.Ring.{steps_of}
use Rattle.pcache_policies.proofs.Words.{◌+◌, EvictionPolicy, limits_of}
use Rattle.pcache_policies.proofs.Rings.{Far, turn_of}
use Rattle.pcache_policies.proofs.ring.Ring.make_room.Given as goal

abbrev pub invariant-loop-watermark : goal.invariant-loop-watermark
invariant-loop-watermark g l = (policy : EvictionPolicy) → Far (limits_of policy l.limit l.watermark) l.size l.count l.fn.self l.self

abbrev pub decreases-loop-watermark : goal.decreases-loop-watermark
decreases-loop-watermark g l = steps_of l.self.ahead + steps_of l.self.passed + turn_of l.self.ahead
