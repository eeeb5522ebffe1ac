use Rattle.pcache_policies.specs.Fifos.{steps_of}
use Rattle.pcache_policies.proofs.Words.{S3Fifo, limits_of}
use Rattle.pcache_policies.proofs.FifoSteps.{Far}
use Rattle.pcache_policies.proofs.fifos.Fifos.make_room.Given as goal

abbrev pub invariant-loop-watermark : goal.invariant-loop-watermark
invariant-loop-watermark g l = Far (limits_of S3Fifo l.limit l.watermark) l.size l.count l.fn.self l.self

abbrev pub decreases-loop-watermark : goal.decreases-loop-watermark
decreases-loop-watermark g l = steps_of l.self.ring.ahead l.self.ring.passed
