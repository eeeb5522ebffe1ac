use Rattle.pcache_policies.proofs.Words.{◌≡◌, take, length}
use Rattle.pcache_policies.proofs.queue.Queue.keep.Given as goal

abbrev pub invariant-loop-self : goal.invariant-loop-self
invariant-loop-self g l = take l.most l.self ≡ take l.most l.fn.self

abbrev pub decreases-loop-self : goal.decreases-loop-self
decreases-loop-self g l = length l.self
