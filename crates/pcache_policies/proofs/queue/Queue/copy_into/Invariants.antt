use Rattle.pcache_policies.proofs.Words.{◌≡◌, ◌++◌, plain}
use Rattle.pcache_policies.proofs.queue.Queue.copy_into.Given as goal

abbrev pub invariant-loop-key : goal.invariant-loop-key
invariant-loop-key g l = l.fn.all.items ++ plain l.self ≡ l.all.items ++ plain l.key-iterator
