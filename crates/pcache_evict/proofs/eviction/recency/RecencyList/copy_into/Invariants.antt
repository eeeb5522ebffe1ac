use Rattle.pcache_evict.proofs.Words.{◌≡◌, ◌++◌}
use Rattle.pcache_evict.proofs.eviction.recency.RecencyList.copy_into.Given as goal

abbrev pub invariant-loop-key : goal.invariant-loop-key
invariant-loop-key g l = l.fn.all.items ++ l.self ≡ l.all.items ++ l.key-iterator
