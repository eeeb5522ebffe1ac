use Rattle.pcache_evict.proofs.Words.{◌≡◌, ◌++◌, length}
use Rattle.pcache_evict.proofs.eviction.recency.RecencyList.copied.Given as goal

abbrev pub invariant-loop-key : goal.invariant-loop-key
invariant-loop-key g l = l.self ≡ l.left ++ l.copy

abbrev pub decreases-loop-key : goal.decreases-loop-key
decreases-loop-key g l = length l.left
