use Rattle.pcache_evict.proofs.Words.{length}
use Rattle.pcache_evict.proofs.Walks.{Walking}
use Rattle.pcache_evict.proofs.eviction.recency.RecencyList.walk.Given as goal

abbrev pub invariant-loop-left : goal.invariant-loop-left
invariant-loop-left g l = Walking l.item l.self l.left l.fn.start l.sum l.count l.room

abbrev pub decreases-loop-left : goal.decreases-loop-left
decreases-loop-left g l = length l.left
