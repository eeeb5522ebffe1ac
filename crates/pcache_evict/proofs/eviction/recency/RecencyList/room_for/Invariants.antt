use Rattle.pcache_evict.proofs.Words.{length}
use Rattle.pcache_evict.proofs.Walks.{Walks}
use Rattle.pcache_evict.proofs.eviction.recency.RecencyList.room_for.Given as goal

abbrev pub invariant-loop-left : goal.invariant-loop-left
invariant-loop-left g l = Walks l.item l.size l.self l.left l.sum l.count l.room

abbrev pub decreases-loop-left : goal.decreases-loop-left
decreases-loop-left g l = length l.left
