use Rattle.pcache_evict.proofs.Words.{refl, Lru}
use Rattle.pcache_evict.proofs.Walks.{walks-inside, walks-enough}
use Rattle.pcache_evict.proofs.eviction.recency.RecencyList.room_for.Goals as goal

pub returns : goal.returns
returns g c =
    walks-enough _ _ _ _ _ _ _ _ c.loop-left.invariant (walks-inside _ _ _ _ _ _ _ _ c.loop-left.invariant (c.loop-left-test.ensures.within Lru refl))
