-- The store, the eviction manager and the lock table of a world as one value (own).
use Rattle.pcache_evict.specs.Tracked.{Tracked, Limits, Evicted}
use Rattle.pcache_lock.specs.Locks.{Locks}
use Rattle.pcache_store.specs.Store.{Store}

pub record State : Type 0 where
  pub store : Store
  -- what the manager tracks, its limits, and the totals of what it evicted
  pub tracked : Tracked
  pub limits : Limits
  pub evicted : Evicted
  pub locks : Locks
