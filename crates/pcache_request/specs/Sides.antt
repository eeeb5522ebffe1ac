-- What a call of a request is lent, as a contract sees it (own): each part beside what was done to it.
use Rattle.pcache_evict.specs.Tracked.{Evicted, Limits, Tracked}
use Rattle.pcache_lock.specs.Locks.{Locks}
use Rattle.pcache_store.specs.Store.{Store}
use Rattle.pcache_request.specs.LockPasts.{Deeds}
use Rattle.pcache_request.specs.StorePasts.{Past}

-- a storage, and what was done to it
pub record StoreSide : Type 0 where
  pub store : Store
  pub past : Past

-- an eviction manager: what it tracks, its limits, and the totals of what it evicted
pub record ManagerSide : Type 0 where
  pub tracked : Tracked
  pub limits : Limits
  pub evicted : Evicted

-- a lock table, and what was done to it
pub record LockSide : Type 0 where
  pub locks : Locks
  pub deeds : Deeds

-- the sides of values of any type, by what that type's trait says of them
abbrev pub store_side : {A : Type 0} → (A → Store) → (A → Past) → A → StoreSide
store_side state past x = record { store = state x; past = past x }

abbrev pub manager_side : {A : Type 0} → (A → Tracked) → (A → Limits) → (A → Evicted) → A → ManagerSide
manager_side tracked limits evicted x = record { tracked = tracked x; limits = limits x; evicted = evicted x }

abbrev pub lock_side : {A : Type 0} → (A → Locks) → (A → Deeds) → A → LockSide
lock_side table past x = record { locks = table x; deeds = past x }
