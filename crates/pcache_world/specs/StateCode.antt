-- An encoding of what contracts see of the parts of a world, which the value of a model needs (own).
use Rattle.std.specs.Prelude.{ℕ, refl}
use Rattle.std.specs.Coded.{Coded, code_by, coded×, coded_ℕ}
use Rattle.std.specs.FinMap.{code}
use Rattle.pcache_evict.specs.LimitsCode.{limits_code}
use Rattle.pcache_evict.specs.Tracked.{Limits, Tracked}
use Rattle.pcache_evict.specs.contracts.eviction.entry_key.CacheEntryKey as key_row
use Rattle.pcache_lock.specs.Locks.{Locks}
use Rattle.pcache_lock.specs.LocksCode.{locks_code}
use Rattle.pcache_store.specs.Store.{Store}
use Rattle.pcache_store.specs.StoreCode.{store_code}
use Rattle.pcache_world.specs.State.{State}

abbrev pub state_code : Coded State
state_code =
    code_by (Store × (Tracked × (Limits × ((ℕ × ℕ) × Locks))))
    (coded× store_code (coded× (code key_row.the_row.coded coded_ℕ) (coded× limits_code (coded× (coded× coded_ℕ coded_ℕ) locks_code))))
    (λ p. (p.store, (p.tracked, (p.limits, ((p.evicted.weight, p.evicted.count), p.locks)))))
    (λ q. record { store = q.0; tracked = q.1.0; limits = q.1.1.0; evicted = record { weight = q.1.1.1.0.0; count = q.1.1.1.0.1 }; locks = q.1.1.1.1 })
    (λ _. refl)
