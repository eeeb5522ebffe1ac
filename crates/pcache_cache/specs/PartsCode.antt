-- An encoding of what contracts see of a cache, which the value of a model needs (own).
use Rattle.std.specs.Prelude.{ℕ, refl}
use Rattle.std.specs.Coded.{Coded, code_by, coded×, coded_ℕ}
use Rattle.std.specs.FinMap.{code}
use Rattle.pcache_evict.specs.LimitsCode.{limits_code}
use Rattle.pcache_evict.specs.Tracked.{Limits, Tracked}
use Rattle.pcache_evict.specs.contracts.eviction.entry_key.CacheEntryKey as key_row
use Rattle.pcache_lock.specs.Past.{Known as KnownLocks}
use Rattle.pcache_lock.specs.PastCode.{known_code as known_locks}
use Rattle.pcache_store.specs.Notes.{Known as KnownStore}
use Rattle.pcache_store.specs.NotesCode.{known_code as known_store}
use Rattle.pcache_cache.specs.Fetching.{PurgesSeen}
use Rattle.pcache_cache.specs.FetchingCode.{purges_code}
use Rattle.pcache_cache.specs.Parts.{Parts}
use Rattle.pcache_cache.specs.contracts.weighing.Weighing as weighing_row
use Rattle.pcache_cache.specs.declared.weighing.Weighing.{Weighing}

abbrev pub parts_code : Coded Parts
parts_code =
    code_by (Weighing × (KnownStore × (Tracked × (Limits × ((ℕ × ℕ) × (KnownLocks × PurgesSeen))))))
    (coded× weighing_row.the_row.coded (coded× known_store (coded× (code key_row.the_row.coded coded_ℕ) (coded× limits_code (coded× (coded× coded_ℕ coded_ℕ) (coded× known_locks purges_code))))))
    (λ p. (p.weighing, (record { state = p.store; past = p.past }, (p.tracked, (p.limits, ((p.evicted.weight, p.evicted.count), (record { table = p.locks; past = p.deeds }, p.purges)))))))
    (λ q. record { weighing = q.0; store = q.1.0.state; past = q.1.0.past; tracked = q.1.1.0; limits = q.1.1.1.0; evicted = record { weight = q.1.1.1.1.0.0; count = q.1.1.1.1.0.1 }; locks = q.1.1.1.1.1.0.table; deeds = q.1.1.1.1.1.0.past; purges = q.1.1.1.1.1.1 })
    (λ _. refl)
