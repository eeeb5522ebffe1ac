-- An encoding of what contracts see of a world, which the value of a model needs (own).
use Rattle.std.specs.Prelude.{ℕ, List, refl}
use Rattle.std.specs.Coded.{Coded, code_by, coded×, coded_ℕ, coded_list}
use Rattle.std.specs.FinMap.{code}
use Rattle.pcache_evict.specs.LimitsCode.{limits_code}
use Rattle.pcache_evict.specs.Tracked.{Limits, Tracked}
use Rattle.pcache_evict.specs.contracts.eviction.entry_key.CacheEntryKey as key_row
use Rattle.pcache_history.specs.Log.{Log}
use Rattle.pcache_history.specs.contracts.entry.Entry as entry_row
use Rattle.pcache_history.specs.declared.entry.Entry.{Entry}

abbrev pub log_code : Coded Log
log_code =
    code_by (List Entry × (Tracked × (Limits × ((ℕ × ℕ) × ℕ))))
    (coded× (coded_list entry_row.the_row.coded) (coded× (code key_row.the_row.coded coded_ℕ) (coded× limits_code (coded× (coded× coded_ℕ coded_ℕ) coded_ℕ))))
    (λ l. (l.history, (l.start, (l.limits, ((l.evicted.weight, l.evicted.count), l.age)))))
    (λ p. record { history = p.0; start = p.1.0; limits = p.1.1.0; evicted = record { weight = p.1.1.1.0.0; count = p.1.1.1.0.1 }; age = p.1.1.1.1 })
    (λ _. refl)
