-- An encoding of what is recorded of freshness, which the value of a model needs (own).
use Rattle.std.specs.Prelude.{ℕ, refl}
use Rattle.std.specs.Coded.{Coded, code_by, coded×, coded_ℕ}
use Rattle.std.specs.FinMap.{code}
use Rattle.pcache_evict.specs.contracts.eviction.entry_key.CacheEntryKey as key_row
use Rattle.pcache_evict.specs.Tracked.{Tracked}
use Rattle.cache_simulation.specs.Fresh.{Fresh}

abbrev pub fresh_code : Coded Fresh
fresh_code = code_by (ℕ × Tracked) (coded× coded_ℕ (code key_row.the_row.coded coded_ℕ)) (λ f. (f.time, f.came)) (λ p. record { time = p.0; came = p.1 }) (λ _. refl)
