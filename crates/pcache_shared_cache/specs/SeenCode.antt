-- Encodings of what contracts see of a part and of its requests, which the values of models need (own).
use denote.Builtin.{unit}
use Rattle.std.specs.Prelude.{ℕ, List, Option, refl}
use Rattle.std.specs.Coded.{Coded, code_by, coded×, coded_list, coded_ℕ}
use Rattle.std.specs.FinMap.{code}
use Rattle.pcache_cache.specs.Fetching.{FetchNote}
use Rattle.pcache_cache.specs.Parts.{Parts}
use Rattle.pcache_cache.specs.PartsCode.{parts_code}
use Rattle.pcache_cache.specs.contracts.request.CacheRequest as request_row
use Rattle.pcache_evict.specs.LimitsCode.{limits_code}
use Rattle.pcache_evict.specs.Tracked.{Limits, Tracked}
use Rattle.pcache_evict.specs.contracts.eviction.entry_key.CacheEntryKey as key_row
use Rattle.pcache_request.specs.Requests.{Request}
use Rattle.pcache_shared_cache.specs.Managed.{Managed}
use Rattle.pcache_shared_cache.specs.Seen.{Begun, Held, Placed}
use Rattle.pcache_shared_cache.specs.Shared.{Seated}

abbrev pub placed_code : Coded Placed
placed_code = code_by (ℕ × List Parts) (coded× coded_ℕ (coded_list parts_code)) (λ p. (p.place, p.log)) (λ q. record { place = q.0; log = q.1 }) (λ _. refl)

abbrev pub held_code : Coded Held
held_code = code_by (ℕ × (List Parts × Parts)) (coded× coded_ℕ (coded× (coded_list parts_code) parts_code)) (λ p. (p.place, (p.log, p.now))) (λ q. record { place = q.0; log = q.1.0; now = q.1.1 }) (λ _. refl)

abbrev pub begun_code : Coded Begun
begun_code =
    code_by (ℕ × Parts) (coded× coded_ℕ parts_code) (λ p. (p.place, p.first)) (λ q. record { place = q.0; first = q.1 }) (λ _. refl)

abbrev pub firsts_code : Coded (List Parts)
firsts_code = coded_list parts_code

abbrev pub managers_code : Coded (List Managed)
managers_code =
    coded_list (code_by (Tracked × (Limits × (ℕ × ℕ))) (coded× (code key_row.the_row.coded coded_ℕ) (coded× limits_code (coded× coded_ℕ coded_ℕ)))
    (λ m. (m.tracked, (m.limits, (m.evicted.weight, m.evicted.count)))) (λ q. record { tracked = q.0; limits = q.1.0; evicted = record { weight = q.1.1.0; count = q.1.1.1 } }) (λ _. refl))

abbrev request_code : Coded (Request × Option FetchNote)
request_code =
    code_by ((request_row.the_row unit).Denot) ((request_row.the_row unit).coded) (λ r. record { cache = r.0; fetch = r.1; of = record {} }) (λ d. (d.cache, d.fetch)) (λ _. refl)

abbrev pub seated_code : Coded Seated
seated_code =
    code_by (ℕ × (List Parts × (Request × Option FetchNote))) (coded× coded_ℕ (coded× (coded_list parts_code) request_code)) (λ s. (s.place, (s.seen, (s.cache, s.fetch))))
    (λ q. record { place = q.0; seen = q.1.0; cache = q.1.1.0; fetch = q.1.1.1 }) (λ _. refl)
