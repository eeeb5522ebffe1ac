-- Encodings of what contracts see of purges and fetches, which the values of models need (own).
use Rattle.std.specs.Prelude.{ℕ, List, refl}
use Rattle.std.specs.Coded.{Coded, code_by, coded×, coded_list, coded_ℕ}
use Rattle.pcache_cache.specs.Fetching.{FetchNote, PurgesSeen}

abbrev pub purges_code : Coded PurgesSeen
purges_code =
    code_by (ℕ × (List ℕ × List ℕ)) (coded× coded_ℕ (coded× (coded_list coded_ℕ) (coded_list coded_ℕ))) (λ p. (p.count, (p.last, p.next))) (λ q. record { count = q.0; last = q.1.0; next = q.1.1 })
    (λ _. refl)

abbrev pub fetch_code : Coded FetchNote
fetch_code = code_by (ℕ × ℕ) (coded× coded_ℕ coded_ℕ) (λ f. (f.url, f.purges)) (λ q. record { url = q.0; purges = q.1 }) (λ _. refl)
