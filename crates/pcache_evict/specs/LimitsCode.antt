-- An encoding of a manager's limits, which the values of models need (own).
use Rattle.std.specs.Prelude.{ℕ, Option, refl}
use Rattle.std.specs.Coded.{Coded, code_by, coded×, coded_ℕ, coded_option}
use Rattle.pcache_evict.specs.Tracked.{Limits}
use Rattle.pcache_evict.specs.contracts.eviction.policy.EvictionPolicy as policy_row
use Rattle.pcache_evict.specs.declared.eviction.policy.EvictionPolicy.{EvictionPolicy}

abbrev pub limits_code : Coded Limits
limits_code =
    code_by (ℕ × (Option ℕ × EvictionPolicy)) (coded× coded_ℕ (coded× (coded_option coded_ℕ) policy_row.the_row.coded))
    (λ l. (l.weight, (l.watermark, l.policy))) (λ q. record { weight = q.0; watermark = q.1.0; policy = q.1.1 }) (λ _. refl)
