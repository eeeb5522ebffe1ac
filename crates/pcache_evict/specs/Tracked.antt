-- What an eviction manager tracks: a map from entries to weights, and which evictions from it are fair (own).
use Rattle.std.specs.Prelude.{◌≡◌, ℕ, ◌+◌, ◌-◌, ◌^◌, ◌≤◌, Option, None, Some, List, [], ◌∷◌, ◌++◌, All, IfSome, IsTrue, sum, sum_by, length, min, max, unwrap_or, if◌then◌else◌}
use Rattle.std.specs.List.{IsDistinct}
use Rattle.std.specs.Ordering.{eq_by_cmp}
use Rattle.std.specs.FinMap.{FinMap, get, insert, remove, values, len, contains_key}
use Rattle.pcache_evict.specs.declared.eviction.entry_key.CacheEntryKey.{CacheEntryKey}
use Rattle.pcache_evict.specs.declared.eviction.policy.EvictionPolicy.{EvictionPolicy}
use Rattle.pcache_evict.specs.Entry.{entry_cmp}

-- the tracked entries, each with its weight
abbrev pub Tracked : Type 0
Tracked = FinMap entry_cmp ℕ

-- the sum of the weights
abbrev pub weight : Tracked → ℕ
weight m = sum (values m)

-- the map without these entries
abbrev pub without : List CacheEntryKey → Tracked → Tracked
without [] m = m
without (e ∷ es) m = without es (remove m e)

-- an access adds an entry only if it is not tracked
abbrev pub added : Tracked → CacheEntryKey → ℕ → Tracked
added m e n = if contains_key m e then m else insert m e n

-- the weight after an increment: at most the cap, and not below the old weight; an entry that is not tracked is added
-- with at least 1
abbrev pub raised : ℕ → Option ℕ → Option ℕ → ℕ
raised delta cap None = max 1 (min delta (unwrap_or cap (2 ^ 64 - 1)))
raised delta cap (Some w) = max w (min (w + delta) (unwrap_or cap (2 ^ 64 - 1)))

-- the map with the weight of an entry raised
abbrev pub incremented : Tracked → CacheEntryKey → ℕ → Option ℕ → Tracked
incremented m e delta cap = insert m e (raised delta cap (get m e))

-- what no call of a manager changes: its limits, on the weight, and on the number of entries if there is a watermark; and the
-- policy that entries go by, which is not looked at to see whether the limits hold
pub record Limits : Type 0 where
  pub weight : ℕ
  pub watermark : Option ℕ
  pub policy : EvictionPolicy

-- these limits, of a manager that goes by this policy
abbrev pub limits_of : EvictionPolicy → ℕ → Option ℕ → Limits
limits_of policy limit watermark = record { weight = limit; watermark = watermark; policy = policy }

-- the map is within the limits
pub record IsWithin (limits : Limits) (m : Tracked) : Type 0 where
  pub weight : weight m ≤ limits.weight
  pub count : IfSome limits.watermark (λ most. len m ≤ most)

-- what may be evicted from a map: tracked entries, each once, such that the limits hold without them, but do not hold with the
-- last one put back
pub record IsFair (limits : Limits) (m : Tracked) (out : List CacheEntryKey) : Type 0 where
  pub tracked : All (λ e. IsTrue (contains_key m e)) out
  pub once : IsDistinct (eq_by_cmp entry_cmp) out
  pub enough : IsWithin limits (without out m)
  pub needed : (front : List CacheEntryKey) (last : CacheEntryKey) → out ≡ front ++ last ∷ [] → ¬ IsWithin limits (without front m)

-- the totals of all evicted entries, as they are reported: the largest number means itself or more
pub record Evicted : Type 0 where
  pub weight : ℕ
  pub count : ℕ

-- the sum of the weights that these entries have in a map
abbrev pub weight_in : Tracked → List CacheEntryKey → ℕ
weight_in m es = sum_by (λ e. unwrap_or (get m e) 0) es

-- the totals after these entries of a map are evicted too
abbrev pub evicted_with : Evicted → Tracked → List CacheEntryKey → Evicted
evicted_with before m out = record { weight = min (before.weight + weight_in m out) (2 ^ 64 - 1); count = min (before.count + length out) (2 ^ 64 - 1) }
