-- A manager with one recency list, and what its calls do (own).
use Rattle.std.specs.Prelude.{◌≡◌, ℕ, ◌+◌, ◌-◌, ◌^◌, ◌<◌, ◌≤◌, Option, List, [], ◌++◌, length, min, All}
use Rattle.std.specs.List.{IsDistinct}
use Rattle.std.specs.Map.{keys_of}
use Rattle.std.specs.FinMap.{from_entries}
use Rattle.lru.specs.LruCache.{LruCache}
use Rattle.pcache_evict.specs.declared.eviction.entry_key.CacheEntryKey.{CacheEntryKey}
use Rattle.pcache_evict.specs.declared.eviction.policy.EvictionPolicy.TheVariants.{Lru}
use Rattle.pcache_evict.specs.Entry.{entry_cmp, entry_eq}
use Rattle.pcache_evict.specs.Tracked.{Tracked, Limits, Evicted, limits_of}
use Rattle.pcache_evict.specs.Recency.{Recency, weight, IsWithinAsList, Evicts}

-- the list, the limits, and what was evicted so far
pub record Listed : Type 0 where
  pub entries : Recency
  pub limits : Limits
  pub evicted : Evicted

abbrev pub map_of : Recency → Tracked
map_of l = from_entries {R = entry_cmp} l

-- a new manager with these limits
abbrev pub empty_list : ℕ → Option ℕ → Listed
empty_list limit watermark = record { entries = []; limits = limits_of Lru limit watermark; evicted = record { weight = 0; count = 0 } }

-- no entry occurs twice
abbrev pub IsOnce : Recency → Type 0
IsOnce l = IsDistinct entry_eq (keys_of l)

-- the list becomes this one, and then entries are evicted
pub record Moves (old : Listed) (list : Recency) (new : Listed) (out : List CacheEntryKey) : Type 0 where
  pub once : IsOnce list
  pub evicts : Evicts old.limits list new.entries out
  pub limits : new.limits ≡ old.limits
  pub weight : new.evicted.weight ≡ min (old.evicted.weight + (weight list - weight new.entries)) (2 ^ 64 - 1)
  pub count : new.evicted.count ≡ min (old.evicted.count + length out) (2 ^ 64 - 1)

-- the invariant of the code's list
pub record IsKept (cache : LruCache CacheEntryKey ℕ) (total : ℕ) : Type 0 where
  pub summed : total ≡ weight cache.entries
  pub room : cache.cap ≡ 2 ^ 64 - 1
  pub few : length cache.entries < 2 ^ 63
  pub small : All (λ e. e.1 ≤ 2 ^ 64 - 1) cache.entries
  pub distinct : IsDistinct entry_eq (keys_of cache.entries)

-- to remove so many entries at its end brings a list within the limits
abbrev pub IsEnough : Limits → Recency → ℕ → Type 0
IsEnough limits l m = (front : Recency) × (back : Recency) × (l ≡ front ++ back) × (length back ≤ m) × IsWithinAsList limits front
