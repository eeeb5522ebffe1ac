-- Entries that leave a list, whichever they are, while there is no room (own).
use Rattle.std.specs.Prelude.{◌≡◌, ℕ, ◌+◌, ◌≤◌, List, ◌++◌, length, IfSome}
use Rattle.pcache_evict.specs.declared.eviction.entry_key.CacheEntryKey.{CacheEntryKey}
use Rattle.pcache_evict.specs.Tracked.{Limits, IsFair, without, weight_in}
use Rattle.pcache_evict.specs.Recency.{Recency, weight}
use Rattle.pcache_evict.specs.Listed.{map_of}

-- the limits hold for a list with `count` more entries of this total weight
pub record HasRoom (limits : Limits) (size count : ℕ) (l : Recency) : Type 0 where
  pub heavy : size + weight l ≤ limits.weight
  pub many : IfSome limits.watermark (λ most. count + length l ≤ most)

-- entries before a list, of this weight and number
pub record Coming (coming : Recency) (size count : ℕ) : Type 0 where
  pub sum : (l : Recency) → weight (coming ++ l) ≡ size + weight l
  pub long : (l : Recency) → length (coming ++ l) ≡ count + length l

-- these entries go from a list, each because the limits do not hold, until they hold
pub record Run (limits : Limits) (out : List CacheEntryKey) (l after : Recency) : Type 0 where
  pub fair : IsFair limits (map_of l) out
  pub left : map_of after ≡ without out (map_of l)
  pub gone : weight_in (map_of l) out + weight after ≡ weight l
