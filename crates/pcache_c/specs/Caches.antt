-- What the calls on a cache as a whole do (own).
use Rattle.std.specs.Prelude.{◌≡◌, ◌==◌, cond, ◌⊎◌, ◌-◌, ◌^◌, ◌≤◌, ℕ, List, [], Option, None, Some, min}
use Rattle.std.specs.FinMap.{len}
use Rattle.pcache_base.specs.Key.{Key}
use Rattle.pcache_cache.specs.Parts.{Parts}
use Rattle.pcache_cache.specs.declared.weighing.Weighing.{Weighing}
use Rattle.pcache_cache.specs.declared.weighing.Weighing.TheVariants.{Bodies, Entries}
use Rattle.pcache_evict.specs.Listed.{map_of}
use Rattle.pcache_evict.specs.Tracked.{limits_of, weight}
use Rattle.pcache_meta.specs.Meta.{Meta}
use Rattle.pcache_store.specs.Totals.{slots, stored_bytes}
use Rattle.pcache_c.specs.AnyManagers.{goes_by}
use Rattle.pcache_c.specs.Codes.{no_memory, nothing}
use Rattle.pcache_c.specs.Counts.{nothing_counted}
use Rattle.pcache_c.specs.Handles.{Fills, IsSame}
use Rattle.pcache_c.specs.Objects.{as_cache}
use Rattle.pcache_c.specs.Opening.{new_cache}
use Rattle.pcache_c.specs.Seats.{request_at, round_at}
use Rattle.pcache_c.specs.declared.any_manager.Policy.{Policy}
use Rattle.pcache_c.specs.declared.caches.PcacheCacheCounts.{PcacheCacheCounts}
use Rattle.pcache_c.specs.declared.handle.PcacheHandle.{PcacheHandle}
use Rattle.pcache_c.specs.declared.object.Object.{Object}
use Rattle.pcache_c.specs.declared.object.Object.TheVariants as object
use Rattle.pcache_c.specs.declared.served.Served.{Served}

-- a key of these bytes, for the user with this tag
abbrev pub key_with : List ℕ → List ℕ → Key
key_with primary tag = record { primary = primary; primary_override = None; variance = None; user_tag = tag; unusable = None }

-- a cache over a manager of this policy, in which nothing is stored, of which no request is open, and that has counted nothing.
-- The policy stands among the limits of its manager, which no call changes. Every place for a request is in round 0
pub record IsNewCache (named : Policy) (how : Weighing) (limit : ℕ) (watermark : Option ℕ) (age : ℕ) (s : Served) : Type 0 where
  pub parts : s.cache ≡ new_cache how (map_of []) (limits_of (goes_by named) limit watermark) (record { weight = 0; count = 0 }) age
  pub counts : s.counts ≡ nothing_counted
  pub none : (number : ℕ) → request_at s.seats number ≡ None
  pub rounds : (place : ℕ) → round_at s.seats place ≡ 0

-- what entries weigh, by the flag of a bounded cache
abbrev pub weighing_at : ℕ → Weighing
weighing_at bounded = cond (bounded == 0) Bodies Entries

-- a handle gets this cache, or has an object already, or there was no memory for a box
abbrev pub GetsCache : Served → PcacheHandle → PcacheHandle → ℕ → Type 0
GetsCache s old new code = ((code ≡ no_memory) × IsSame old new) ⊎ ((made : Object) × (as_cache made ≡ Some s) × Fills made old new code)

-- a handle gets a new cache of this policy whose entries weigh so, or there was no memory for its manager
abbrev pub MakesCache : Policy → Weighing → ℕ → Option ℕ → ℕ → PcacheHandle → PcacheHandle → ℕ → Type 0
MakesCache named how limit watermark age old new code = ((code ≡ no_memory) × IsSame old new)
    ⊎ ((s : Served) × IsNewCache named how limit watermark age s × GetsCache s old new code)

pub record SaysCounts (c : Parts) (out : PcacheCacheCounts) : Type 0 where
  pub stored : out.stored_bytes ≡ min (stored_bytes c.store) (2 ^ 64 - 1)
  -- within the limit, at all times
  pub within : stored_bytes c.store ≤ c.limits.weight
  pub bodies : out.bodies ≡ slots c.store
  pub weight : out.weight ≡ min (weight c.tracked) (2 ^ 64 - 1)
  pub entries : out.entries ≡ len c.tracked
  pub evicted_weight : out.evicted_weight ≡ c.evicted.weight
  pub evicted_entries : out.evicted_entries ≡ c.evicted.count

-- a handle gets a copy of a meta, if there is one
abbrev pub CopiesMeta : Option Meta → PcacheHandle → PcacheHandle → ℕ → Type 0
CopiesMeta None old new code = (code ≡ nothing) × IsSame old new
CopiesMeta (Some m) old new code = ((code ≡ no_memory) × IsSame old new) ⊎ Fills (object.Meta m) old new code
