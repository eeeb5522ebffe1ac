-- Recency lists in shards: each entry is in the list of its key's shard (own).
use Rattle.std.specs.Prelude.{◌≡◌, ℕ, ◌+◌, ◌-◌, ◌^◌, ◌<◌, ◌≤◌, ◌%◌, Option, None, List, [], ◌∷◌, ◌++◌, length, min, All, is_some, if◌then◌else◌, slice_index, slice_index_or, slice_get, slice_set, replicate, option_map}
use Rattle.std.specs.List.{AllByRecursion}
use Rattle.std.specs.Map.{set_value}
use Rattle.pcache_base.specs.CompactKey.{compact_slot}
use Rattle.pcache_evict.specs.declared.eviction.entry_key.CacheEntryKey.{CacheEntryKey}
use Rattle.pcache_evict.specs.declared.eviction.policy.EvictionPolicy.TheVariants.{ShardedLru}
use Rattle.pcache_evict.specs.Entry.{entry_eq, key_of}
use Rattle.pcache_evict.specs.Tracked.{Limits, Evicted, raised, limits_of}
use Rattle.pcache_evict.specs.Recency.{Recency, weight, weight_of, moved, IsWithinAsList}
use Rattle.pcache_evict.specs.Listed.{IsOnce}

-- the shard of an entry: the combined hash of its key, as a number, modulo the number of shards
abbrev pub shard_of : ℕ → CacheEntryKey → ℕ
shard_of n k = compact_slot (key_of k) % n

-- the list of a shard
abbrev pub list_at : List Recency → ℕ → Recency
list_at shards i = slice_index_or shards i []

-- the entries of all shards
abbrev pub all : List Recency → Recency
all [] = []
all (l ∷ shards) = l ++ all shards

-- a list of a shard has entries of its own, each once
pub record IsShard (n place : ℕ) (l : Recency) : Type 0 where
  pub own : AllByRecursion (λ e. shard_of n e.0 ≡ place) l
  pub once : IsOnce l

-- so many lists, and each entry is in the list of its key's shard
pub record ArePlaced (n : ℕ) (shards : List Recency) : Type 0 where
  pub some : 0 < n
  pub long : length shards ≡ n
  pub each : (place : ℕ) → IsShard n place (list_at shards place)

-- so many empty lists
abbrev pub no_entries : ℕ → List Recency
no_entries n = replicate n []

-- the shards with a change made to the list of an entry's shard
abbrev pub in_shard : ℕ → CacheEntryKey → (Recency → Recency) → List Recency → List Recency
in_shard n k becomes shards = slice_set shards (shard_of n k) (becomes (list_at shards (shard_of n k)))

-- the list with another weight for an entry, which keeps its position
abbrev pub reweighed : CacheEntryKey → ℕ → Recency → Recency
reweighed k n l = set_value (entry_eq k) l n

-- the key of the last entry
abbrev pub last_key : Recency → Option CacheEntryKey
last_key l = option_map (λ (e : CacheEntryKey × ℕ). e.0) (slice_get l (length l - 1))

-- an increment raises the weight of an entry in place; one that is not in the list is added at the front
abbrev pub grown : CacheEntryKey → ℕ → Option ℕ → Recency → Recency
grown k delta cap l = if is_some (weight_of k l) then reweighed k (raised delta cap (weight_of k l)) l else moved k (raised delta cap None) l

-- a loaded entry is added at the back; one that is in the list is unchanged
abbrev pub added_last : CacheEntryKey → ℕ → Recency → Recency
added_last k n l = if is_some (weight_of k l) then l else l ++ (k, n) ∷ []

-- entries that are loaded one after the other, each into the list of its key's shard
abbrev pub added_last_all : ℕ → Recency → List Recency → List Recency
added_last_all n [] shards = shards
added_last_all n (e ∷ entries) shards = added_last_all n entries (in_shard n e.0 (added_last e.0 e.1) shards)

-- how long the lists are
pub record AreLengths (n : ℕ) (lens : List ℕ) (shards : List Recency) : Type 0 where
  pub long : length lens ≡ n
  pub each : (place : ℕ) → place < n → slice_index lens place ≡ length (list_at shards place)

-- so many lists as before, each with entries added at its back
pub record AreLonger (old new : List Recency) : Type 0 where
  pub long : length new ≡ length old
  pub each : (place : ℕ) → (tail : Recency) × (list_at new place ≡ list_at old place ++ tail)

-- entries are popped, each from the end of a nonempty list, while the limits don't hold
abbrev pub RunsOut : Limits → List Recency → List CacheEntryKey → List Recency → Type 0
RunsOut limits shards [] after = (after ≡ shards) × IsWithinAsList limits (all shards)
RunsOut limits shards (k ∷ out) after =
    (¬ IsWithinAsList limits (all shards)) × (before : List Recency) × (list : Recency) × (n : ℕ) × (behind : List Recency) × (shards ≡ before ++ (list ++ (k, n) ∷ []) ∷ behind) × RunsOut limits (before ++ list ∷ behind) out after

-- the lists, the limits, and what was evicted so far
pub record Sharded : Type 0 where
  pub shards : List Recency
  pub limits : Limits
  pub evicted : Evicted

-- a new manager with so many shards and these limits
abbrev pub empty_shards : ℕ → ℕ → Option ℕ → Sharded
empty_shards n limit watermark = record { shards = no_entries n; limits = limits_of ShardedLru limit watermark; evicted = record { weight = 0; count = 0 } }

-- the lists become these, and then entries are evicted
pub record Runs (n : ℕ) (old : Sharded) (lists : List Recency) (new : Sharded) (out : List CacheEntryKey) : Type 0 where
  pub placed : ArePlaced n lists
  pub runs : RunsOut old.limits lists out new.shards
  pub limits : new.limits ≡ old.limits
  pub weight : new.evicted.weight ≡ min (old.evicted.weight + (weight (all lists) - weight (all new.shards))) (2 ^ 64 - 1)
  pub count : new.evicted.count ≡ min (old.evicted.count + length out) (2 ^ 64 - 1)

-- the invariant of the code's lists
pub record AreKept (n : ℕ) (shards : List Recency) (total items : ℕ) : Type 0 where
  pub placed : ArePlaced n shards
  pub small : (place : ℕ) → All (λ e. e.1 ≤ 2 ^ 64 - 1) (list_at shards place)
  pub summed : total ≡ weight (all shards)
  pub counted : items ≡ length (all shards)
  pub few : length (all shards) < 2 ^ 63
