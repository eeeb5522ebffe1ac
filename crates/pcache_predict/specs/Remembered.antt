-- What a predictor remembers (own): for each shard a plain list of keys with reasons, the last marked first.
use Rattle.std.specs.Prelude.{ℕ, ◌%◌, not, nat_eq, List, [], ◌∷◌, filter, length, take, max, Option, slice_index_or, slice_set}
use Rattle.std.specs.Map.{lookup}
use Rattle.pcache_base.specs.declared.reason.NoCacheReason.{NoCacheReason}

-- how many keys a list may have, and its keys (primary hashes as numbers) with their reasons, the last marked first
pub record Shard : Type 0 where
  pub capacity : ℕ
  pub keys : List (ℕ × NoCacheReason)

-- no key yet; a capacity of 0 counts as 1
abbrev pub empty_shard : ℕ → Shard
empty_shard capacity = record { capacity = max capacity 1; keys = [] }

-- the reason that a key was marked with
abbrev pub found : ℕ → Shard → Option NoCacheReason
found key l = lookup (nat_eq key) l.keys

-- the keys without this one
abbrev pub others : ℕ → List (ℕ × NoCacheReason) → List (ℕ × NoCacheReason)
others key keys = filter (λ e. not (nat_eq key e.0)) keys

-- a mark moves its key to the front, and cuts the list to the capacity
abbrev pub marked : ℕ → NoCacheReason → Shard → Shard
marked key why l = record l { keys = take l.capacity ((key, why) ∷ others key l.keys) }

-- an unmarking removes its key
abbrev pub unmarked : ℕ → Shard → Shard
unmarked key l = record l { keys = others key l.keys }

-- the list that a key belongs to
abbrev pub place : List Shard → ℕ → ℕ
place shards key = key % length shards

abbrev pub shard_of : List Shard → ℕ → Shard
shard_of shards key = slice_index_or shards (place shards key) (empty_shard 0)

-- the reason that is remembered for a key
abbrev pub reason_of : List Shard → ℕ → Option NoCacheReason
reason_of shards key = found key (shard_of shards key)

-- the shards after a key was marked with a reason
abbrev pub after_mark : List Shard → ℕ → NoCacheReason → List Shard
after_mark shards key why = slice_set shards (place shards key) (marked key why (shard_of shards key))

-- the shards after a key was unmarked
abbrev pub after_unmark : List Shard → ℕ → List Shard
after_unmark shards key = slice_set shards (place shards key) (unmarked key (shard_of shards key))
