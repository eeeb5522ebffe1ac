-- Slots and writes in shards (own): there are 16 shards, and the shard of a key is the key modulo 16.
use Rattle.std.specs.Prelude.{ℕ, ◌≡◌, ◌<◌, ◌^◌, ◌%◌, ◌==◌, suc, List, [], ◌∷◌, length, slice_index_or, Bool, false, Option, Some, None, is_some, cond}
use Rattle.std.specs.Ordering.{nat_cmp}
use Rattle.std.specs.FinMap.{FinMap, empty, get, len, retain_keys}
use Rattle.pcache_table.specs.Sharding.{Part, AllPlaced, one_map}
use Rattle.pcache_store.specs.Store.{Slot, Written}

-- one if a key has a value, else zero
abbrev pub one_if_some : {V : Type 0} → Option V → ℕ
one_if_some o = cond (is_some o) 1 0

-- the tables, each with its place
abbrev pub parts : {V : Type 0} → ℕ → List (FinMap nat_cmp V) → List (Part V)
parts i [] = []
parts i (m ∷ ms) = record { place = i; map = m } ∷ parts (suc i) ms

-- each key is in the table of its shard, and `count` is the number of all keys
pub record AreShards (shards : List (FinMap nat_cmp Slot)) (count : ℕ) : Type 0 where
  pub long : length shards ≡ 16
  pub placed : AllPlaced 16 (parts 0 shards)
  pub counted : count ≡ len (one_map (parts 0 shards))
  pub few : count < 2 ^ 63

-- the writes of a shard's keys
abbrev pub is_of_shard : ℕ → Option Written → Bool
is_of_shard shard None = false
is_of_shard shard (Some w) = (w.slot % 16) == shard

abbrev pub of_shard : ℕ → FinMap nat_cmp Written → FinMap nat_cmp Written
of_shard shard ws = retain_keys ws (λ n. is_of_shard shard (get ws n))

-- the table at a place
abbrev pub table_at : List (FinMap nat_cmp Written) → ℕ → FinMap nat_cmp Written
table_at shards place = slice_index_or shards place empty

-- each write is in the table of its key's shard and in no other, and `count` is the number of all writes
pub record AreRecords (shards : List (FinMap nat_cmp Written)) (count : ℕ) : Type 0 where
  pub long : length shards ≡ 16
  pub own : (place : ℕ) → place < 16 → table_at shards place ≡ of_shard place (one_map (parts 0 shards))
  pub counted : count ≡ len (one_map (parts 0 shards))
  pub few : count < 2 ^ 63

-- the table at this place has the number if any table has it
abbrev pub IsPlaceOf : List (FinMap nat_cmp Written) → ℕ → ℕ → Type 0
IsPlaceOf shards number place = get (table_at shards place) number ≡ None → (i : ℕ) → i < 16 → get (table_at shards i) number ≡ None
