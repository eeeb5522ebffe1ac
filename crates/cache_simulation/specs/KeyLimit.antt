-- The largest sample with at most so many keys: the fixed size, s_max, of SHARDS (Waldspurger, Park, Garthwaite, Ahmad, FAST 2015).
-- A key is known by the first eight bytes of its hash as a number, as in a sample with a rate.
use Rattle.std.specs.Prelude.{◌≡◌, ℕ, nat_eq, ◌+◌, ◌*◌, ◌%◌, ◌^◌, ◌<◌, ◌≤◌, List, [], ◌∷◌, take, All, filter}
use Rattle.std.specs.Ordering.{nat_cmp}
use Rattle.std.specs.BTreeSet.{insert_key}
use Rattle.std.specs.Set.{distinct_count}
use Rattle.cache_simulation.specs.declared.key_limit.LowestKeys.{LowestKeys}
use Rattle.cache_simulation.specs.Sampled.{whole, is_in_part}

-- how many of these keys are in the first part of this size, each counted once
abbrev pub keys_in : ℕ → List ℕ → ℕ
keys_in rate hashes = distinct_count nat_eq (filter (is_in_part rate 0) hashes)

-- at this rate the sample has at most so many of these keys, and at any larger one it has more
pub record IsLargestRate (most : ℕ) (hashes : List ℕ) (rate : ℕ) : Type 0 where
  pub few : keys_in rate hashes ≤ most
  pub within : rate ≤ whole
  pub largest : (other : ℕ) → rate < other → other ≤ whole → most < keys_in other hashes

-- how keys are kept: in the order of the remainders that say in which part they are
abbrev pub rank : ℕ → ℕ
rank hash = hash % whole * 2 ^ 64 + hash

-- these keys, each once, in that order
abbrev pub ranks : List ℕ → List ℕ
ranks [] = []
ranks (hash ∷ hashes) = insert_key nat_cmp (ranks hashes) (rank hash)

-- of these keys, the first ones are kept: as many as the sample may have, and one more
pub record HasLowest (hashes : List ℕ) (keys : LowestKeys) : Type 0 where
  pub small : All (λ hash. hash < 2 ^ 64) hashes
  pub lowest : keys.ranks.keys ≡ take (keys.most + 1) (ranks hashes)
