-- What a part of the keys stands for: sampling by the hashes of keys (SHARDS: Waldspurger, Park, Garthwaite, Ahmad, FAST 2015).
use Rattle.std.specs.Prelude.{ℕ, Bool, ◌&&◌, nat_le, nat_lt, ◌+◌, ◌-◌, ◌*◌, ◌/◌, ◌%◌, ◌<◌, ◌≤◌}

-- the number of parts of the smallest size; sizes of parts are told in these
abbrev pub whole : ℕ
whole = 1000000

-- a hash is in a part of this size: parts of it lie one after the other in the remainders of hashes
pub record IsInPart (rate part hash : ℕ) : Type 0 where
  pub from : rate * part ≤ hash % whole
  pub to : hash % whole < rate * part + rate

-- the same as a test
abbrev pub is_in_part : ℕ → ℕ → ℕ → Bool
is_in_part rate part hash = nat_le (rate * part) (hash % whole) && nat_lt (hash % whole) (rate * part + rate)

-- how many were to be expected in a part of this size, if there are so many in the whole trace
abbrev pub expected : ℕ → ℕ → ℕ
expected rate all = all * rate / whole

-- the same of bytes, in parts of which none gets too large: whole millions and what is left
abbrev pub expected_bytes : ℕ → ℕ → ℕ
expected_bytes rate all = all / whole * rate + expected rate (all % whole)

-- the hits that a part of the keys stands for (SHARDS_adj): the difference between the requests that were to be expected and those
-- that were read is added to the hits; they are none where it is below 0 by more than these
abbrev pub corrected : ℕ → ℕ → ℕ → ℕ
corrected hits read expected = hits + expected - read
