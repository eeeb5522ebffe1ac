-- How a store in memory keeps its writes (own).
use Rattle.std.specs.Prelude.{ℕ, ◌≡◌, ◌≤◌, ◌^◌, Bool, true, false, Option, None, Some, refl}
use Rattle.std.specs.Ordering.{nat_cmp}
use Rattle.std.specs.Coded.{Coded, code_by, coded×, coded_ℕ}
use Rattle.std.specs.FinMap.{FinMap, get, code}
use Rattle.pcache_store.specs.Store.{Written, Stored, closed, grounded_on}
use Rattle.pcache_store.specs.StoreCode.{written_code}

-- the writes, and the number of the next one
pub record Numbered : Type 0 where
  pub writes : FinMap nat_cmp Written
  pub next : ℕ

abbrev pub numbered_code : Coded Numbered
numbered_code = code_by (FinMap nat_cmp Written × ℕ) (coded× (code coded_ℕ written_code) coded_ℕ) (λ a. (a.writes, a.next)) (λ p. record { writes = p.0; next = p.1 }) (λ _. refl)

-- the number of the next write, as the store keeps it: none if all are used
abbrev pub next_number : Option ℕ → ℕ
next_number None = 2 ^ 64
next_number (Some n) = n

-- no write has the number of the next one, or a later one
abbrev pub AreBefore : FinMap nat_cmp Written → ℕ → Type 0
AreBefore ws n = (q : ℕ) → n ≤ q → get ws q ≡ None

-- the body of a write
abbrev pub IsBodyOf : Option Written → Stored → Type 0
IsBodyOf None b = ⊥
IsBodyOf (Some w) b = b ≡ record { meta = w.meta; bytes = w.bytes }

-- the records after a write whose body was stored ended
abbrev pub closed_on : FinMap nat_cmp Written → ℕ → Option Written → FinMap nat_cmp Written
closed_on ws n None = ws
closed_on ws n (Some w) = closed ws n w

-- the records after a write ended, whose body was stored or not
abbrev pub ended_on : Bool → FinMap nat_cmp Written → ℕ → Option Written → FinMap nat_cmp Written
ended_on true ws n o = closed_on ws n o
ended_on false ws n o = grounded_on ws n o
