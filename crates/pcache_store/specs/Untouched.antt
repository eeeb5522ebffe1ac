-- The numbers of a key's untouched writes, one of which is kept apart from the others (own).
use Rattle.std.specs.Prelude.{ℕ, List, Option, Some, None, Bool, false, ◌==◌, nat_lt, cond}
use Rattle.std.specs.Ordering.{nat_cmp}
use Rattle.std.specs.FinMap.{FinMap, from_entries, insert}

-- the numbers in a tree
abbrev pub numbers_in : List (ℕ × Unit {0}) → FinMap nat_cmp (Unit {0})
numbers_in es = from_entries es

abbrev pub with_one : Option ℕ → FinMap nat_cmp (Unit {0}) → FinMap nat_cmp (Unit {0})
with_one None more = more
with_one (Some n) more = insert more n tt

-- the lesser of a number and another, if there is another
abbrev pub lesser : ℕ → Option ℕ → ℕ
lesser n None = n
lesser n (Some x) = cond (nat_lt x n) x n

-- the greater of a number and another, if there is another
abbrev pub greater : ℕ → Option ℕ → ℕ
greater n None = n
greater n (Some x) = cond (nat_lt n x) x n

-- whether it is the number that is kept apart
abbrev pub is_one : Option ℕ → ℕ → Bool
is_one None k = false
is_one (Some n) k = n == k
