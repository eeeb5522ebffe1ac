-- The least key of a map from numbers (own).
use Rattle.std.specs.Prelude.{ℕ, List, [], ◌∷◌, Option, Some, None}
use Rattle.std.specs.Ordering.{nat_cmp}
use Rattle.std.specs.FinMap.{FinMap, entries}

abbrev pub first_key : {X : Type 0} → List (ℕ × X) → Option ℕ
first_key [] = None
first_key (e ∷ es) = Some e.0

-- the least key, if there is one: a map's entries are in the order of their keys
abbrev pub least : {X : Type 0} → FinMap nat_cmp X → Option ℕ
least m = first_key (entries m)
