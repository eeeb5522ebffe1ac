-- The greatest key of a map from numbers (own).
use Rattle.std.specs.Prelude.{ℕ, List, [], ◌∷◌, Option, Some, None, unwrap_or}
use Rattle.std.specs.Ordering.{nat_cmp}
use Rattle.std.specs.FinMap.{FinMap, entries}

abbrev pub last_key : {X : Type 0} → List (ℕ × X) → Option ℕ
last_key [] = None
last_key (e ∷ es) = Some (unwrap_or (last_key es) e.0)

-- the greatest key, if there is one: a map's entries are in the order of their keys
abbrev pub greatest : {X : Type 0} → FinMap nat_cmp X → Option ℕ
greatest m = last_key (entries m)
