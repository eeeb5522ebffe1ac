-- The index of the tokens of a permit's publications (own).
use Rattle.std.specs.Prelude.{ℕ, ◌≡◌, ◌<◌, ◌≤◌, ◌+◌, ◌*◌, ◌^◌, ◌==◌, suc, zero, Bool, true, false, List, [], ◌∷◌, Option, None, Some}
use Rattle.std.specs.List.{list_any}
use Rattle.std.specs.Ordering.{nat_cmp}
use Rattle.std.specs.BTreeSet.{BTreeSet, contains}

-- the publication at a position has the token
abbrev pub has_token : List (List ℕ) → ℕ → ℕ → Bool
has_token [] place token = false
has_token (p ∷ ps) zero token = list_any (λ t. t == token) p
has_token (p ∷ ps) (suc place) token = has_token ps place token

-- a token at a position, as one number
abbrev pub entry_of : ℕ → ℕ → ℕ
entry_of token place = token * 2 ^ 64 + place

-- a number is the index entry of one of these tokens at a position
abbrev pub is_entry_for : ℕ → List ℕ → ℕ → Bool
is_entry_for place tokens q = list_any (λ t. entry_of t place == q) tokens

-- the index has the tokens of the publications, each with its positions, and no others
abbrev pub IsIndex : BTreeSet ℕ → List (List ℕ) → Type 0
IsIndex index ps = (token place : ℕ) → place < 2 ^ 64 → contains nat_cmp index (entry_of token place) ≡ has_token ps place token

-- the first position of a token from one position to before another, if it has any there
abbrev pub IsFirstPosition : List (List ℕ) → ℕ → ℕ → ℕ → Option ℕ → Type 0
IsFirstPosition ps token from before None = (i : ℕ) → from ≤ i → i < before → has_token ps i token ≡ false
IsFirstPosition ps token from before (Some place) = (from ≤ place) × (place < before) × (has_token ps place token ≡ true)
    × ((i : ℕ) → from ≤ i → i < place → has_token ps i token ≡ false)
