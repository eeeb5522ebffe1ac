-- A list's items, from the first comma on.
use Rattle.std.proofs.Common.{position}
use Rattle.std.specs.List.{slice_split, onto_first, position_or_len}
use Rattle.std.proofs.lemmas.List.Splits.{slice_split_first}
use Rattle.pcache_control.specs.Values.{is_comma, trim_ows, list_items}
use borrow.Author.Tests.{ltb-true, ltb-false}
use Rattle.pcache_control.proofs.Words.{◌≡◌, ℕ, ◌+◌, ◌≤◌, Bool, true, false, not, cond, List, [], ◌∷◌, length, take, drop, map, Some, None, refl, ap, ◌∙◌, arith}

some_of : (b : Bool) (n m : ℕ) → cond b (Some n) None ≡ Some m → (b ≡ true) × (n ≡ m)
some_of true n m e = (refl, (cc))
some_of false n m e = absurd cc

none_of : (b : Bool) (n : ℕ) → cond b (Some n) None ≡ None → b ≡ false
none_of true n e = absurd cc
none_of false n e = refl

one_part : (p : ℕ → Bool) (x : ℕ) (xs : List ℕ) (b : Bool) → p x ≡ b → (length xs ≤ position_or_len p xs → slice_split p xs ≡ xs ∷ [])
    → length (x ∷ xs) ≤ cond (not b) (1 + position_or_len p xs) 0 → cond b ([] ∷ slice_split p xs) (onto_first x (slice_split p xs)) ≡ (x ∷ xs) ∷ []
one_part p x xs true is rest long = absurd (omega arith)
one_part p x xs false is rest long = ap (onto_first x) (rest (omega arith))

split_none : (p : ℕ → Bool) (xs : List ℕ) → length xs ≤ position_or_len p xs → slice_split p xs ≡ xs ∷ []
split_none p [] long = refl
split_none p (x ∷ xs) long = one_part p x xs (p x) refl (split_none p xs) long

pub items_at : (bytes : List ℕ) (at : ℕ) → position is_comma bytes ≡ Some at → list_items bytes ≡ trim_ows (take at bytes) ∷ list_items (drop (at + 1) bytes)
unfolding list_items
items_at bytes at e =
    let found = some_of _ _ at e in
    let lt = ltb-true _ _ found.0 in
    ap (map trim_ows) (slice_split_first is_comma bytes 0 lt) ∙ rw found.1 refl

pub items_whole : (bytes : List ℕ) → position is_comma bytes ≡ None → list_items bytes ≡ trim_ows bytes ∷ []
unfolding list_items
items_whole bytes e = ap (map trim_ows) (split_none is_comma bytes (ltb-false _ _ (none_of _ _ e)))
