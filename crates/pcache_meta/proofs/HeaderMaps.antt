-- Maps of fields as a meta shows them, and what a map takes.
use Rattle.std.proofs.Common.{length-append}
use Rattle.std.proofs.lemmas.List.{length-map}
use Rattle.std.proofs.lemmas.List.Sums.{sum_by-cons}
use Rattle.http_header.specs.HeaderMap.{value_count, ContainsKey, RefusesAppend}
use Rattle.pcache_meta.specs.HeaderReading.{fits_map, append_at}
use Rattle.pcache_meta.proofs.Words.{◌≡◌, ℕ, suc, ◌+◌, ◌^◌, ◌<◌, ◌≤◌, Bool, true, false, cond, List, [], ◌∷◌, ◌++◌, length, map, Some, None, refl, ap, ◌∙◌, arith, inl, inr, ◌&&◌, bytes_eq, nat_le, nat_lt, lt-ltb, le-ltb, ltb-true, bytes_eq-Decides, FieldValue, Entry, Entries, append, IsHeaderMap, Fields, shown_entry, shown_fields, Field, FitsMap}
use Rattle.pcache_meta.proofs.HeaderNames.{not_true}

module _ {X : Type 0} where
  pub count_cons : (e : Entry X) (m : Entries X) → value_count (e ∷ m) ≡ length e.1 + value_count m
  count_cons e m = sum_by-cons (λ (x : Entry X). length x.1) e m

  -- one more value
  pub value_count-append : (m : Entries X) (name : List ℕ) (v : X) → value_count (append m name v) ≡ value_count m + 1
  value_count-append [] name v = refl
  value_count-append (e ∷ m) name v = elim (bytes_eq e.0 name) as (λ t. value_count (cond t ((e.0, e.1 ++ v ∷ []) ∷ m) (e ∷ append m name v)) ≡ value_count (e ∷ m) + 1) [
    | true ↦ omega (arith, count_cons (e.0, e.1 ++ v ∷ []) m, count_cons e m, length-append e.1 (v ∷ []))
    | false ↦ omega (arith, count_cons e (append m name v), count_cons e m, value_count-append m name v)
  ]

  -- no name goes
  pub length-append_ge : (m : Entries X) (name : List ℕ) (v : X) → length m ≤ length (append m name v)
  length-append_ge [] name v = omega arith
  length-append_ge (e ∷ m) name v = elim (bytes_eq e.0 name) as (λ t. length (e ∷ m) ≤ length (cond t ((e.0, e.1 ++ v ∷ []) ∷ m) (e ∷ append m name v))) [
    | true ↦ omega arith
    | false ↦ omega (arith, length-append_ge m name v)
  ]

  -- a new name is one more
  pub length-append_new : (m : Entries X) (name : List ℕ) (v : X) → (ContainsKey m name → ⊥) → length (append m name v) ≡ length m + 1
  length-append_new [] name v never = refl
  length-append_new (e ∷ m) name v never =
      let other : bytes_eq e.0 name ≡ false = not_true (bytes_eq e.0 name) (λ t. never (0, omega arith, (bytes_eq-Decides e.0 name).0 t)) in
      let later = length-append_new m name v (λ found. never (suc found.0, omega (arith, found.1), found.2)) in
      rw other (omega (arith, later))

-- ---- what is shown

map-append_one : (vs : List FieldValue) (v : FieldValue) → map (λ (x : FieldValue). x.bytes) (vs ++ v ∷ []) ≡ map (λ (x : FieldValue). x.bytes) vs ++ v.bytes ∷ []
map-append_one [] v = refl
map-append_one (w ∷ vs) v = ap (λ (bs : List (List ℕ)). w.bytes ∷ bs) (map-append_one vs v)

pub shown-append : (m : Entries FieldValue) (name : List ℕ) (v : FieldValue) → shown_fields (append m name v) ≡ append (shown_fields m) name v.bytes
shown-append [] name v = refl
shown-append (e ∷ m) name v = elim (bytes_eq e.0 name)
    as (λ t. shown_fields (cond t ((e.0, e.1 ++ v ∷ []) ∷ m) (e ∷ append m name v))
    ≡ cond t ((e.0, map (λ (x : FieldValue). x.bytes) e.1 ++ v.bytes ∷ []) ∷ shown_fields m) (shown_entry e ∷ append (shown_fields m) name v.bytes)) [
      | true ↦ ap (λ (bs : List (List ℕ)). (e.0, bs) ∷ shown_fields m) (map-append_one e.1 v)
      | false ↦ ap (λ (n : Fields). shown_entry e ∷ n) (shown-append m name v)
    ]

pub value_count-shown : (m : Entries FieldValue) → value_count (shown_fields m) ≡ value_count m
value_count-shown [] = refl
value_count-shown (e ∷ m) =
    omega (arith, count_cons (shown_entry e) (shown_fields m), count_cons e m, value_count-shown m, length-map e.1 (λ (x : FieldValue). x.bytes))

pub length-shown : (m : Entries FieldValue) → length (shown_fields m) ≡ length m
length-shown m = length-map m shown_entry

pub FitsMap-shown : (m : Entries FieldValue) → IsHeaderMap m → FitsMap (shown_fields m)
FitsMap-shown m is = (omega (arith, is.names_fit, length-shown m), rw (value_count-shown m) is.values_fit)

-- ---- what a map takes

and_true : (a b : Bool) → a ≡ true → b ≡ true → (a && b) ≡ true
and_true a b p q = rw (p, q) refl

and_false_left : (a b : Bool) → a ≡ false → (a && b) ≡ false
and_false_left a b p = rw p refl

and_false_right : (a b : Bool) → b ≡ false → (a && b) ≡ false
and_false_right true b q = q
and_false_right false b q = refl

pub fits_map-true : (m : Fields) → FitsMap m → fits_map m ≡ true
fits_map-true m is = and_true (nat_le (length m) 24576) (nat_lt (value_count m) (2 ^ 64)) (Prim.grind (arith, is.0)) (lt-ltb _ _ is.1)

pub FitsMap-from_test : (m : Fields) → fits_map m ≡ true → FitsMap m
FitsMap-from_test m e = parts (nat_le (length m) 24576) (nat_lt (value_count m) (2 ^ 64)) refl refl e where
  parts : (a b : Bool) → nat_le (length m) 24576 ≡ a → nat_lt (value_count m) (2 ^ 64) ≡ b → (a && b) ≡ true → FitsMap m
  parts true true p q e = (Prim.grind (arith, p), ltb-true _ _ q)
  parts true false p q e = absurd cc
  parts false b p q e = absurd cc

-- a map that holds one more value holds those before
pub FitsMap-before : (m : Fields) (f : Field) → FitsMap (append m f.0 f.1) → FitsMap m
FitsMap-before m f is = (omega (arith, is.0, length-append_ge m f.0 f.1), omega (arith, is.1, value_count-append m f.0 f.1))

too_many_names : (m : Fields) → 24576 < length m → fits_map m ≡ false
too_many_names m many = and_false_left (nat_le (length m) 24576) (nat_lt (value_count m) (2 ^ 64)) (Prim.grind (arith, many))

too_many_values : (m : Fields) → 2 ^ 64 ≤ value_count m → fits_map m ≡ false
too_many_values m many = and_false_right (nat_le (length m) 24576) (nat_lt (value_count m) (2 ^ 64)) (le-ltb _ _ many)

pub append_at-held : (m : Fields) (f : Field) → FitsMap (append m f.0 f.1) → append_at m f ≡ Some (append m f.0 f.1)
unfolding append_at
append_at-held m f is = rw (fits_map-true (append m f.0 f.1) is) refl

-- a map took the value
pub append_at-some : (old new : Entries FieldValue) (name : List ℕ) (v : FieldValue) → new ≡ append old name v → IsHeaderMap new
    → append_at (shown_fields old) (name, v.bytes) ≡ Some (shown_fields new)
append_at-some old new name v made is =
    let same : shown_fields new ≡ append (shown_fields old) name v.bytes = ap (λ (m : Entries FieldValue). shown_fields m) made ∙ shown-append old name v in
    rw same (append_at-held (shown_fields old) (name, v.bytes) (rw (← same) (FitsMap-shown new is)))

-- a map is full
pub append_at-none : (old : Entries FieldValue) (name : List ℕ) (v : FieldValue) → RefusesAppend old name
    → append_at (shown_fields old) (name, v.bytes) ≡ None
unfolding append_at
append_at-none old name v refused = rw (no_room refused) refl where
  full_values : 2 ^ 64 ≤ value_count old + 1 → fits_map (append (shown_fields old) name v.bytes) ≡ false
  full_values full =
      too_many_values (append (shown_fields old) name v.bytes) (omega (arith, full, value_count-append (shown_fields old) name v.bytes, value_count-shown old))

  no_room : RefusesAppend old name → fits_map (append (shown_fields old) name v.bytes) ≡ false
  no_room (inl full) = full_values full
  no_room (inr (fresh, inr full)) = full_values full
  no_room (inr (fresh, inl full)) =
      let new = length-append_new old name v fresh in
      let same = ap (λ (m : Fields). length m) (shown-append old name v) in
      too_many_names (append (shown_fields old) name v.bytes) (omega (arith, full, new, same, length-shown (append old name v)))

pub append_at-takes : (m : Fields) (f : Field) (n : Fields) → append_at m f ≡ Some n → (n ≡ append m f.0 f.1) × FitsMap n
unfolding append_at
append_at-takes m f n e = taken (fits_map (append m f.0 f.1)) refl e where
  taken : (b : Bool) → fits_map (append m f.0 f.1) ≡ b → cond b (Some (append m f.0 f.1)) None ≡ Some n → (n ≡ append m f.0 f.1) × FitsMap n
  taken true is e = let same : n ≡ append m f.0 f.1 = cc in (same, rw same (FitsMap-from_test (append m f.0 f.1) is))
  taken false is e = absurd cc
