-- The fields of a head, as a meta shows them.
use Rattle.pcache_meta.specs.Header.{shown_fields}
use Rattle.pcache_validation.specs.Fields.{lines, first, only, only_of}
use Rattle.pcache_validation.proofs.Words.{◌≡◌, ℕ, Bool, true, false, cond, ◌||◌, List, [], ◌∷◌, map, refl, ap, ◌∙◌, bytes_eq, slice_get, list_any, FieldValue, Entries, get, get_all, bytes_of}

abbrev pub bytes : FieldValue → List ℕ
bytes value = value.bytes

pick : (b : Bool) (xs ys : List FieldValue) (zs : List (List ℕ)) → map bytes ys ≡ zs → map bytes (cond b xs ys) ≡ cond b (map bytes xs) zs
pick true xs ys zs same = refl
pick false xs ys zs same = same

pub lines_shown : (m : Entries FieldValue) (name : List ℕ) → map bytes (get_all m name) ≡ lines (shown_fields m) name
lines_shown [] name = refl
lines_shown (e ∷ m) name = pick (bytes_eq e.0 name) e.1 (get_all m name) (lines (shown_fields m) name) (lines_shown m name)

first_mapped : (vs : List FieldValue) → bytes_of (slice_get vs 0) ≡ slice_get (map bytes vs) 0
first_mapped [] = refl
first_mapped (v ∷ vs) = refl

pub first_shown : (m : Entries FieldValue) (name : List ℕ) → bytes_of (get m name) ≡ first (shown_fields m) name
first_shown m name = first_mapped (get_all m name) ∙ ap (λ vs. slice_get vs 0) (lines_shown m name)

only_mapped : (vs : List FieldValue) → bytes_of (only_of vs) ≡ only_of (map bytes vs)
only_mapped [] = refl
only_mapped (v ∷ []) = refl
only_mapped (v ∷ w ∷ more) = refl

pub only_shown : (m : Entries FieldValue) (name : List ℕ) → bytes_of (only_of (get_all m name)) ≡ only (shown_fields m) name
only_shown m name = only_mapped (get_all m name) ∙ ap only_of (lines_shown m name)

any_mapped : (test : List ℕ → Bool) (vs : List FieldValue) → list_any (λ (v : FieldValue). test v.bytes) vs ≡ list_any test (map bytes vs)
any_mapped test [] = refl
any_mapped test (v ∷ vs) = ap (λ b. test v.bytes || b) (any_mapped test vs)

pub any_shown : (test : List ℕ → Bool) (m : Entries FieldValue) (name : List ℕ)
    → list_any (λ (v : FieldValue). test v.bytes) (get_all m name) ≡ list_any test (lines (shown_fields m) name)
any_shown test m name = any_mapped test (get_all m name) ∙ ap (list_any test) (lines_shown m name)
