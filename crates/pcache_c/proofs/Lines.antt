-- The fields of a head, as it is shown.
use Rattle.std.proofs.Common.{Bool, true, bytes_eq}
use Rattle.std.proofs.lemmas.List.{length-map}
use Rattle.http_header.specs.FieldValue.{FieldValue}
use Rattle.http_header.specs.HeaderMap.{Entries}
use Rattle.pcache_meta.specs.Header.{shown_fields}
use Rattle.pcache_meta.proofs.HeaderSpelled.{pairs-shown}
use Rattle.pcache_c.proofs.Words.{◌≡◌, ℕ, zero, suc, false, cond, List, [], ◌∷◌, map, length, refl, sym, ap, ◌∙◌, Option, option_map, slice_get, get_all, pairs}

abbrev pub bytes : FieldValue → List ℕ
bytes value = value.bytes

pick : (b : Bool) (xs ys : List FieldValue) (zs : List (List ℕ)) → map bytes ys ≡ zs → map bytes (cond b xs ys) ≡ cond b (map bytes xs) zs
pick true xs ys zs same = refl
pick false xs ys zs same = same

-- the values of a name
pub lines_shown : (m : Entries FieldValue) (name : List ℕ) → map bytes (get_all m name) ≡ get_all (shown_fields m) name
lines_shown [] name = refl
lines_shown (e ∷ m) name = pick (bytes_eq e.0 name) e.1 (get_all m name) (get_all (shown_fields m) name) (lines_shown m name)

pub length_shown : (m : Entries FieldValue) (name : List ℕ) (n : ℕ) → n ≡ length (get_all m name) → n ≡ length (get_all (shown_fields m) name)
length_shown m name n is = is ∙ sym (length-map (get_all m name) bytes) ∙ ap (λ (xs : List (List ℕ)). length xs) (lines_shown m name)

pub get_mapped : {X Y : Type 0} (f : X → Y) (xs : List X) (i : ℕ) → option_map f (slice_get xs i) ≡ slice_get (map f xs) i
get_mapped f [] i = refl
get_mapped f (x ∷ xs) zero = refl
get_mapped f (x ∷ xs) (suc i) = get_mapped f xs i

-- the value with a number, of those of a name
pub value_shown : (m : Entries FieldValue) (name : List ℕ) (i : ℕ) (o : Option FieldValue) → o ≡ slice_get (get_all m name) i → option_map bytes o ≡ slice_get (get_all (shown_fields m) name) i
value_shown m name i o is = ap (option_map bytes) is ∙ get_mapped bytes (get_all m name) i ∙ ap (λ (xs : List (List ℕ)). slice_get xs i) (lines_shown m name)

abbrev pub line : List ℕ × FieldValue → List ℕ × List ℕ
line p = (p.0, p.1.bytes)

-- the field with a number
pub pair_shown : (m : Entries FieldValue) (i : ℕ) (o : Option (List ℕ × FieldValue)) → o ≡ slice_get (pairs m) i → option_map line o ≡ slice_get (pairs (shown_fields m)) i
pair_shown m i o is = ap (option_map line) is ∙ get_mapped line (pairs m) i ∙ ap (λ (xs : List (List ℕ × List ℕ)). slice_get xs i) (sym (pairs-shown m))
