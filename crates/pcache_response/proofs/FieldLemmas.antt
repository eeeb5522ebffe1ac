-- Fields that are appended one after another.
use Rattle.std.proofs.Common.{◌^◌}
use Rattle.std.specs.Prelude.{bytes_eq}
use Rattle.std.proofs.lemmas.List.{map-append}
use Rattle.std.proofs.lemmas.List.Sums.{sum_by-cons}
use Rattle.std.proofs.Math.ListN.{get_or-map}
use Rattle.http_header.specs.HeaderMap.{append, append_all, value_count}
use Rattle.pcache_response.specs.Fields.{kept_pair}
use Rattle.pcache_response.proofs.Words.{◌≡◌, ℕ, ◌+◌, ◌<◌, ◌≤◌, true, false, cond, List, [], ◌∷◌, ◌++◌, map, length, take, All, get_or, refl, ap, ◌∙◌, subst, arith, length-append, take_more, length-map, All-get_or, fold-append, FieldValue, Entries, append_pair, fields_after}

-- one more item
pub mapped_more : {X Y : Type 0} (f : X → Y) (xs : List X) (i : ℕ) (d : X) → i < length xs → map f (take (i + 1) xs) ≡ map f (take i xs) ++ f (get_or xs i d) ∷ []
mapped_more f xs i d lt = ap (map f) (take_more xs i d lt) ∙ map-append f (take i xs) (get_or xs i d ∷ [])

-- what holds of each image holds of that of an item
pub All-map_at : {X Y : Type 0} (P : Y → Type 0) (f : X → Y) (xs : List X) (i : ℕ) (d : X) → i < length xs → All P (map f xs) → P (f (get_or xs i d))
All-map_at P f xs i d lt all =
    let within : i < length (map f xs) = omega (arith, length-map xs f) in
    subst P (get_or-map f xs i d) (All-get_or P (map f xs) i (f d) within all)

-- one more pair
pub fields_more : (ps : List (List ℕ × List ℕ)) (p : List ℕ × List ℕ) → fields_after (ps ++ p ∷ []) ≡ append_pair (fields_after ps) p
fields_more ps p = ap (append_all []) (map-append kept_pair ps (p ∷ [])) ∙ fold-append (λ (n : Entries FieldValue) (item : List ℕ × FieldValue). append n item.0 item.1) [] (map kept_pair ps) (kept_pair p ∷ [])

length-append_le : (m : Entries FieldValue) (name : List ℕ) (v : FieldValue) → length (append m name v) ≤ length m + 1
length-append_le [] name v = omega arith
length-append_le (e ∷ m) name v =
    let rest = length-append_le m name v in
    elim (bytes_eq e.0 name) as (λ b. length (cond b ((e.0, e.1 ++ v ∷ []) ∷ m) (e ∷ append m name v)) ≤ length (e ∷ m) + 1) [
      | true ↦ omega arith
      | false ↦ omega (arith, rest)
    ]

count-append : (m : Entries FieldValue) (name : List ℕ) (v : FieldValue) → value_count (append m name v) ≡ value_count m + 1
count-append [] name v = refl
count-append (e ∷ m) name v =
    let rest = count-append m name v in
    let whole : value_count (e ∷ m) ≡ length e.1 + value_count m = sum_by-cons (λ (e : List ℕ × List FieldValue). length e.1) e m in
    elim (bytes_eq e.0 name) as (λ b. value_count (cond b ((e.0, e.1 ++ v ∷ []) ∷ m) (e ∷ append m name v)) ≡ value_count (e ∷ m) + 1) [
      | true ↦
          let new : value_count ((e.0, e.1 ++ v ∷ []) ∷ m) ≡ length (e.1 ++ v ∷ []) + value_count m = sum_by-cons (λ (e : List ℕ × List FieldValue). length e.1) (e.0, e.1 ++ v ∷ []) m in
          omega (arith, new, whole, length-append e.1 (v ∷ []))
      | false ↦
          let new : value_count (e ∷ append m name v) ≡ length e.1 + value_count (append m name v) = sum_by-cons (λ (e : List ℕ × List FieldValue). length e.1) e (append m name v) in
          omega (arith, new, whole, rest)
    ]

-- no more names and values than items
bounds_all : (m : Entries FieldValue) (items : List (List ℕ × FieldValue)) → (length (append_all m items) ≤ length m + length items) × (value_count (append_all m items) ≡ value_count m + length items)
bounds_all m [] = (omega arith, omega arith)
bounds_all m (item ∷ items) =
    let rest = bounds_all (append m item.0 item.1) items in
    (omega (arith, rest.0, length-append_le m item.0 item.1), omega (arith, rest.1, count-append m item.0 item.1))

pub bounds : (ps : List (List ℕ × List ℕ)) (m : Entries FieldValue) → m ≡ fields_after ps → length ps ≤ 256 → (length m < 24576) × (value_count m + 1 < 2 ^ 64)
bounds ps m e few =
    let all = bounds_all [] (map kept_pair ps) in
    let as_many = length-map ps kept_pair in
    rw e (omega (arith, all.0, as_many, few), omega (arith, all.1, as_many, few))
