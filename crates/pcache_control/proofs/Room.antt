-- How many fields a request has once it asks by those that are stored.
use Rattle.std.specs.Prelude.{IsErr}
use Rattle.http_header.specs.HeaderMap.{Entry, insert, value_count, IsHeaderMap}
use Rattle.http_header.proofs.HeaderMapLemmas.{get_all-insert_other}
use Rattle.pcache_meta.proofs.HeaderMaps.{count_cons}
use Rattle.pcache_control.specs.Requests.{as_number}
use Rattle.pcache_control.proofs.Words.{◌≡◌, ℕ, ◌+◌, ◌<◌, Bool, true, false, cond, List, [], ◌∷◌, length, Option, Some, None, Result, Ok, Err, refl, ap, ◌∙◌, arith, inl, inr, bytes_eq, ◌≢◌, All, OnOk, codes, All-head, All-tail, FieldValue, Entries, get_all, ErrorType, Fields, bytes_of, with_field, LacksRoom, AsksSince, AsksUnlike}

-- the map is one name and one value longer
abbrev Grown : Entries FieldValue → Entries FieldValue → ℕ → Type 0
Grown old new more = (length new ≡ length old + more) × (value_count new ≡ value_count old + more)

insert_grows : (m : Entries FieldValue) (name : List ℕ) (v : FieldValue) → All (λ (e : Entry FieldValue). 0 < length e.1) m → get_all m name ≡ [] → Grown m (insert m name v) 1
insert_grows [] name v filled none = (refl, refl)
insert_grows (e ∷ m) name v filled none =
    go (bytes_eq e.0 name) none (insert_grows m name v (All-tail (λ (x : Entry FieldValue). 0 < length x.1) e m filled)) where
      go : (b : Bool) → cond b e.1 (get_all m name) ≡ [] → (get_all m name ≡ [] → Grown m (insert m name v) 1) → Grown (e ∷ m) (cond b ((e.0, v ∷ []) ∷ m) (e ∷ insert m name v)) 1
      go true empty later =
          let some : 0 < length e.1 = All-head (λ (x : Entry FieldValue). 0 < length x.1) e m filled in
          absurd (omega (arith, some, ap (λ (l : List FieldValue). length l) empty))
      go false empty later =
          let rest = later empty in
          (omega (arith, rest.0), omega (arith, count_cons e (insert m name v), count_cons e m, rest.1))

field_grows : (m : Entries FieldValue) (name : List ℕ) (value : Option FieldValue) → IsHeaderMap m → get_all m name ≡ [] → Grown m (with_field m name value) (as_number (bytes_of value))
field_grows m name None is none = (omega arith, omega arith)
field_grows m name (Some v) is none = insert_grows m name v is.filled none

others_stay : (m : Entries FieldValue) (name other : List ℕ) (value : Option FieldValue) → name ≢ other → get_all (with_field m name value) other ≡ get_all m other
others_stay m name other None unlike = refl
others_stay m name other (Some v) unlike = get_all-insert_other m name other v unlike

pub since_is_not_unlike : codes "if-modified-since" ≢ codes "if-none-match"
since_is_not_unlike e = cc e

-- if both were set there was room for both
pub no_room : (r : Result (Unit {0}) ErrorType) (before between asking : Entries FieldValue) (stored : Fields) → IsHeaderMap before → IsHeaderMap between
    → get_all before (codes "if-modified-since") ≡ [] → get_all before (codes "if-none-match") ≡ [] → AsksSince before stored between
    → OnOk r (AsksUnlike between stored asking) → OnOk r (IsHeaderMap asking) → LacksRoom before stored → IsErr r
no_room (Err e) before between asking stored is is' none none' since unlike held lacks = refl
no_room (Ok x) before between asking stored is is' none none' since unlike held lacks =
    let absent : get_all between (codes "if-none-match") ≡ [] =
    ap (λ (m : Entries FieldValue). get_all m (codes "if-none-match")) since.fields
    ∙ others_stay before (codes "if-modified-since") (codes "if-none-match") since.since since_is_not_unlike ∙ none' in
    let first = field_grows before (codes "if-modified-since") since.since is none in
    let second = field_grows between (codes "if-none-match") unlike.tag is' absent in
    let names = ap (λ (m : Entries FieldValue). length m) since.fields in
    let values = ap (λ (m : Entries FieldValue). value_count m) since.fields in
    let names' = ap (λ (m : Entries FieldValue). length m) unlike.fields in
    let values' = ap (λ (m : Entries FieldValue). value_count m) unlike.fields in
    let date = ap as_number since.is in
    let tag = ap as_number unlike.is in
    absurd (elim lacks [
      | inl many ↦ omega (arith, many, held.names_fit, first.0, second.0, names, names', date, tag)
      | inr many ↦ omega (arith, many, held.values_fit, first.1, second.1, values, values', date, tag)
    ])
