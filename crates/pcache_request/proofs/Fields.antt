-- Values that replace those under a name, one by one.
use Rattle.std.proofs.Common.{◌≡◌, ℕ, true, false, cond, List, [], ◌∷◌, ◌++◌, map, refl, ap, sym, subst, ◌∙◌, inl, inr}
use Rattle.std.specs.Prelude.{bytes_eq, codes, Contains}
use Rattle.std.proofs.lemmas.Bool.{cases_Bool}
use Rattle.std.proofs.lemmas.Slice.Eq.{bytes_eq-Decides}
use Rattle.std.proofs.lemmas.List.{append_assoc, append-nil}
use Rattle.http_header.specs.FieldValue.{FieldValue}
use Rattle.http_header.specs.HeaderMap.{Entries, IsFullOfValues, RefusesAppend, RefusesInsert, append, get_all, insert, keys, update}
use Rattle.pcache_meta.specs.Header.{Fields, shown_entry, shown_fields}
use Rattle.pcache_meta.proofs.HeaderMaps.{length-shown, shown-append, value_count-shown}
use Rattle.pcache_request.specs.Renewals.{LacksRoom, LacksRoomAfter, LacksRoomFor, added_all, field_renewed, in_place, renewed_names, shown_values}

-- one more value after those that were put in place
pub append_placed : (m : Fields) (name : List ℕ) (vs : List (List ℕ)) (v : List ℕ) → append (update m name (λ _. vs)) name v ≡ update m name (λ _. vs ++ v ∷ [])
append_placed [] name vs v = rw ((bytes_eq-Decides name name).1 refl) refl
append_placed (e ∷ m) name vs v =
    elim (cases_Bool (bytes_eq e.0 name)) [
      | inl t ↦ rw t (rw t refl)
      | inr n ↦ rw n (rw n (ap (λ (rest : Fields). e ∷ rest) (append_placed m name vs v)))
    ]

-- all of them
pub placed_all : (m : Fields) (name : List ℕ) (vs ws : List (List ℕ)) → added_all (update m name (λ _. vs)) name ws ≡ update m name (λ _. vs ++ ws)
placed_all m name vs [] = ap (λ (xs : List (List ℕ)). update m name (λ _. xs)) (sym (append-nil vs))
placed_all m name vs (w ∷ ws) =
    ap (λ (n : Fields). added_all n name ws) (append_placed m name vs w)
    ∙ placed_all m name (vs ++ w ∷ []) ws
    ∙ ap (λ (xs : List (List ℕ)). update m name (λ _. xs)) (append_assoc vs (w ∷ []) ws)

-- ---- what is shown

pub shown_insert : (m : Entries FieldValue) (name : List ℕ) (v : FieldValue) → shown_fields (insert m name v) ≡ update (shown_fields m) name (λ _. v.bytes ∷ [])
shown_insert [] name v = refl
shown_insert (e ∷ m) name v = elim (bytes_eq e.0 name)
    as (λ t. shown_fields (cond t ((e.0, v ∷ []) ∷ m) (e ∷ insert m name v)) ≡ cond t ((e.0, v.bytes ∷ []) ∷ shown_fields m) (shown_entry e ∷ update (shown_fields m) name (λ _. v.bytes ∷ []))) [
      | true ↦ refl
      | false ↦ ap (λ (n : Fields). shown_entry e ∷ n) (shown_insert m name v)
    ]

pub shown_get_all : (m : Entries FieldValue) (name : List ℕ) → get_all (shown_fields m) name ≡ shown_values (get_all m name)
shown_get_all [] name = refl
shown_get_all (e ∷ m) name = elim (bytes_eq e.0 name)
    as (λ t. cond t (map (λ (x : FieldValue). x.bytes) e.1) (get_all (shown_fields m) name) ≡ shown_values (cond t e.1 (get_all m name))) [
      | true ↦ refl
      | false ↦ shown_get_all m name
    ]

pub shown_append : (m : Entries FieldValue) (name : List ℕ) (v : FieldValue) → shown_fields (append m name v) ≡ append (shown_fields m) name v.bytes
shown_append m name v = shown-append m name v

-- ---- one field renewed

-- the answer has none
pub renewed_none : (answer h : Entries FieldValue) (name : List ℕ) → get_all answer name ≡ [] → shown_fields h ≡ field_renewed (shown_fields answer) (shown_fields h) name
renewed_none answer h name none = ap (λ (vs : List (List ℕ)). in_place vs (shown_fields h) name) (sym (shown_get_all answer name ∙ ap (λ (vs : List FieldValue). shown_values vs) none))

-- the first of its values was put in place, and the rest after it
pub renewed_some : (answer h put : Entries FieldValue) (name : List ℕ) (v : FieldValue) (rest : List FieldValue) (after : Fields)
    → get_all answer name ≡ v ∷ rest → put ≡ insert h name v → after ≡ added_all (shown_fields put) name (shown_values rest)
    → after ≡ field_renewed (shown_fields answer) (shown_fields h) name
renewed_some answer h put name v rest after found is all =
    all
    ∙ ap (λ (m : Entries FieldValue). added_all (shown_fields m) name (shown_values rest)) is
    ∙ ap (λ (n : Fields). added_all n name (shown_values rest)) (shown_insert h name v)
    ∙ placed_all (shown_fields h) name (v.bytes ∷ []) (shown_values rest)
    ∙ ap (λ (vs : List (List ℕ)). in_place vs (shown_fields h) name) (sym (shown_get_all answer name ∙ ap (λ (vs : List FieldValue). shown_values vs) found))

-- ---- no room

keys_shown : (m : Entries FieldValue) → keys (shown_fields m) ≡ keys m
keys_shown [] = refl
keys_shown (e ∷ m) = ap (λ (names : List (List ℕ)). e.0 ∷ names) (keys_shown m)

full_shown : (m : Entries FieldValue) → IsFullOfValues m → IsFullOfValues (shown_fields m)
full_shown m full = rw (value_count-shown m) full

pub insert_shown : (m : Entries FieldValue) (name : List ℕ) → RefusesInsert m name → RefusesInsert (shown_fields m) name
insert_shown m name (new, full) = (
  λ has. new (subst (λ (names : List (List ℕ)). Contains names name) (keys_shown m) has),
  elim full [
    | inl names ↦ inl (rw (length-shown m) names)
    | inr values ↦ inr (full_shown m values)
  ],
)

pub append_shown : (m : Entries FieldValue) (name : List ℕ) → RefusesAppend m name → RefusesAppend (shown_fields m) name
append_shown m name (inl values) = inl (full_shown m values)
append_shown m name (inr new) = inr (insert_shown m name new)

-- the first of further values finds none, or one after it
pub lacks_now : (h : Entries FieldValue) (name : List ℕ) (v : FieldValue) (rest : List FieldValue) → RefusesAppend h name → LacksRoomAfter (shown_fields h) name (shown_values (v ∷ rest))
lacks_now h name v rest refuses = inl (append_shown h name refuses)

pub lacks_later : (h : Entries FieldValue) (name : List ℕ) (v : FieldValue) (rest : List FieldValue) → LacksRoomAfter (shown_fields (append h name v)) name (shown_values rest) → LacksRoomAfter (shown_fields h) name (shown_values (v ∷ rest))
lacks_later h name v rest lacks = inr (subst (λ (n : Fields). LacksRoomAfter n name (shown_values rest)) (shown_append h name v) lacks)

-- the values of an answer, in place of the old ones
given_all : (answer : Entries FieldValue) (name : List ℕ) (v : FieldValue) (rest : List FieldValue) → get_all answer name ≡ v ∷ rest → get_all (shown_fields answer) name ≡ v.bytes ∷ shown_values rest
given_all answer name v rest found = shown_get_all answer name ∙ ap (λ (vs : List FieldValue). shown_values vs) found

pub lacks_first : (answer h : Entries FieldValue) (name : List ℕ) (v : FieldValue) (rest : List FieldValue) → get_all answer name ≡ v ∷ rest → RefusesInsert h name → LacksRoomFor (shown_fields h) name (get_all (shown_fields answer) name)
lacks_first answer h name v rest found refuses =
    subst (λ (vs : List (List ℕ)). LacksRoomFor (shown_fields h) name vs) (sym (given_all answer name v rest found)) (inl (insert_shown h name refuses))

pub lacks_rest : (answer h put : Entries FieldValue) (name : List ℕ) (v : FieldValue) (rest : List FieldValue) → get_all answer name ≡ v ∷ rest → put ≡ insert h name v → LacksRoomAfter (shown_fields put) name (shown_values rest)
    → LacksRoomFor (shown_fields h) name (get_all (shown_fields answer) name)
lacks_rest answer h put name v rest found is lacks =
    subst (λ (vs : List (List ℕ)). LacksRoomFor (shown_fields h) name vs) (sym (given_all answer name v rest found))
    (inr (subst (λ (n : Fields). LacksRoomAfter n name (shown_values rest)) (ap shown_fields is ∙ shown_insert h name v) lacks))

-- a field of an answer after others, which are in their places
pub lacks_third : (answer f g h : Fields) → g ≡ field_renewed answer f (codes "cache-control") → h ≡ field_renewed answer g (codes "expires")
    → LacksRoomFor h (codes "cache-tag") (get_all answer (codes "cache-tag")) → LacksRoom answer f renewed_names
lacks_third answer f g h p q lacks =
    let at = q ∙ ap (λ (n : Fields). field_renewed answer n (codes "expires")) p in
    inr (inr (inl (subst (λ (n : Fields). LacksRoomFor n (codes "cache-tag") (get_all answer (codes "cache-tag"))) at lacks)))

pub lacks_fourth : (answer f g h j : Fields) → g ≡ field_renewed answer f (codes "cache-control") → h ≡ field_renewed answer g (codes "expires") → j ≡ field_renewed answer h (codes "cache-tag")
    → LacksRoomFor j (codes "cdn-cache-control") (get_all answer (codes "cdn-cache-control")) → LacksRoom answer f renewed_names
lacks_fourth answer f g h j p q r lacks =
    let at = r ∙ ap (λ (n : Fields). field_renewed answer n (codes "cache-tag")) (q ∙ ap (λ (n : Fields). field_renewed answer n (codes "expires")) p) in
    inr (inr (inr (inl (subst (λ (n : Fields). LacksRoomFor n (codes "cdn-cache-control") (get_all answer (codes "cdn-cache-control"))) at lacks))))

pub lacks_fifth : (answer f g h j k : Fields) → g ≡ field_renewed answer f (codes "cache-control") → h ≡ field_renewed answer g (codes "expires") → j ≡ field_renewed answer h (codes "cache-tag") → k ≡ field_renewed answer j (codes "cdn-cache-control")
    → LacksRoomFor k (codes "etag") (get_all answer (codes "etag")) → LacksRoom answer f renewed_names
lacks_fifth answer f g h j k p q r s lacks =
    let at = s ∙ ap (λ (n : Fields). field_renewed answer n (codes "cdn-cache-control")) (r ∙ ap (λ (n : Fields). field_renewed answer n (codes "cache-tag")) (q ∙ ap (λ (n : Fields). field_renewed answer n (codes "expires")) p)) in
    inr (inr (inr (inr (inl (subst (λ (n : Fields). LacksRoomFor n (codes "etag") (get_all answer (codes "etag"))) at lacks)))))
