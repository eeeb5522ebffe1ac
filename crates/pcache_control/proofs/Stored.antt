-- A field of a stored response, as its meta shows it.
use Rattle.std.specs.Prelude.{slice_get}
use Rattle.http_header.specs.HeaderMap.{get}
use Rattle.pcache_meta.specs.Header.{shown_fields}
use Rattle.pcache_control.specs.Requests.{values_in, first_in}
use Rattle.pcache_control.proofs.Words.{◌≡◌, ℕ, Bool, true, false, cond, List, [], ◌∷◌, map, Option, Some, None, Result, Ok, Err, refl, ap, ◌∙◌, bytes_eq, codes, OnOk, FieldValue, Entries, get_all, Fields, ErrorType, bytes_of, with_field, AsksSince, AsksUnlike}

values_pick : (b : Bool) (xs ys : List FieldValue) (zs : List (List ℕ)) → map (λ (v : FieldValue). v.bytes) ys ≡ zs
    → map (λ (v : FieldValue). v.bytes) (cond b xs ys) ≡ cond b (map (λ (v : FieldValue). v.bytes) xs) zs
values_pick true xs ys zs same = refl
values_pick false xs ys zs same = same

values_shown : (m : Entries FieldValue) (name : List ℕ) → map (λ (v : FieldValue). v.bytes) (get_all m name) ≡ values_in (shown_fields m) name
values_shown [] name = refl
values_shown (e ∷ m) name = values_pick (bytes_eq e.0 name) e.1 (get_all m name) (values_in (shown_fields m) name) (values_shown m name)

first_mapped : (vs : List FieldValue) → bytes_of (slice_get vs 0) ≡ slice_get (map (λ (v : FieldValue). v.bytes) vs) 0
first_mapped [] = refl
first_mapped (v ∷ vs) = refl

pub first_shown : (m : Entries FieldValue) (name : List ℕ) → bytes_of (get m name) ≡ first_in (shown_fields m) name
first_shown m name = first_mapped (get_all m name) ∙ ap (λ vs. slice_get vs 0) (values_shown m name)

pub none_shown : (value : Option FieldValue) → bytes_of value ≡ None → value ≡ None
none_shown None e = refl
none_shown (Some v) e = absurd cc

-- a field copied from the stored ones is what the meta shows
pub asks_since : (r : Result (Unit {0}) ErrorType) (before asking stored : Entries FieldValue) (fields : Fields) → shown_fields stored ≡ fields
    → OnOk r (asking ≡ with_field before (codes "if-modified-since") (get stored (codes "last-modified"))) → OnOk r (AsksSince before fields asking)
asks_since (Ok x) before asking stored fields shown copied =
    record { since = get stored (codes "last-modified"); is = first_shown stored (codes "last-modified") ∙ ap (λ f. first_in f (codes "last-modified")) shown; fields = copied }
asks_since (Err e) before asking stored fields shown copied = tt

pub asks_unlike : (r : Result (Unit {0}) ErrorType) (before asking stored : Entries FieldValue) (fields : Fields) → shown_fields stored ≡ fields
    → OnOk r (asking ≡ with_field before (codes "if-none-match") (get stored (codes "etag"))) → OnOk r (AsksUnlike before fields asking)
asks_unlike (Ok x) before asking stored fields shown copied =
    record { tag = get stored (codes "etag"); is = first_shown stored (codes "etag") ∙ ap (λ f. first_in f (codes "etag")) shown; fields = copied }
asks_unlike (Err e) before asking stored fields shown copied = tt

pub nothing_stored : (stored : Entries FieldValue) (fields : Fields) (name : List ℕ) → shown_fields stored ≡ fields → first_in fields name ≡ None → get stored name ≡ None
nothing_stored stored fields name shown none = none_shown (get stored name) (first_shown stored name ∙ ap (λ f. first_in f name) shown ∙ none)
