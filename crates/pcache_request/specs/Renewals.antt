-- A stale response that the origin confirmed as valid (the phase table; RFC 9111 section 4.3.4).
use Rattle.std.specs.Prelude.{ℕ, ◌⊎◌, Bool, List, [], ◌∷◌, Option, Some, None, codes, false, fold, is_some, map}
use Rattle.std.specs.FinMap.{get}
use Rattle.http_header.specs.FieldValue.{FieldValue}
use Rattle.http_header.specs.HeaderMap.{RefusesAppend, RefusesInsert, append, get_all, update}
use Rattle.pcache_base.specs.Key.{Key, slot}
use Rattle.pcache_meta.specs.Header.{Fields, Header}
use Rattle.pcache_meta.specs.Meta.{Meta, internal_changed, provenance_of}
use Rattle.pcache_store.specs.Store.{Store, complete_body, meta_set}
use Rattle.pcache_request.specs.declared.phase.CachePhase.TheVariants as phase
use Rattle.pcache_request.specs.Requests.{Request}

-- the new meta of the old body: with the creation of the old meta, and the moment from which the old body came
abbrev pub renewed_by : Meta → Option Meta → Meta
renewed_by m None = m
renewed_by m (Some old) = internal_changed (λ x. record x { created = old.created; provenance = Some (provenance_of old) }) m

-- the request with the renewed meta
abbrev pub renewed : Meta → Request → Request
renewed m r = record r { phase = phase.Revalidated; meta = Some (renewed_by m r.meta); held = None }

-- there is a complete body for the key
abbrev pub has_body : Store → Option Key → Bool
has_body s None = false
has_body s (Some k) = is_some (complete_body (get s.slots (slot k)))

-- the store with this meta for the key's complete body
abbrev pub with_meta_of : Meta → Option Key → Store → Store
with_meta_of m None s = s
with_meta_of m (Some k) s = meta_set m s (slot k)

-- the names of the fields that a new response renews
abbrev pub renewed_names : List (List ℕ)
renewed_names = codes "cache-control" ∷ codes "expires" ∷ codes "cache-tag" ∷ codes "cdn-cache-control" ∷ codes "etag" ∷ []

-- the fields with the values of a new response under a name in place of their own; unchanged if it has none
abbrev pub in_place : List (List ℕ) → Fields → List ℕ → Fields
in_place [] fields name = fields
in_place (v ∷ vs) fields name = update fields name (λ _. v ∷ vs)

-- the fields with those of a new response under one name
abbrev pub field_renewed : Fields → Fields → List ℕ → Fields
field_renewed answer fields name = in_place (get_all answer name) fields name

-- the values, as a meta shows them
abbrev pub shown_values : List FieldValue → List (List ℕ)
shown_values values = map (λ (v : FieldValue). v.bytes) values

-- further values added after those under a name, one by one
abbrev pub added_all : Fields → List ℕ → List (List ℕ) → Fields
added_all fields name [] = fields
added_all fields name (v ∷ vs) = added_all (append fields name v) name vs

-- the fields after all of these names
abbrev pub fields_renewed : Fields → Fields → Fields
fields_renewed answer fields = fold (field_renewed answer) fields renewed_names

-- there is no room for one of further values under a name, which are added one by one
abbrev pub LacksRoomAfter : Fields → List ℕ → List (List ℕ) → Type 0
LacksRoomAfter fields name [] = ⊥
LacksRoomAfter fields name (v ∷ vs) = RefusesAppend fields name ⊎ LacksRoomAfter (append fields name v) name vs

-- there is no room for the first of the values that replace those under a name, or for one after it
abbrev pub LacksRoomFor : Fields → List ℕ → List (List ℕ) → Type 0
LacksRoomFor fields name [] = ⊥
LacksRoomFor fields name (v ∷ vs) = RefusesInsert fields name ⊎ LacksRoomAfter (update fields name (λ _. v ∷ [])) name vs

-- of the fields that a new response renews, in turn, one has no room for its values
abbrev pub LacksRoom : Fields → Fields → List (List ℕ) → Type 0
LacksRoom answer fields [] = ⊥
LacksRoom answer fields (name ∷ names) = LacksRoomFor fields name (get_all answer name) ⊎ LacksRoom answer (field_renewed answer fields name) names

-- the head after that
abbrev pub header_renewed : Fields → Header → Header
header_renewed answer h = record h { fields = fields_renewed answer h.fields }
