-- How a request goes to the origin, so that its response can be stored (own, over RFC 9110 sections 13.1 and 14.2).
use Rattle.std.specs.Prelude.{◌≡◌, ℕ, ◌+◌, ◌^◌, ◌<◌, ◌≤◌, ◌⊎◌, length, List, [], ◌∷◌, Option, Some, None, bytes_eq, codes, fold, slice_get, if◌then◌else◌}
use Rattle.std.specs.Option.{option_map}
use Rattle.http_header.specs.FieldValue.{FieldValue}
use Rattle.http_header.specs.HeaderMap.{Entries, insert, remove, value_count}
use Rattle.pcache_meta.specs.Header.{Fields}
use Rattle.pcache_meta.specs.Meta.{Meta}

-- a response to HEAD has no body to store
abbrev pub sent_method : List ℕ → List ℕ
sent_method method = if bytes_eq method (codes "HEAD") then codes "GET" else method

-- preconditions (RFC 9110 section 13.1) and ranges (section 14.2): the cache asks for the whole response
abbrev pub condition_names : List (List ℕ)
condition_names =
    codes "if-match" ∷ codes "if-none-match" ∷ codes "if-modified-since" ∷ codes "if-unmodified-since" ∷ codes "if-range" ∷ codes "range" ∷ []

-- the fields without them
unfoldable pub without_conditions : Entries FieldValue → Entries FieldValue
without_conditions fields = fold (λ left name. remove left name) fields condition_names

-- the values under a name, of a stored response
abbrev pub values_in : Fields → List ℕ → List (List ℕ)
values_in [] name = []
values_in (e ∷ fields) name = if bytes_eq e.0 name then e.1 else values_in fields name

-- the first value under a name
abbrev pub first_in : Fields → List ℕ → Option (List ℕ)
first_in fields name = slice_get (values_in fields name) 0

-- the bytes of a value
abbrev pub bytes_of : Option FieldValue → Option (List ℕ)
bytes_of value = option_map (λ (v : FieldValue). v.bytes) value

-- the fields with this value under a name, in place of its old values
abbrev pub with_field : Entries FieldValue → List ℕ → Option FieldValue → Entries FieldValue
with_field fields name None = fields
with_field fields name (Some value) = insert fields name value

-- the field that asks for the response if it changed since the stored one was last modified (RFC 9110 section 13.1.3)
pub record AsksSince (before : Entries FieldValue) (stored : Fields) (asking : Entries FieldValue) : Type 0 where
  pub since : Option FieldValue
  pub is : bytes_of since ≡ first_in stored (codes "last-modified")
  pub fields : asking ≡ with_field before (codes "if-modified-since") since

-- and the one that asks for it if it no longer has the stored entity tag (RFC 9110 section 13.1.2)
pub record AsksUnlike (before : Entries FieldValue) (stored : Fields) (asking : Entries FieldValue) : Type 0 where
  pub tag : Option FieldValue
  pub is : bytes_of tag ≡ first_in stored (codes "etag")
  pub fields : asking ≡ with_field before (codes "if-none-match") tag

-- both fields, in this order
pub record Asks (before : Entries FieldValue) (stored : Fields) (asking : Entries FieldValue) : Type 0 where
  pub between : Entries FieldValue
  pub since : AsksSince before stored between
  pub unlike : AsksUnlike between stored asking

-- without a stored response the request is unconditional
abbrev pub AsksFor : Option Meta → Entries FieldValue → Entries FieldValue → Type 0
AsksFor None before asking = asking ≡ before
AsksFor (Some meta) before asking = Asks before meta.header.fields asking

-- what a failed call leaves: neither field, or only the first
abbrev pub AsksInPart : Entries FieldValue → Fields → Entries FieldValue → Type 0
AsksInPart fields stored asking = (asking ≡ fields) ⊎ AsksSince fields stored asking

-- the stored response has neither a Last-Modified nor an ETag
pub record HasNoValidator (stored : Fields) : Type 0 where
  pub date : first_in stored (codes "last-modified") ≡ None
  pub tag : first_in stored (codes "etag") ≡ None

-- how many fields a stored response has to ask by: its Last-Modified and its ETag
abbrev pub as_number : Option (List ℕ) → ℕ
as_number None = 0
as_number (Some value) = 1

abbrev pub asked : Fields → ℕ
asked stored = as_number (first_in stored (codes "last-modified")) + as_number (first_in stored (codes "etag"))

-- a map of fields has no room for so many more
abbrev pub LacksRoom : Entries FieldValue → Fields → Type 0
LacksRoom fields stored = (24576 < length fields + asked stored) ⊎ (2 ^ 64 ≤ value_count fields + asked stored)

-- without a stored response the call does not fail
abbrev pub AsksInPartFor : Option Meta → Entries FieldValue → Entries FieldValue → Type 0
AsksInPartFor None before asking = ⊥
AsksInPartFor (Some meta) before asking = AsksInPart before meta.header.fields asking
