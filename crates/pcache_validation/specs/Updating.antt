-- Which fields of a newer response a stored one takes (RFC 9111 sections 3.1 and 3.2).
use Rattle.std.specs.Prelude.{◌≡◌, ◌≢◌, ℕ, Bool, not, ◌&&◌, ◌||◌, List, [], ◌∷◌, ◌++◌, bytes_eq, codes, fold, is_some, if◌then◌else◌}
use Rattle.std.specs.List.{list_any}
use Rattle.http_header.specs.FieldValue.{FieldValue}
use Rattle.http_header.specs.HeaderMap.{Entries, append, get, get_all, remove}
use Rattle.http_header.specs.Token.{lowercase}
use Rattle.pcache_validation.specs.Lists.{elements}
use Rattle.pcache_validation.specs.declared.updating.StoredBody.{StoredBody}
use Rattle.pcache_validation.specs.declared.updating.StoredBody.TheVariants.{AsReceived, Processed}

-- RFC 9111, 3.1: Connection and what is removed before forwarding besides (RFC 9110, 7.6.1)
abbrev pub of_the_connection : List (List ℕ)
of_the_connection =
    codes "connection" ∷ codes "proxy-connection" ∷ codes "keep-alive" ∷ codes "te" ∷ codes "transfer-encoding" ∷ codes "upgrade" ∷ []

-- RFC 9111, 3.1, MUST NOT: fields that are specific to the proxy that a cache uses are not stored
abbrev pub of_the_proxy : List (List ℕ)
of_the_proxy = codes "proxy-authenticate" ∷ codes "proxy-authentication-info" ∷ codes "proxy-authorization" ∷ []

-- RFC 9111, 3.2, MUST: Content-Length is not updated. Content-Range, which is automatically processed, may be left out
-- and is
abbrev pub of_the_message : List (List ℕ)
of_the_message = codes "content-length" ∷ codes "content-range" ∷ []

-- RFC 9111, 3.2, MAY: fields on which the stored body depends are left out if it was processed before it was stored
abbrev pub of_the_body : StoredBody → List (List ℕ)
of_the_body AsReceived = []
of_the_body Processed = codes "content-encoding" ∷ codes "content-type" ∷ []

abbrev pub left_out : StoredBody → List (List ℕ)
left_out body = of_the_connection ++ of_the_proxy ++ of_the_message ++ of_the_body body

-- the name is among these names, which are compared without regard to case
abbrev pub is_among : List ℕ → List (List ℕ) → Bool
is_among name names = list_any (λ other. bytes_eq (lowercase other) name) names

-- RFC 9111, 3.1: fields whose names are listed in Connection are not stored
abbrev pub is_of_connection : Entries FieldValue → List ℕ → Bool
is_of_connection new name = list_any (λ (line : FieldValue). is_among name (elements line.bytes)) (get_all new (codes "connection"))

abbrev pub is_left_out : StoredBody → Entries FieldValue → List ℕ → Bool
is_left_out body new name = is_of_connection new name || is_among name (left_out body)

-- the fields that are brought in: all but those that are left out
pub record IsBroughtIn (body : StoredBody) (new brought : Entries FieldValue) : Type 0 where
  pub lines : (name : List ℕ) → get_all brought name ≡ (if is_left_out body new name then [] else get_all new name)

-- RFC 9111, 3.2, MUST: each field of the newer response is added to the stored one, in place of the values that are
-- present, with those exceptions; all other fields stay as they are
pub record IsUpdated (body : StoredBody) (new stored updated : Entries FieldValue) : Type 0 where
  pub lines : (name : List ℕ) → get_all updated name
      ≡ (if is_some (get new name) && not (is_left_out body new name) then get_all new name else get_all stored name)

-- ---- how the fields are taken out

abbrev pub without_names : Entries FieldValue → List (List ℕ) → Entries FieldValue
without_names fields names = fold (λ left name. remove left (lowercase name)) fields names

abbrev pub without_lines : Entries FieldValue → List FieldValue → Entries FieldValue
without_lines fields lines = fold (λ left (line : FieldValue). without_names left (elements line.bytes)) fields lines

-- ---- how the fields are put in

-- the fields with these values after those of a name
abbrev pub with_lines : Entries FieldValue → List ℕ → List FieldValue → Entries FieldValue
with_lines fields name values = fold (λ left value. append left name value) fields values

-- the values under all other names are the same
pub record AreSameBut (name : List ℕ) (before after : Entries FieldValue) : Type 0 where
  pub others : (other : List ℕ) → name ≢ other → get_all after other ≡ get_all before other

-- each field of `brought` stands in place of what there was
pub record Takes (brought before after : Entries FieldValue) : Type 0 where
  pub lines : (name : List ℕ) → get_all after name ≡ (if is_some (get brought name) then get_all brought name else get_all before name)
