-- Which fields of a response are stored (RFC 9111 section 3.1; RFC 9110 section 7.6.1).
use Rattle.std.specs.Prelude.{◌≡◌, ℕ, Bool, List, [], ◌∷◌, ◌++◌, Option, Some, None, codes, fold, if◌then◌else◌}
use Rattle.std.specs.List.{flat_map}
use Rattle.http_header.specs.FieldValue.{FieldValue}
use Rattle.http_header.specs.HeaderMap.{Entries, get_all, remove}
use Rattle.http_header.specs.Token.{lowercase}
use Rattle.pcache_control.specs.Values.{unquoted, list_items}
use Rattle.pcache_http.specs.declared.rules.CacheKind.{CacheKind}
use Rattle.pcache_http.specs.Control.{lines_at}
use Rattle.pcache_http.specs.Said.{Directive, AreSaid, values_of}
use Rattle.pcache_http.specs.Storing.{is_shared}
use Rattle.pcache_http.specs.Vary.{members_of}
use Rattle.pcache_http.specs.declared.stored_fields.Listing.{Listing}
use Rattle.pcache_http.specs.declared.stored_fields.Listing.TheVariants.{NoCache, Private}
use Rattle.pcache_http.specs.declared.stored_fields.Removing.{Removing}

-- fields without those of these names, in upper or lower case
abbrev pub without_names : List (List ℕ) → Entries FieldValue → Entries FieldValue
without_names names fields = fold (λ left name. remove left (lowercase name)) fields names

-- RFC 9110 7.6.1: MUST for Connection, SHOULD for the next five. RFC 9111 3.1, MUST NOT: the fields of the proxy that
-- was asked
abbrev pub names_of_the_way : List (List ℕ)
names_of_the_way =
    codes "connection" ∷ codes "proxy-connection" ∷ codes "keep-alive" ∷ codes "te" ∷ codes "transfer-encoding" ∷ codes "upgrade"
    ∷ codes "proxy-authenticate" ∷ codes "proxy-authentication-info" ∷ codes "proxy-authorization" ∷ []

-- RFC 9110 7.6.1, MUST: the fields that Connection names
abbrev pub names_in_connection : Entries FieldValue → List (List ℕ)
names_in_connection fields = members_of (lines_at fields (codes "connection"))

-- the fields that the values of a directive list
abbrev pub names_listed : Option (List ℕ) → List (List ℕ)
names_listed None = []
names_listed (Some value) = list_items (unquoted value)

abbrev pub names_under : List ℕ → List Directive → List (List ℕ)
names_under name said = flat_map names_listed (values_of name said)

-- RFC 9111 3.1 with 5.2.2.4 and 5.2.2.7, MUST NOT: the fields that no-cache lists, and in a shared cache those that
-- private lists
abbrev pub names_kept_out : CacheKind → List Directive → List (List ℕ)
names_kept_out kind said = names_under (codes "no-cache") said ++ (if is_shared kind then names_under (codes "private") said else [])

-- the directives that list fields
abbrev pub listing_name : Listing → List ℕ
listing_name NoCache = codes "no-cache"
listing_name Private = codes "private"

-- fields from which those were removed that the directives of one name list
pub record HasRemoved (start : Removing) (said : List Directive) (now : Removing) : Type 0 where
  pub headers : now.headers ≡ without_names (names_under (listing_name start.listing) said) start.headers
  pub listing : now.listing ≡ start.listing

-- "Caches MUST include all received response header fields" (3.1) but these
abbrev pub unstored_names : CacheKind → Entries FieldValue → List Directive → List (List ℕ)
unstored_names kind fields said = names_of_the_way ++ names_in_connection fields ++ names_kept_out kind said

-- the fields that are stored, whatever Cache-Control is said to say
abbrev pub AreStoredFields : CacheKind → Entries FieldValue → Entries FieldValue → Type 0
AreStoredFields kind fields stored =
    (said : List Directive) → AreSaid (lines_at fields (codes "cache-control")) said
    → stored ≡ without_names (unstored_names kind fields said) fields
