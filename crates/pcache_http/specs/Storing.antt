-- Which responses may be stored (RFC 9111 sections 3, 3.3, 3.5, 5.2.1.5, 5.2.2.3, 5.2.2.5, 5.2.2.7; RFC 9110 section 15).
use Rattle.std.specs.Prelude.{◌≡◌, ℕ, Bool, true, false, not, ◌&&◌, ◌||◌, ◌==◌, List, [], ◌∷◌, bytes_eq, codes, nat_le, Option, Some, None}
use Rattle.std.specs.List.{list_any}
use Rattle.http_header.specs.FieldValue.{FieldValue}
use Rattle.http_header.specs.HeaderMap.{Entries, get_all}
use Rattle.pcache_meta.specs.declared.header.RequestHeader.{RequestHeader}
use Rattle.pcache_meta.specs.declared.header.ResponseHeader.{ResponseHeader}
use Rattle.pcache_http.specs.declared.rules.CacheKind.{CacheKind}
use Rattle.pcache_http.specs.declared.rules.CacheKind.TheVariants.{Shared, Private}
use Rattle.pcache_http.specs.declared.control.Reach.{Reach}
use Rattle.pcache_http.specs.declared.control.Reach.TheVariants.{Nothing, Fields, Whole}
use Rattle.pcache_http.specs.declared.control.ResponseControl.{ResponseControl}
use Rattle.pcache_http.specs.declared.control.RequestControl.{RequestControl}
use Rattle.pcache_http.specs.declared.seconds.Number.{Number}
use Rattle.pcache_http.specs.declared.seconds.Number.TheVariants.{Absent, Once, Repeated}
use Rattle.pcache_http.specs.declared.storing.Storing.{Storing}
use Rattle.pcache_http.specs.declared.storing.Storing.TheVariants.{Stored, NotStored}
use Rattle.pcache_http.specs.declared.storing.NotStoredFor.{NotStoredFor}
use Rattle.pcache_http.specs.declared.storing.NotStoredFor.TheVariants.{MethodNotUnderstood, StatusNotFinal, StatusNotUnderstood, NoStoreAsked, NoStoreSaid, PrivateSaid, Authorized, NothingAllowsIt}

abbrev pub is_shared : CacheKind → Bool
is_shared Shared = true
is_shared Private = false

abbrev pub is_there : Number → Bool
is_there Absent = false
is_there (Once amount) = true
is_there (Repeated amount) = true

abbrev pub is_whole : Reach → Bool
is_whole Whole = true
is_whole Fields = false
is_whole Nothing = false

abbrev pub is_nothing : Reach → Bool
is_nothing Nothing = true
is_nothing Fields = false
is_nothing Whole = false

abbrev pub has_values : List FieldValue → Bool
has_values [] = false
has_values (value ∷ values) = true

abbrev pub has_field : Entries FieldValue → List ℕ → Bool
has_field fields name = has_values (get_all fields name)

-- 3, MUST NOT: "the request method is understood by the cache": here GET alone, since what is stored has a content, and
-- a response to HEAD has none
unfoldable pub is_method_understood : List ℕ → Bool
is_method_understood method = bytes_eq method (codes "GET")

-- 3, MUST NOT: "the response status code is final" (RFC 9110 15: 1xx is interim)
unfoldable pub is_final : ℕ → Bool
is_final status = nat_le 200 status

-- the final status codes of RFC 9110 15 whose requirements for caches are kept here: all but 206, whose parts are not
-- combined (RFC 9111 3.3 and 3.4), and 304, which is no response of its own (4.3.4)
abbrev pub understood_statuses : List ℕ
understood_statuses =
    200 ∷ 201 ∷ 202 ∷ 203 ∷ 204 ∷ 205 ∷ 300 ∷ 301 ∷ 302 ∷ 303 ∷ 305 ∷ 307 ∷ 308 ∷ 400 ∷ 401 ∷ 402 ∷ 403 ∷ 404 ∷ 405 ∷ 406
    ∷ 407 ∷ 408 ∷ 409 ∷ 410 ∷ 411 ∷ 412 ∷ 413 ∷ 414 ∷ 415 ∷ 416 ∷ 417 ∷ 421 ∷ 422 ∷ 426 ∷ 500 ∷ 501 ∷ 502 ∷ 503 ∷ 504 ∷ 505 ∷ []

unfoldable pub is_status_understood : ℕ → Bool
is_status_understood status = list_any (λ known. known == status) understood_statuses

-- 3, MUST NOT: "if the response status code is 206 or 304, or the must-understand cache directive is present: the cache
-- understands the response status code"
unfoldable pub keeps_to_status : ResponseControl → ℕ → Bool
keeps_to_status said status =
    not (status == 206 || status == 304 || said.must_understand) || is_status_understood status

-- 5.2.2.3, SHOULD: with must-understand, no-store is ignored if the status code is understood
unfoldable pub ignores_no_store : ResponseControl → ℕ → Bool
ignores_no_store said status = said.must_understand && is_status_understood status

-- 3 and 5.2.2.5, MUST NOT: "the no-store cache directive is not present in the response"
unfoldable pub forbids_storing : ResponseControl → ℕ → Bool
forbids_storing said status = said.no_store && not (ignores_no_store said status)

-- 3 and 5.2.2.7, MUST NOT: "if the cache is shared: the private response directive is either not present or allows a
-- shared cache to store a modified response"
unfoldable pub is_for_one_user : CacheKind → ResponseControl → Bool
is_for_one_user kind said = is_shared kind && is_whole said.private

-- 3.5: the directives that allow a shared cache to store what was asked for with Authorization
unfoldable pub allows_authorized : ResponseControl → Bool
allows_authorized said = said.must_revalidate || said.public || is_there said.s_maxage

-- 3 and 3.5, MUST NOT: "if the cache is shared: the Authorization header field is not present in the request or a
-- response directive is present that explicitly allows shared caching"
unfoldable pub is_kept_for_its_user : CacheKind → Entries FieldValue → ResponseControl → Bool
is_kept_for_its_user kind asked said =
    is_shared kind && has_field asked (codes "authorization") && not (allows_authorized said)

-- RFC 9110 15.1: the status codes that are heuristically cacheable; 206 is among them, and is not stored here
abbrev pub heuristic_statuses : List ℕ
heuristic_statuses = 200 ∷ 203 ∷ 204 ∷ 206 ∷ 300 ∷ 301 ∷ 308 ∷ 404 ∷ 405 ∷ 410 ∷ 414 ∷ 501 ∷ []

unfoldable pub is_heuristically_cacheable : ℕ → Bool
is_heuristically_cacheable status = list_any (λ known. known == status) heuristic_statuses

-- 3, MUST NOT: "the response contains at least one of the following": public; private, if the cache is not shared;
-- Expires; max-age; s-maxage, if the cache is shared; or a status code that is heuristically cacheable
unfoldable pub allows_storing : CacheKind → ResponseControl → Entries FieldValue → ℕ → Bool
allows_storing kind said fields status =
    said.public
    || (not (is_shared kind) && not (is_nothing said.private))
    || has_field fields (codes "expires")
    || is_there said.max_age
    || (is_shared kind && is_there said.s_maxage)
    || is_heuristically_cacheable status

-- "A cache MUST NOT store a response to a request unless" (3) all of this holds
pub record MayBeStored (kind : CacheKind) (request : RequestHeader) (asked : RequestControl) (response : ResponseHeader) (said : ResponseControl) : Type 0 where
  pub method : is_method_understood request.method ≡ true
  pub final : is_final response.status ≡ true
  pub understood : keeps_to_status said response.status ≡ true
  -- 5.2.1.5, MUST NOT: no-store in the request
  pub no_store_asked : asked.no_store ≡ false
  pub no_store_said : forbids_storing said response.status ≡ false
  pub private : is_for_one_user kind said ≡ false
  pub authorized : is_kept_for_its_user kind request.headers said ≡ false
  pub allowed : allows_storing kind said response.headers response.status ≡ true

-- the condition that a reason names does not hold
abbrev pub Fails : CacheKind → RequestHeader → RequestControl → ResponseHeader → ResponseControl → NotStoredFor → Type 0
Fails kind request asked response said MethodNotUnderstood = is_method_understood request.method ≡ false
Fails kind request asked response said StatusNotFinal = is_final response.status ≡ false
Fails kind request asked response said StatusNotUnderstood = keeps_to_status said response.status ≡ false
Fails kind request asked response said NoStoreAsked = asked.no_store ≡ true
Fails kind request asked response said NoStoreSaid = forbids_storing said response.status ≡ true
Fails kind request asked response said PrivateSaid = is_for_one_user kind said ≡ true
Fails kind request asked response said Authorized = is_kept_for_its_user kind request.headers said ≡ true
Fails kind request asked response said NothingAllowsIt = allows_storing kind said response.headers response.status ≡ false

-- stored exactly if it may be, and else for a reason that holds
abbrev pub IsStoring : CacheKind → RequestHeader → RequestControl → ResponseHeader → ResponseControl → Storing → Type 0
IsStoring kind request asked response said Stored = MayBeStored kind request asked response said
IsStoring kind request asked response said (NotStored reason) = Fails kind request asked response said reason

-- RFC 9111, 4.3.5: the answer to a HEAD is identical to what that to a GET with the same fields would have been
abbrev pub as_get : RequestHeader → RequestHeader
as_get request = record {
  method = codes "GET";
  target = request.target;
  headers = request.headers;
}
