-- What a client's own conditions get from a stored response (RFC 9111 section 4.3.2; RFC 9110 sections 13.1 and 13.2).
use Rattle.std.specs.Prelude.{◌≡◌, ◌⊎◌, ℕ, ◌*◌, Bool, false, not, ◌||◌, nat_le, List, bytes_eq, codes, Option, Some, None, option_map, option_and_then, unwrap_or, IsTrue, if◌then◌else◌}
use Rattle.std.specs.List.{list_any}
use Rattle.pcache_meta.specs.Header.{Fields}
use Rattle.pcache_validation.specs.Lists.{elements, trim_ows}
use Rattle.pcache_validation.specs.EntityTags.{Tag, tag_in, strongly_match, weakly_match}
use Rattle.pcache_validation.specs.Fields.{lines, only, has, date_of}
use Rattle.pcache_validation.specs.Validators.{entity_tag, last_modified}

-- ---- If-None-Match (RFC 9110, 13.1.2): "*" or a list of entity tags

-- the value, in its one line, is "*"
abbrev pub is_star : Option (List ℕ) → Bool
is_star (Some value) = bytes_eq (trim_ows value) (codes "*")
is_star None = false

abbrev pub matches_weakly : Option Tag → Option Tag → Bool
matches_weakly (Some listed) (Some selected) = weakly_match listed selected
matches_weakly (Some listed) None = false
matches_weakly None selected = false

-- RFC 9110, 13.1.2, MUST: entity tags of If-None-Match are compared by weak comparison
abbrev pub lists_tag : Option Tag → List ℕ → Bool
lists_tag selected line = list_any (λ element. matches_weakly (tag_in element) selected) (elements line)

-- RFC 9110, 13.1.2: the condition is false if the value is "*" and there is a current representation, as the stored
-- response is; or if one of the listed tags matches the entity tag of the stored response. Otherwise it is true
abbrev pub none_match_is_false : Fields → Fields → Bool
none_match_is_false request stored =
    is_star (only request (codes "if-none-match"))
    || list_any (lists_tag (entity_tag stored)) (lines request (codes "if-none-match"))

-- ---- If-Modified-Since (RFC 9110, 13.1.3)

-- RFC 9110, 13.1.3, MUST: If-Modified-Since is ignored if its value is no HTTP-date or has more than one member
abbrev pub modified_since : Fields → Option ℕ
modified_since request = date_of request (codes "if-modified-since")

-- seconds, as a moment in nanoseconds
abbrev pub moment_of : ℕ → ℕ
moment_of secs = secs * 1_000_000_000

-- RFC 9111, 4.3.2, SHOULD: without Last-Modified the response's Date is used and, without a Date, the time at which it
-- was received. A Last-Modified that is no date gives nothing
abbrev pub modified_at : Fields → ℕ → Option ℕ
modified_at stored received =
    if has stored (codes "last-modified") then option_map moment_of (last_modified stored)
    else Some (unwrap_or (option_map moment_of (date_of stored (codes "date"))) received)

abbrev pub is_earlier_or_equal : Option ℕ → Option ℕ → Bool
is_earlier_or_equal (Some modified) (Some since) = nat_le modified (moment_of since)
is_earlier_or_equal (Some modified) None = false
is_earlier_or_equal None since = false

-- RFC 9110, 13.1.3: the condition is false if the modification date is earlier than or equal to the date of the field.
-- Otherwise it is true
abbrev pub since_is_false : Fields → Fields → ℕ → Bool
since_is_false request stored received = is_earlier_or_equal (modified_at stored received) (modified_since request)

-- ---- what the request gets

-- RFC 9110, 13.2.1, MUST: conditions are ignored with other methods than those that select a representation; of them a
-- cache answers GET and HEAD
abbrev pub SelectsRepresentation : List ℕ → Type 0
SelectsRepresentation method = (method ≡ codes "GET") ⊎ (method ≡ codes "HEAD")

-- RFC 9111, 4.3.2, SHOULD: conditions are evaluated against a stored 200 or 206. RFC 9110, 13.2.1, MUST: they are ignored
-- if the answer without them would be none of success
abbrev pub IsEvaluated : ℕ → Type 0
IsEvaluated status = (status ≡ 200) ⊎ (status ≡ 206)

-- RFC 9110, 13.2.2, MUST: If-None-Match is evaluated first. RFC 9110, 13.1.3, MUST: If-Modified-Since is ignored if
-- there is an If-None-Match
abbrev pub condition_is_false : Fields → Fields → ℕ → Bool
condition_is_false request stored received =
    if has request (codes "if-none-match") then none_match_is_false request stored
    else since_is_false request stored received

-- RFC 9111, 4.3.2, MUST NOT: If-Match and If-Unmodified-Since are not a cache's to evaluate: nothing here reads them.
-- RFC 9110, 13.2.2, MUST: the answer is 304 exactly if the condition of a GET or HEAD is false
pub record GetsNotModified (method : List ℕ) (request : Fields) (status : ℕ) (stored : Fields) (received : ℕ) : Type 0 where
  pub selects : SelectsRepresentation method
  pub evaluated : IsEvaluated status
  pub condition : IsTrue (condition_is_false request stored received)

-- ---- If-Range (RFC 9110, 13.1.5)

abbrev pub matches_strongly : Option Tag → Option Tag → Bool
matches_strongly (Some a) (Some b) = strongly_match a b
matches_strongly (Some a) None = false
matches_strongly None b = false

-- RFC 9110, 13.1.5, MUST: the condition is true if its entity tag matches that of the stored response by strong
-- comparison. A date that is not known to be a strong validator makes it false, and no date is known to be one here
abbrev pub range_condition_holds : Fields → Fields → Bool
range_condition_holds request stored =
    matches_strongly (option_and_then (λ value. tag_in (trim_ows value)) (only request (codes "if-range"))) (entity_tag stored)

-- RFC 9110, 13.1.5, MUST: an If-Range without a Range is ignored. RFC 9110, 13.2.2, MUST: with both, the range of a GET
-- is served only if the condition is true, and else the whole
pub record ServesRange (method : List ℕ) (request stored : Fields) : Type 0 where
  pub is_get : method ≡ codes "GET"
  pub range : IsTrue (has request (codes "range"))
  pub condition : IsTrue (not (has request (codes "if-range")) || range_condition_holds request stored)
