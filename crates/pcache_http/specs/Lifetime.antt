-- For how long a response is fresh (RFC 9111 sections 4.2.1, 4.2.2, 5.2.2.1, 5.2.2.10 and 5.3). Times are in seconds.
use Rattle.std.specs.Prelude.{◌≡◌, ℕ, ◌-◌, ◌/◌, Bool, ◌||◌, List, [], ◌∷◌, min, Option, Some, None, codes, slice_get, unwrap_or, option_and_then, if◌then◌else◌}
use Rattle.std.specs.Option.{option_map}
use Rattle.http_header.specs.FieldValue.{FieldValue}
use Rattle.http_header.specs.HeaderMap.{Entries, get, get_all}
use Rattle.httpdate.specs.Date.{parse_secs}
use Rattle.pcache_control.specs.Values.{trim_ows}
use Rattle.pcache_meta.specs.declared.header.ResponseHeader.{ResponseHeader}
use Rattle.pcache_http.specs.declared.rules.Rules.{Rules}
use Rattle.pcache_http.specs.declared.rules.Heuristic.{Heuristic}
use Rattle.pcache_http.specs.declared.rules.Heuristic.TheVariants.{Never, Tenth}
use Rattle.pcache_http.specs.declared.control.ResponseControl.{ResponseControl}
use Rattle.pcache_http.specs.declared.seconds.Amount.{Amount}
use Rattle.pcache_http.specs.declared.seconds.Amount.TheVariants.{Invalid, Seconds}
use Rattle.pcache_http.specs.declared.lifetime.Lifetime.{Lifetime}
use Rattle.pcache_http.specs.declared.lifetime.Lifetime.TheVariants.{Explicit, Heuristic as ByHeuristic, Unknown}
use Rattle.pcache_http.specs.Seconds.{at_most_largest, counted, time_of}
use Rattle.pcache_http.specs.Storing.{is_shared, is_heuristically_cacheable}

-- RFC 9110 5.6.7: the second that an HTTP-date shows, without the white space round it
unfoldable pub date_shown : List ℕ → Option ℕ
date_shown value = parse_secs (trim_ows value)

abbrev pub date_in : Option FieldValue → Option ℕ
date_in None = None
date_in (Some value) = date_shown value.bytes

-- RFC 9110 6.6.1: the Date of a response; one without a Date, or with an invalid one, has the time at which it was
-- received (of several lines the first counts)
unfoldable pub date_value : Entries FieldValue → ℕ → ℕ
date_value fields received = unwrap_or (date_in (get fields (codes "date"))) received

-- RFC 9111 4.2.1: Expires minus Date; one that is earlier leaves no time. 5.3, MUST: an invalid date, especially "0",
-- represents a time in the past
abbrev pub amount_until : ℕ → Option ℕ → Amount
amount_until date None = Invalid
amount_until date (Some expires) = Seconds (at_most_largest (expires - date))

abbrev pub expiry_of : ℕ → FieldValue → Amount
expiry_of date value = amount_until date (date_shown value.bytes)

-- the first of two sources that gives a time
abbrev pub or_else : Option ℕ → Option ℕ → Option ℕ
or_else (Some n) other = Some n
or_else None other = other

-- 4.2.1, in the RFC's order: s-maxage, if the cache is shared (5.2.2.10: it overrides max-age and Expires); max-age
-- (5.3, MUST: Expires is then ignored); Expires minus Date
unfoldable pub explicit_lifetime : Rules → ResponseControl → ℕ → Entries FieldValue → Option ℕ
explicit_lifetime rules said date fields =
    or_else (if is_shared rules.kind then time_of rules.repeats said.s_maxage else None)
    (or_else (time_of rules.repeats said.max_age)
    (time_of rules.repeats (counted (expiry_of date) (get_all fields (codes "expires")))))

-- 4.2.2: heuristics are only for a status code that is heuristically cacheable, and for what is marked as explicitly
-- cacheable, as by public
unfoldable pub allows_heuristics : ResponseControl → ℕ → Bool
allows_heuristics said status = said.public || is_heuristically_cacheable status

-- 4.2.2, encouraged: no more than a tenth of the time since Last-Modified
abbrev pub tenth_since : ℕ → ℕ → ℕ → ℕ
tenth_since most date modified = min ((date - modified) / 10) most

unfoldable pub heuristic_lifetime : Heuristic → ResponseControl → ℕ → ResponseHeader → Option ℕ
heuristic_lifetime Never said date response = None
heuristic_lifetime (Tenth most) said date response =
    if allows_heuristics said response.status
    then option_map (tenth_since most date) (date_in (get response.headers (codes "last-modified")))
    else None

-- 4.2.2, MUST NOT: no heuristics if there is an explicit expiration time
abbrev pub lifetime_by : Option ℕ → Option ℕ → Lifetime
lifetime_by (Some n) heuristic = Explicit n
lifetime_by None (Some n) = ByHeuristic n
lifetime_by None None = Unknown

-- the freshness lifetime of a response that was received in this second
abbrev pub lifetime_of : Rules → ResponseControl → ResponseHeader → ℕ → Lifetime
lifetime_of rules said response received =
    let date = date_value response.headers received in
    lifetime_by (explicit_lifetime rules said date response.headers) (heuristic_lifetime rules.heuristic said date response)

-- without a lifetime there is no time in which it is fresh
abbrev pub lifetime_seconds : Lifetime → ℕ
lifetime_seconds (Explicit n) = n
lifetime_seconds (ByHeuristic n) = n
lifetime_seconds Unknown = 0
