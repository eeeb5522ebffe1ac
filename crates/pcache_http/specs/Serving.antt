-- Whether a stored response may be served (RFC 9111 sections 4, 4.2, 4.2.4, 5.2.1 and 5.2.2; RFC 5861). Times are in
-- seconds; the age is the current one.
use Rattle.std.specs.Prelude.{◌≡◌, ℕ, ◌+◌, ◌-◌, Bool, true, false, not, ◌&&◌, ◌||◌, Option, Some, None, nat_lt, nat_le, if◌then◌else◌}
use Rattle.pcache_http.specs.declared.rules.CacheKind.{CacheKind}
use Rattle.pcache_http.specs.declared.rules.Repeats.TheVariants.{First}
use Rattle.pcache_http.specs.declared.rules.Rules.{Rules}
use Rattle.pcache_http.specs.declared.control.ResponseControl.{ResponseControl}
use Rattle.pcache_http.specs.declared.control.RequestControl.{RequestControl}
use Rattle.pcache_http.specs.declared.seconds.Amount.{Amount}
use Rattle.pcache_http.specs.declared.seconds.Amount.TheVariants.{Bare, Invalid, Seconds}
use Rattle.pcache_http.specs.declared.seconds.Number.{Number}
use Rattle.pcache_http.specs.declared.seconds.Number.TheVariants.{Absent, Once, Repeated}
use Rattle.pcache_http.specs.declared.lifetime.Lifetime.{Lifetime}
use Rattle.pcache_http.specs.declared.serving.Serving.{Serving}
use Rattle.pcache_http.specs.declared.serving.Serving.TheVariants.{Fresh, StaleWhileRevalidating, StaleAccepted, Validate, GatewayTimeout}
use Rattle.pcache_http.specs.declared.serving.Missing.{Missing}
use Rattle.pcache_http.specs.declared.serving.Missing.TheVariants.{Fetch, NotCached}
use Rattle.pcache_http.specs.Seconds.{time_of}
use Rattle.pcache_http.specs.Storing.{is_shared, is_there, is_whole}
use Rattle.pcache_http.specs.Lifetime.{lifetime_seconds}

-- 4.2: response_is_fresh = (freshness_lifetime > current_age)
unfoldable pub is_fresh : Lifetime → ℕ → Bool
is_fresh lifetime age = nat_lt age (lifetime_seconds lifetime)

-- for how long it has been stale
abbrev pub staleness : Lifetime → ℕ → ℕ
staleness lifetime age = age - lifetime_seconds lifetime

-- 4 and 5.2.2.4, MUST NOT: a response with no-cache is not used without successful validation
unfoldable pub wants_validation : ResponseControl → Bool
wants_validation said = is_whole said.no_cache

-- 4.2.4, MUST NOT: a stale response is not generated if no-cache, must-revalidate, or in a shared cache proxy-revalidate
-- or s-maxage prohibits it (5.2.2.2, 5.2.2.8, 5.2.2.10)
unfoldable pub prohibits_stale : CacheKind → ResponseControl → Bool
prohibits_stale kind said =
    is_whole said.no_cache || said.must_revalidate || (is_shared kind && (said.proxy_revalidate || is_there said.s_maxage))

-- 5.2.1.1: the client prefers an age of at most max-age
abbrev pub is_at_most : ℕ → Option ℕ → Bool
is_at_most n None = true
is_at_most n (Some most) = nat_le n most

unfoldable pub accepts_age : RequestControl → ℕ → Bool
accepts_age asked age = is_at_most age (time_of First asked.max_age)

-- 5.2.1.3: the client prefers a freshness lifetime that is no less than the current age plus min-fresh
abbrev pub lasts : Lifetime → ℕ → Option ℕ → Bool
lasts lifetime age None = true
lasts lifetime age (Some more) = nat_le (age + more) (lifetime_seconds lifetime)

unfoldable pub accepts_rest : RequestControl → Lifetime → ℕ → Bool
accepts_rest asked lifetime age = lasts lifetime age (time_of First asked.min_fresh)

-- 5.2.1.2: the client accepts a response that has been stale for no more than max-stale, for any time if it has no value
abbrev pub bounds : Amount → ℕ → Bool
bounds Bare by = true
bounds (Seconds most) by = nat_le by most
bounds Invalid by = false

abbrev pub allows_by : Bool → Number → ℕ → Bool
allows_by otherwise Absent by = otherwise
allows_by otherwise (Once amount) by = bounds amount by
allows_by otherwise (Repeated amount) by = bounds amount by

-- 4.2.4: the client explicitly permits it
unfoldable pub permits_stale : RequestControl → ℕ → Bool
permits_stale asked by = allows_by false asked.max_stale by

-- 5.2.1.1: with max-age and without max-stale the client does not wish to receive a stale response
unfoldable pub accepts_stale : RequestControl → ℕ → Bool
accepts_stale asked by = allows_by (not (is_there asked.max_age)) asked.max_stale by

-- RFC 5861 3 and 4: the origin, or the client, permits it up to so many seconds
abbrev pub is_open : Option ℕ → ℕ → Bool
is_open None by = false
is_open (Some most) by = nat_le by most

-- 5.2.1.4 and 5.4: no-cache, and what the client prefers of any stored response
unfoldable pub is_acceptable : RequestControl → Lifetime → ℕ → Bool
is_acceptable asked lifetime age = not asked.no_cache && accepts_age asked age && accepts_rest asked lifetime age

-- it is fresh, and neither the response nor the client asks for validation
unfoldable pub may_be_reused : ResponseControl → RequestControl → Lifetime → ℕ → Bool
may_be_reused said asked lifetime age =
    is_fresh lifetime age && not (wants_validation said) && is_acceptable asked lifetime age

-- it is stale, and nothing prohibits that it is served so
unfoldable pub may_be_stale : CacheKind → ResponseControl → RequestControl → Lifetime → ℕ → Bool
may_be_stale kind said asked lifetime age =
    not (is_fresh lifetime age) && not (prohibits_stale kind said) && is_acceptable asked lifetime age

-- RFC 5861 3: the window after the response became stale, in which it may be served while it is revalidated
unfoldable pub is_while_revalidating : Rules → ResponseControl → RequestControl → Lifetime → ℕ → Bool
is_while_revalidating rules said asked lifetime age =
    may_be_stale rules.kind said asked lifetime age
    && is_open (time_of rules.repeats said.stale_while_revalidate) (staleness lifetime age)
    && accepts_stale asked (staleness lifetime age)

-- 5.2.1.2: it is stale, and the client accepts that
unfoldable pub is_accepted_stale : Rules → ResponseControl → RequestControl → Lifetime → ℕ → Bool
is_accepted_stale rules said asked lifetime age =
    may_be_stale rules.kind said asked lifetime age && permits_stale asked (staleness lifetime age)

-- "A cache MUST NOT reuse a stored response unless" (4) it is fresh, or allowed to be served stale, or validated
unfoldable pub may_be_served : Rules → ResponseControl → RequestControl → Lifetime → ℕ → Bool
may_be_served rules said asked lifetime age =
    may_be_reused said asked lifetime age
    || is_while_revalidating rules said asked lifetime age
    || is_accepted_stale rules said asked lifetime age

-- what becomes of a stored response that a request selects; 5.2.1.7, SHOULD: with only-if-cached 504 in place of
-- forwarding
abbrev pub Serves : Rules → ResponseControl → RequestControl → Lifetime → ℕ → Serving → Type 0
Serves rules said asked lifetime age Fresh = may_be_reused said asked lifetime age ≡ true
Serves rules said asked lifetime age StaleWhileRevalidating = is_while_revalidating rules said asked lifetime age ≡ true
Serves rules said asked lifetime age StaleAccepted =
    (is_accepted_stale rules said asked lifetime age ≡ true) × (is_while_revalidating rules said asked lifetime age ≡ false)
Serves rules said asked lifetime age Validate =
    (may_be_served rules said asked lifetime age ≡ false) × (asked.only_if_cached ≡ false)
Serves rules said asked lifetime age GatewayTimeout =
    (may_be_served rules said asked lifetime age ≡ false) × (asked.only_if_cached ≡ true)

-- the stored response is not served as it is
abbrev pub IsNotServed : Serving → Type 0
IsNotServed Fresh = ⊥
IsNotServed StaleWhileRevalidating = ⊥
IsNotServed StaleAccepted = ⊥
IsNotServed Validate = Unit {0}
IsNotServed GatewayTimeout = Unit {0}

-- 5.2.1.7: without a stored response the request is forwarded, unless only a stored one is wanted
abbrev pub missing_for : RequestControl → Missing
missing_for asked = if asked.only_if_cached then NotCached else Fetch

-- RFC 5861 4: after an error a stale response may be served, up to the seconds that the response or the request says;
-- RFC 9111 4.2.4 and 5.2.2.2, MUST NOT: not if that is prohibited
unfoldable pub may_follow_error : Rules → ResponseControl → RequestControl → Lifetime → ℕ → Bool
may_follow_error rules said asked lifetime age =
    not (prohibits_stale rules.kind said) && not asked.no_cache
    && (is_open (time_of rules.repeats said.stale_if_error) (staleness lifetime age)
    || is_open (time_of First asked.stale_if_error) (staleness lifetime age))
