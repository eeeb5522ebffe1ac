-- Which responses are stored, and until when they are fresh (RFC 9111 sections 3 and 4.2).
use Rattle.std.specs.Prelude.{◌≡◌, ℕ, ◌+◌, ◌-◌, ◌*◌, ◌/◌, ◌^◌, Bool, true, false, not, ◌&&◌, ◌||◌, ◌==◌, List, [], ◌∷◌, Option, Some, None, option_and_then, unwrap_or, codes, nat_lt, nat_le, if◌then◌else◌}
use Rattle.std.specs.Bool.{MatchBool}
use Rattle.std.specs.Duration.{as_nanos}
use Rattle.std.specs.Option.{option_map}
use Rattle.std.specs.declared.time.Duration.{Duration}
use Rattle.http_header.specs.FieldValue.{FieldValue}
use Rattle.http_header.specs.HeaderMap.{Entries, get_all}
use Rattle.httpdate.specs.Date.{parse_secs}
use Rattle.pcache_meta.specs.Header.{shown}
use Rattle.pcache_meta.specs.Internal.{first_said}
use Rattle.pcache_meta.specs.Meta.{Meta}
use Rattle.pcache_meta.specs.declared.header.ResponseHeader.{ResponseHeader}
use Rattle.pcache_control.specs.declared.cache_control.CacheControl.{CacheControl}
use Rattle.pcache_control.specs.declared.cache_control.Cacheable.{Cacheable}
use Rattle.pcache_control.specs.declared.cache_control.Cacheable.TheVariants.{Yes, No, Default}
use Rattle.pcache_control.specs.declared.key.DirectiveKey.TheVariants.{StaleWhileRevalidate, StaleIfError}
use Rattle.pcache_control.specs.Control.{cacheable_of, allows_authorized, fresh_seconds, stale_seconds, stripped, as_duration}
use Rattle.pcache_control.specs.Seconds.{overflow_seconds}
use Rattle.pcache_control.specs.Values.{trim_ows}

-- a second, in nanoseconds
abbrev pub second : ℕ
second = 1_000_000_000

-- the moment at which a lifetime that begins now ends: a lifetime of zero ended one second ago; None if the moment is
-- out of range (moments and lifetimes in nanoseconds)
abbrev pub end_of : ℕ → ℕ → Option ℕ
end_of now lifetime =
    if lifetime == 0 then (if nat_le second now then Some (now - second) else None)
    else (if nat_lt (now + lifetime) (2 ^ 64 * second) then Some (now + lifetime) else None)

-- the moment of an Expires: the date that it spells, and the epoch if it spells none
abbrev pub expires_at : List ℕ → ℕ
expires_at value = unwrap_or (option_map (λ s. s * second) (parse_secs (trim_ows value))) 0

-- one Expires gives a moment; none or several give nothing
abbrev pub expires_in : List FieldValue → Option ℕ
expires_in [] = None
expires_in (value ∷ []) = Some (expires_at value.bytes)
expires_in (value ∷ other ∷ more) = None

-- the moment of the Expires of a response, if it has exactly one
unfoldable pub expires_of : Entries FieldValue → Option ℕ
expires_of fields = expires_in (get_all fields (codes "expires"))

-- the first of two sources that gives a moment
abbrev pub or_else : Option ℕ → Option ℕ → Option ℕ
or_else (Some moment) other = Some moment
or_else None other = other

-- Cache-Control forbids storing the response
abbrev pub is_no : Cacheable → Bool
is_no No = true
is_no Yes = false
is_no Default = false

-- the response is not stored: the request was authorized and that is not allowed, or Cache-Control forbids it
unfoldable pub forbids : Option CacheControl → Bool → Bool
forbids None authorized = authorized
forbids (Some cc) authorized = (authorized && not (allows_authorized cc)) || is_no (cacheable_of cc)

-- the end of freshness that Cache-Control gives, or else Expires
unfoldable pub said_moment : ℕ → Option CacheControl → Entries FieldValue → Option ℕ
said_moment now cc fields =
    or_else (option_and_then (end_of now) (option_and_then (λ c. as_duration (fresh_seconds c)) cc)) (expires_of fields)

-- the end of freshness that was given, else that of one of the default lifetimes
abbrev pub FreshBy : ℕ → Option ℕ → (Option Duration → Type 0) → Option ℕ → Type 0
FreshBy now (Some moment) answers result = result ≡ Some moment
FreshBy now None answers result =
    (default : Option Duration) × answers default × (result ≡ option_and_then (end_of now) (option_map as_nanos default))

-- until when a response is fresh, if a default lifetime is one of `answers`
abbrev pub FreshUntil : ℕ → Option CacheControl → Entries FieldValue → Bool → (Option Duration → Type 0) → Option ℕ → Type 0
FreshUntil now cc fields authorized answers result =
    MatchBool (forbids cc authorized) (result ≡ None) (FreshBy now (said_moment now cc fields) answers result)

-- a window in whole seconds: the given one, the overflow value if that does not fit 32 bits, and the default if none
-- is given
abbrev pub window : Option ℕ → ℕ → ℕ
window None default = default
window (Some nanos) default = if nat_lt (nanos / second) (2 ^ 32) then nanos / second else overflow_seconds

-- the two windows of a response: while it is revalidated, and after an error
abbrev pub windows : Option ℕ → Option ℕ → ℕ × ℕ → ℕ × ℕ
windows revalidating error defaults = (window revalidating defaults.0, window error defaults.1)

-- the same by Cache-Control
abbrev pub windows_of : Option CacheControl → ℕ × ℕ → ℕ × ℕ
windows_of cc defaults =
    windows
    (option_and_then (λ c. as_duration (stale_seconds c StaleWhileRevalidate)) cc)
    (option_and_then (λ c. as_duration (stale_seconds c StaleIfError)) cc)
    defaults

-- the head without the fields that Cache-Control keeps out of a shared cache
abbrev pub stored_header : Option CacheControl → ResponseHeader → ResponseHeader
stored_header None header = header
stored_header (Some cc) header = stripped cc header

-- the meta of a response that is stored now
abbrev pub new_meta : ℕ → ℕ → ℕ × ℕ → ResponseHeader → Meta
new_meta now fresh_until windows header = record {
  internal = first_said fresh_until now windows.0 windows.1;
  header = shown header;
}
