-- Whether a response is stored, and with which meta (own, over RFC 9111 section 3).
use Rattle.std.specs.Prelude.{◌≡◌, ℕ, Bool, true, false, Option, Some, None}
use Rattle.std.specs.declared.time.Duration.{Duration}
use Rattle.pcache_meta.specs.declared.header.ResponseHeader.{ResponseHeader}
use Rattle.pcache_base.specs.declared.reason.NoCacheReason.TheVariants.{OriginNotCache}
use Rattle.pcache_control.specs.declared.cache_control.CacheControl.{CacheControl}
use Rattle.pcache_control.specs.declared.response.RespCacheable.{RespCacheable}
use Rattle.pcache_control.specs.declared.response.RespCacheable.TheVariants.{Cacheable, Uncacheable}
use Rattle.pcache_control.specs.Filters.{FreshUntil, new_meta, stored_header, windows_of}

abbrev pub is_cacheable : RespCacheable → Bool
is_cacheable (Cacheable meta) = true
is_cacheable (Uncacheable reason) = false

-- a response is stored if there is a moment until which it is fresh
abbrev pub decision_on : ℕ → Option CacheControl → ℕ × ℕ → ResponseHeader → Option ℕ → RespCacheable
decision_on now cc default header None = Uncacheable OriginNotCache
decision_on now cc default header (Some fresh_until) = Cacheable (new_meta now fresh_until (windows_of cc default) (stored_header cc header))

-- the decision by a moment until which the response is fresh, if a default lifetime is one of `answers`, and the
-- default windows are `default`
abbrev pub IsDecision : ℕ → Option CacheControl → ℕ × ℕ → ResponseHeader → Bool → (Option Duration → Type 0) → RespCacheable → Type 0
IsDecision now cc default header authorized answers result =
    (fresh_until : Option ℕ) × FreshUntil now cc header.headers authorized answers fresh_until × (result ≡ decision_on now cc default header fresh_until)
