-- Which pushed responses are stored (RFC 9111 section 3; the limits on lengths are own).
use Rattle.std.specs.Prelude.{◌≡◌, ℕ, Bool, false, nat_lt, if◌then◌else◌, List, Option, Some, None, codes, length, option_map}
use Rattle.std.specs.Duration.{as_nanos}
use Rattle.std.specs.declared.time.Duration.{Duration}
use Rattle.http_header.specs.HeaderMap.{get}
use Rattle.pcache_base.specs.declared.reason.NoCacheReason.TheVariants.{ResponseTooLarge}
use Rattle.pcache_control.specs.Control.{ReadsField, ReadsOneMap}
use Rattle.pcache_control.specs.Defaults.{asked_status}
use Rattle.pcache_control.specs.Responses.{IsDecision}
use Rattle.pcache_control.specs.declared.cache_control.CacheControl.{CacheControl}
use Rattle.pcache_control.specs.declared.response.RespCacheable.{RespCacheable}
use Rattle.pcache_control.specs.declared.response.RespCacheable.TheVariants.{Cacheable, Uncacheable}
use Rattle.pcache_meta.specs.HeaderText.{header_written}
use Rattle.pcache_meta.specs.Meta.{Meta}
use Rattle.pcache_meta.specs.declared.header.ResponseHeader.{ResponseHeader}
use Rattle.pcache_response.specs.Response.{SpellsLength}

-- what the head's own fields and the defaults say of a response whose request had no Authorization: `windows` are the
-- default stale windows, and a default lifetime of a status is one of `lifetimes`
abbrev pub SaysByDefault : ℕ × ℕ → (ℕ → Option Duration → Type 0) → ResponseHeader → ℕ → RespCacheable → Type 0
SaysByDefault windows lifetimes header now answer =
    (cc : Option CacheControl) × ReadsField header.headers (codes "cache-control") cc × ReadsOneMap header.headers (codes "cache-control") cc
    × IsDecision now cc windows header false (lifetimes (asked_status header.status)) answer

-- the policy decides only one way on a head at a moment
abbrev pub DecidesOneWay : (ResponseHeader → ℕ → RespCacheable → Type 0) → Type 0
DecidesOneWay says = (header : ResponseHeader) (now : ℕ) (a b : RespCacheable) → says header now a → says header now b → a ≡ b

-- each status has at most one default lifetime
abbrev pub HaveOneLifetime : (ℕ → Option Duration → Type 0) → Type 0
HaveOneLifetime lifetimes = (status : ℕ) (a b : Option Duration) → lifetimes status a → lifetimes status b → option_map as_nanos a ≡ option_map as_nanos b

-- the length that the first value of a field declares, if there is one and it can be read
abbrev pub DeclaresBy : Option (List ℕ) → Option ℕ → Type 0
DeclaresBy None length = length ≡ None
DeclaresBy (Some value) length = SpellsLength value length

-- the length of the body that a meta's head declares in its Content-Length
abbrev pub Declares : Meta → Option ℕ → Type 0
Declares meta length = DeclaresBy (get meta.header.fields (codes "content-length")) length

-- a length is above a limit
abbrev pub is_above : Option ℕ → Option ℕ → Bool
is_above None length = false
is_above (Some limit) None = false
is_above (Some limit) (Some length) = nat_lt limit length

-- the verdict on a response on which the policy decides so: one whose meta declares a longer body than is allowed is
-- not stored, whatever its status
abbrev pub Judges : Option ℕ → RespCacheable → RespCacheable → Type 0
Judges limit (Uncacheable reason) verdict = verdict ≡ Uncacheable reason
Judges limit (Cacheable meta) verdict =
    (length : Option ℕ) × Declares meta length × (verdict ≡ (if is_above limit length then Uncacheable ResponseTooLarge else Cacheable meta))

-- what a policy decides, with a limit on heads: a response whose stored head would have a longer text is not stored
abbrev pub with_short_head : ℕ → RespCacheable → RespCacheable
with_short_head most (Uncacheable reason) = Uncacheable reason
with_short_head most (Cacheable meta) = if nat_lt most (length (header_written meta.header)) then Uncacheable ResponseTooLarge else Cacheable meta

abbrev pub SaysWithin : ℕ → (ResponseHeader → ℕ → RespCacheable → Type 0) → ResponseHeader → ℕ → RespCacheable → Type 0
SaysWithin most says header now answer = (said : RespCacheable) × says header now said × (answer ≡ with_short_head most said)
