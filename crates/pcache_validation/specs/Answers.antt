-- What the answer to a validation means (RFC 9111 section 4.3.3; RFC 5861 section 4).
use Rattle.std.specs.Prelude.{◌≡◌, ◌⊎◌, ℕ, Bool, false, Option, Some, None}
use Rattle.pcache_meta.specs.Meta.{Meta, MayServeStale}

-- RFC 5861, 4: an error is a situation that would result in 500, 502, 503 or 504; that no answer came counts as one
abbrev pub IsError : Option ℕ → Type 0
IsError None = Unit {0}
IsError (Some status) = (status ≡ 500) ⊎ ((status ≡ 502) ⊎ ((status ≡ 503) ⊎ (status ≡ 504)))

-- RFC 9111, 4.3.3: a 304 says that the stored response can be updated and reused
abbrev pub IsUnchanged : Option ℕ → Type 0
IsUnchanged status = status ≡ Some 304

-- RFC 9111, 4.3.3, MAY: after an error the cache may act as if the server failed to respond, and send a stored response
-- as far as 4.2.4 allows. RFC 5861, 4, SHOULD NOT: not past the window of stale-if-error. RFC 9111, 4.2.4, MUST NOT: not
-- if a directive prohibits it
pub record MayActAsFailed (status : Option ℕ) (stored : Meta) (prohibited : Bool) (now : ℕ) : Type 0 where
  pub is_error : IsError status
  pub window : MayServeStale stored.fresh_until stored.stale_if_error_sec now
  pub allowed : prohibited ≡ false
