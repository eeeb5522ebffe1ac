-- What a predictor in use says of a request's key (the phase table).
use Rattle.std.specs.Prelude.{ℕ, not, Bool, true, List, Option, Some, None, cond}
use Rattle.pcache_base.specs.Key.{Key, primary_of}
use Rattle.pcache_base.specs.declared.reason.NoCacheReason.{NoCacheReason}
use Rattle.pcache_request.specs.Releasing.{bypassed}
use Rattle.pcache_request.specs.Requests.{Request}

-- a response is expected to be cacheable unless a predictor in use says of the key's primary hash that it is not
abbrev pub expects_cacheable : Bool → (List ℕ → Bool) → Option Key → Bool
expects_cacheable uses is_uncacheable None = true
expects_cacheable uses is_uncacheable (Some k) = cond uses (not (is_uncacheable (primary_of k))) true

-- the reason that a predictor in use gives
abbrev pub foretold : Bool → (List ℕ → Option NoCacheReason) → Option Key → Option NoCacheReason
foretold uses reason None = None
foretold uses reason (Some k) = cond uses (reason (primary_of k)) None

-- the cache is bypassed, and the predicted reason is kept
abbrev pub bypassed_for : Option NoCacheReason → Request → Request
bypassed_for why r = record (bypassed r) { predicted = why }
