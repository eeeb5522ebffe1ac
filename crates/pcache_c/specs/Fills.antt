-- The fills that a request cannot use, and what the one that fills a key publishes of its fill: numbers, upstream's tokens (own).
use Rattle.std.specs.Prelude.{◌≡◌, ℕ, List, Option, None, Some, IsSome, ⊤, map, option_map, Ok, Err}
use Rattle.pcache_base.specs.Key.{Key}
use Rattle.pcache_base.specs.declared.error.ErrorType.{ErrorType}
use Rattle.pcache_base.specs.declared.fills.UnusableFill.{UnusableFill}
use Rattle.pcache_cache.specs.Locking as locking
use Rattle.pcache_cache.specs.Parts.{Parts}
use Rattle.pcache_request.specs.LockUse.{permit_in}
use Rattle.pcache_request.specs.declared.cache.report.LockName.{LockName}
use Rattle.pcache_c.specs.Caches.{key_with}
use Rattle.pcache_c.specs.Codes.{Outcome}
use Rattle.pcache_c.specs.Requests.{IsUnchanged, SaysKnown}
use Rattle.pcache_c.specs.declared.served.Open.{Open}

-- fills have these tokens, in their order
abbrev pub HaveTokens : List ℕ → List UnusableFill → Type 0
HaveTokens tokens fills = map (λ f. f.token) fills ≡ tokens

-- a key of these bytes, for the user with this tag, of a request that cannot use these fills
abbrev pub key_without : List UnusableFill → List ℕ → List ℕ → Key
key_without fills primary tag = record (key_with primary tag) { unusable = Some fills }

-- tokens are published by the request that holds the permit, in place of those that it published before

pub record Published (tokens : List ℕ) (c d : Parts) (o p : Open) : Type 0 where
  pub held : IsSome (permit_in o.request.cache.held)
  pub published : Option LockName
  pub takes : locking.Publishes (Ok published) tokens o.request.cache c d
  pub request : p ≡ o

-- there was no memory for them
pub record RefusesTokens (tokens : List ℕ) (c d : Parts) (o p : Open) (e : ErrorType) : Type 0 where
  pub takes : locking.Publishes (Err e) tokens o.request.cache c d
  pub request : p ≡ o

-- where no permit is held, nothing is published
abbrev pub Publishes : List ℕ → Parts → Parts → Open → Open → ℕ → Type 0
Publishes tokens c d o p code = Outcome ⊤ (Published tokens c d o p) ((permit_in o.request.cache.held ≡ None) × IsUnchanged c d o p) (RefusesTokens tokens c d o p) ⊥ code

-- the token of the fill for which the request's last abandoned wait was abandoned is said, if one was

abbrev pub token_abandoned : Open → Option ℕ
token_abandoned o = option_map (λ a. a.token) o.request.cache.digest.abandoned

abbrev pub SaysAbandoned : Parts → Parts → Open → Open → ℕ → ℕ → Type 0
SaysAbandoned c d o p out code = IsUnchanged c d o p × SaysKnown (token_abandoned o) out code
