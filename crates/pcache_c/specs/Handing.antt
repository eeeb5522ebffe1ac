-- What it is to hand the permit of a request to another request of the same cache (own).
use Rattle.std.specs.Prelude.{◌≡◌, ◌≢◌, ℕ, Option, None, Some, IsSome}
use Rattle.pcache_cache.specs.Fetching.{FetchNote}
use Rattle.pcache_cache.specs.Locking as locking
use Rattle.pcache_cache.specs.Parts.{Parts}
use Rattle.pcache_lock.specs.Permits.{Permit}
use Rattle.pcache_request.specs.LockUse.{permit_in, unheld}
use Rattle.pcache_request.specs.Phases.{IsOn}
use Rattle.pcache_request.specs.declared.cache.report.LockName.{LockName}
use Rattle.pcache_c.specs.Codes.{Outcome, bad_handle}
use Rattle.pcache_c.specs.Handles.{Turns}
use Rattle.pcache_c.specs.Objects.{as_cache}
use Rattle.pcache_c.specs.Requests.{KeepsPieces}
use Rattle.pcache_c.specs.Seats.{AreSet, IsSet, request_at}
use Rattle.pcache_c.specs.declared.object.Object.{Object}
use Rattle.pcache_c.specs.declared.seats.Seats.{Seats}
use Rattle.pcache_c.specs.declared.served.Open.{Open}
use Rattle.pcache_c.specs.declared.served.Served.{Served}

-- a permit may be handed from the request o to the request q: they are two, the first holds the permit, and of the second
-- caching is on
pub record MayHand (from to : ℕ) (o q : Open) : Type 0 where
  pub two : from ≢ to
  pub held : IsSome (permit_in o.request.cache.held)
  pub on : IsOn q.request.cache.phase

-- the permit of the request o is taken out of it, which leaves p, and with it when its fetch began
pub record Gives (permit : Permit) (fetch : Option FetchNote) (o p : Open) : Type 0 where
  pub had : permit_in o.request.cache.held ≡ Some permit
  pub fetch_is : fetch ≡ o.request.fetch
  pub request : p.request.cache ≡ unheld o.request.cache
  pub gone : p.request.fetch ≡ None
  pub rest : KeepsPieces o p

-- a permit is held by the request q, which is r since, and a lock that it held before is let go; its fetch began when the giver's did
pub record Gets (permit : Permit) (fetch : Option FetchNote) (c d : Parts) (q r : Open) : Type 0 where
  pub let_go : Option LockName
  pub takes : locking.TakesPermit let_go permit q.request.cache r.request.cache c d
  pub fetch_is : r.request.fetch ≡ fetch
  pub rest : KeepsPieces q r

-- the permit went from the first request to the second, and no other request changed
pub record Hands (from to : ℕ) (o q : Open) (s t : Served) : Type 0 where
  pub permit : Permit
  pub fetch : Option FetchNote
  pub giver : Open
  pub taker : Open
  pub gives : Gives permit fetch o giver
  pub gets : Gets permit fetch s.cache t.cache q taker
  pub seats : AreSet from giver to taker s.seats t.seats
  pub counts : t.counts ≡ s.counts

-- a number that no open request has is refused, and a call that may not be made; then nothing changed
abbrev pub HandsOn : Option Open → Option Open → ℕ → ℕ → Served → Served → ℕ → Type 0
HandsOn None q from to s t code = (code ≡ bad_handle) × (t ≡ s)
HandsOn (Some o) None from to s t code = (code ≡ bad_handle) × (t ≡ s)
HandsOn (Some o) (Some q) from to s t code = Outcome (MayHand from to o q) (Hands from to o q s t) ⊥ (λ e. ⊥) (t ≡ s) code

abbrev pub HandsPermit : ℕ → ℕ → Object → Object → ℕ → Type 0
HandsPermit from to old new code = Turns as_cache old new code (λ s t. HandsOn (request_at s.seats from) (request_at s.seats to) from to s t code)

-- the two halves of it

abbrev pub HasPermit : Option Open → Type 0
HasPermit None = ⊥
HasPermit (Some o) = IsSome (permit_in o.request.cache.held)

pub record GivesPermit (from : ℕ) (permit : Permit) (fetch : Option FetchNote) (old new : Seats Open) : Type 0 where
  pub before : Open
  pub after : Open
  pub was : request_at old from ≡ Some before
  pub set : IsSet from after old new
  pub gives : Gives permit fetch before after

abbrev pub IsOpenOn : Option Open → Type 0
IsOpenOn None = ⊥
IsOpenOn (Some q) = IsOn q.request.cache.phase

pub record TakesPermit (to : ℕ) (permit : Permit) (fetch : Option FetchNote) (s t : Served) : Type 0 where
  pub before : Open
  pub after : Open
  pub was : request_at s.seats to ≡ Some before
  pub set : IsSet to after s.seats t.seats
  pub counts : t.counts ≡ s.counts
  pub gets : Gets permit fetch s.cache t.cache before after
