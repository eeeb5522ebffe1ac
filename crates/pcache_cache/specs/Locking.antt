-- Locks of keys: what a call does to a cache, from p to q, with this result. The request is r before it and s after it (own).
use Rattle.std.specs.Prelude.{◌≡◌, ℕ, List, Option, IfOk, OnErr, Result}
use Rattle.pcache_base.specs.declared.error.ErrorType.{ErrorType}
use Rattle.pcache_base.specs.declared.poll.Poll.{Poll}
use Rattle.pcache_base.specs.declared.reason.NoCacheReason.{NoCacheReason}
use Rattle.pcache_lock.specs.declared.lock.outcome.LockWaitOutcome.{LockWaitOutcome}
use Rattle.pcache_lock.specs.declared.lock.permit.WritePermit.{WritePermit}
use Rattle.pcache_lock.specs.declared.lock.status.LockStatus.TheVariants.{GiveUp}
use Rattle.pcache_request.specs.LockWaits.{wait_result}
use Rattle.pcache_request.specs.Releasing.{status_for}
use Rattle.pcache_request.specs.Requests.{Request}
use Rattle.pcache_request.specs.declared.cache.report.LockName.{LockName}
use Rattle.pcache_request.specs.declared.cache.report.ReleasedLock.{ReleasedLock}
use Rattle.pcache_request.specs.Locking as locking
use Rattle.pcache_cache.specs.Parts.{Parts, locks_of}

-- the wait for the lock of another request is asked for
pub record Waits (result : Result (Poll LockWaitOutcome) ErrorType) (now : ℕ) (r s : Request) (p q : Parts) : Type 0 where
  pub answer : IfOk result (λ a. a ≡ wait_result p.locks now r.held r)
  pub takes : locking.Waits result now r s (locks_of p) (locks_of q)
  pub same : OnErr result (q ≡ p)
  pub rest : q ≡ record p { locks = q.locks; deeds = q.deeds }

-- a permit is released with the status of the reason
pub record Releases (result : Option ReleasedLock) (reason : NoCacheReason) (r s : Request) (p q : Parts) : Type 0 where
  pub takes : locking.Releases result (status_for (λ text. GiveUp) reason) r s (locks_of p) (locks_of q)
  pub rest : q ≡ record p { locks = q.locks; deeds = q.deeds }

-- a permit of another request is held
pub record TakesPermit (result : Option LockName) (permit : WritePermit) (r s : Request) (p q : Parts) : Type 0 where
  pub takes : locking.TakesPermit result permit r s (locks_of p) (locks_of q)
  pub rest : q ≡ record p { locks = q.locks; deeds = q.deeds }

-- tokens are published
pub record Publishes (result : Result (Option LockName) ErrorType) (tokens : List ℕ) (r : Request) (p q : Parts) : Type 0 where
  pub takes : locking.Publishes result tokens r (locks_of p) (locks_of q)
  pub same : OnErr result (q ≡ p)
  pub rest : q ≡ record p { locks = q.locks; deeds = q.deeds }
