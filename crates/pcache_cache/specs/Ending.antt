-- The end of a request, or of its use of a cache: what a call does to the cache, from p to q, with this result. The request is r before
-- it and s after it (own).
use Rattle.std.specs.Prelude.{◌≡◌, Option}
use Rattle.pcache_base.specs.declared.reason.NoCacheReason.{NoCacheReason}
use Rattle.pcache_lock.specs.declared.lock.status.LockStatus.TheVariants.{GiveUp}
use Rattle.pcache_request.specs.Releasing.{status_for}
use Rattle.pcache_request.specs.Requests.{Request}
use Rattle.pcache_request.specs.declared.cache.report.LockName.{LockName}
use Rattle.pcache_request.specs.Ending as ending
use Rattle.pcache_cache.specs.Parts.{Parts, locks_of, store_of}

-- caching is turned off, and all that is held is given back
pub record Disables (result : Option LockName) (reason : NoCacheReason) (r s : Request) (p q : Parts) : Type 0 where
  pub takes : ending.Disables result (status_for (λ text. GiveUp) reason) reason r s (store_of p) (store_of q) (locks_of p) (locks_of q)
  pub rest : q ≡ record p { store = q.store; past = q.past; locks = q.locks; deeds = q.deeds }

-- the request ends, and all that it holds is given back
pub record EndsRequest (result : Option LockName) (r : Request) (p q : Parts) : Type 0 where
  pub takes : ending.EndsRequest result r (store_of p) (store_of q) (locks_of p) (locks_of q)
  pub rest : q ≡ record p { store = q.store; past = q.past; locks = q.locks; deeds = q.deeds }
