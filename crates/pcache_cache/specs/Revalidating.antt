-- Stale bodies that are still valid, and what responses vary on: what a call does to a cache, from p to q, with this result. The request
-- is r before it and s after it (own).
use Rattle.std.specs.Prelude.{◌≡◌, ℕ, Bool, List, Option, IfErr, OnOk, Result}
use Rattle.pcache_base.specs.declared.error.ErrorType.{ErrorType}
use Rattle.pcache_base.specs.declared.error.ErrorType.TheVariants.{OutOfMemory}
use Rattle.pcache_base.specs.declared.reason.NoCacheReason.{NoCacheReason}
use Rattle.pcache_lock.specs.declared.lock.status.LockStatus.TheVariants.{GiveUp}
use Rattle.pcache_meta.specs.Header.{Header}
use Rattle.pcache_meta.specs.Meta.{Meta}
use Rattle.pcache_request.specs.Releasing.{status_for}
use Rattle.pcache_request.specs.Renewals.{renewed_by}
use Rattle.pcache_request.specs.Renewing as renewing
use Rattle.pcache_request.specs.Requests.{Request}
use Rattle.pcache_request.specs.declared.cache.report.LockName.{LockName}
use Rattle.pcache_request.specs.Locking as locking
use Rattle.pcache_cache.specs.Parts.{Parts, locks_of}
use Rattle.pcache_cache.specs.Renewing.{RenewsOwn, named_as, stock}
use Rattle.pcache_cache.specs.Room.{IfRoom, KeepsBodies, weight_with}
use Rattle.pcache_cache.specs.Strays.{LeavesNoStray}

-- The stale body that the request found gets the meta of a response that says that it is still valid, if that body is still the complete
-- one of its key: the meta names the body's write. Of another body nothing changes.
pub record Revalidates (result : Result Bool ErrorType) (m : Meta) (r s : Request) (p q : Parts) : Type 0 where
  pub goes_on : renewing.IsRenewed (named_as r.meta m) r s (locks_of p) (locks_of q)
  pub renews : RenewsOwn p.weighing p.limits (renewed_by (named_as r.meta m) r.meta) r.key result (stock p) (stock q)
  pub kind : IfErr result (λ e. e ≡ OutOfMemory)
  pub only : LeavesNoStray r.key p q
  pub room : OnOk result (IfRoom r.key (weight_with p.weighing (renewed_by (named_as r.meta m) r.meta) r.key p.store) p (KeepsBodies p.store q.store))
  pub rest : q ≡ record p { store = q.store; past = q.past; tracked = q.tracked; evicted = q.evicted; locks = q.locks; deeds = q.deeds }

-- the stale body is served with this head, and the response is not stored
pub record ServesUncacheable (result : Option LockName) (h : Header) (reason : NoCacheReason) (r s : Request) (p q : Parts) : Type 0 where
  pub takes : renewing.ServesUncacheable result (status_for (λ text. GiveUp) reason) h reason r s (locks_of p) (locks_of q)
  pub rest : q ≡ record p { locks = q.locks; deeds = q.deeds }

-- what the response varies on is set
pub record Varies (result : Option LockName) (variance : Option (List ℕ)) (r s : Request) (p q : Parts) : Type 0 where
  pub takes : locking.Varies result variance r s (locks_of p) (locks_of q)
  pub rest : q ≡ record p { locks = q.locks; deeds = q.deeds }
