-- Stale bodies that are still valid: what a call makes of the request, from r to s, of a storage, from a to b, and of a lock table, from l
-- to k, with this result (own).
use Rattle.std.specs.Prelude.{◌≡◌, Bool, Option, IfErr, IfOk, IsTrue, OnErr, OnOk, Result, option_map}
use Rattle.pcache_base.specs.declared.error.ErrorType.{ErrorType}
use Rattle.pcache_base.specs.declared.error.ErrorType.TheVariants.{OutOfMemory}
use Rattle.pcache_base.specs.declared.reason.NoCacheReason.{NoCacheReason}
use Rattle.pcache_lock.specs.declared.lock.status.LockStatus.{LockStatus}
use Rattle.pcache_lock.specs.declared.lock.status.LockStatus.TheVariants.{Done}
use Rattle.pcache_meta.specs.Header.{Header}
use Rattle.pcache_meta.specs.Meta.{Meta}
use Rattle.pcache_request.specs.Locking.{Settles}
use Rattle.pcache_request.specs.Renewals.{has_body, renewed, renewed_by, with_meta_of}
use Rattle.pcache_request.specs.Reports.{name_of}
use Rattle.pcache_request.specs.Requests.{Request}
use Rattle.pcache_request.specs.Sides.{LockSide, StoreSide}
use Rattle.pcache_request.specs.Stale.{uncacheable}
use Rattle.pcache_request.specs.StorePasts.{renewed_past}
use Rattle.pcache_request.specs.declared.cache.report.LockName.{LockName}

-- the storage is told of the meta m that the request r gets
pub record Renews (result : Result Bool ErrorType) (m : Meta) (r : Request) (a b : StoreSide) : Type 0 where
  pub there : IfOk result (λ x. x ≡ has_body a.store r.key)
  pub store : OnOk result (b.store ≡ with_meta_of (renewed_by m r.meta) r.key a.store)
  pub past : OnOk result (b.past ≡ renewed_past m r a.past)
  pub same_store : OnErr result (b.store ≡ a.store)
  pub same_past : OnErr result (b.past ≡ a.past)
  pub something : OnErr result (IsTrue (has_body a.store r.key))
  pub kind : IfErr result (λ e. e ≡ OutOfMemory)

-- the request goes on as revalidated with this meta, and a permit is released as done, or a read lock let go
pub record IsRenewed (m : Meta) (r s : Request) (l k : LockSide) : Type 0 where
  pub request : s ≡ renewed m r
  pub settles : Settles Done r l k

-- the stale body is served with this head, and the response is not stored, for this reason; a permit is released with this status
pub record ServesUncacheable (result : Option LockName) (status : LockStatus) (h : Header) (reason : NoCacheReason) (r s : Request) (l k : LockSide) : Type 0 where
  pub request : s ≡ uncacheable h reason r
  pub settles : Settles status r l k
  pub released : result ≡ option_map name_of r.held
