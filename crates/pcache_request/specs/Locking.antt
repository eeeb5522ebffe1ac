-- Locks of keys: what a call makes of the request, from r to s, and of a lock table, from l to k, with this result (own).
use Rattle.std.specs.Prelude.{[], ◌≡◌, ℕ, List, Option, None, IfErr, IfOk, IfSome, IsOk, IsSome, OnErr, OnOk, Result, option_map}
use Rattle.pcache_base.specs.declared.error.ErrorType.{ErrorType}
use Rattle.pcache_base.specs.declared.error.ErrorType.TheVariants.{OutOfMemory}
use Rattle.pcache_lock.specs.declared.lock.permit.Locked.TheVariants.{Write}
use Rattle.pcache_lock.specs.declared.lock.permit.WritePermit.{WritePermit}
use Rattle.pcache_lock.specs.declared.lock.status.LockStatus.{LockStatus}
use Rattle.pcache_request.specs.LockPasts.{handed_deeds, published_deeds, settled_deeds, varied_deeds, waited_deeds}
use Rattle.pcache_request.specs.LockUse.{gone_for, handed, permit_in, published_by, read_in, table_handed, unheld}
use Rattle.pcache_request.specs.LockWaits.{table_waited, unusable_in, waited}
use Rattle.pcache_request.specs.Reports.{name_of, released_as}
use Rattle.pcache_request.specs.Requests.{Request, settled}
use Rattle.pcache_request.specs.Sides.{LockSide}
use Rattle.pcache_request.specs.Variants.{released_by_variance, table_varied, varied}
use Rattle.pcache_request.specs.declared.cache.report.LockName.{LockName}
use Rattle.pcache_request.specs.declared.cache.report.ReleasedLock.{ReleasedLock}

-- the wait for the lock of another request is asked for
pub record Waits {A : Type 0} (result : Result A ErrorType) (now : ℕ) (r s : Request) (l k : LockSide) : Type 0 where
  pub request : OnOk result (s ≡ waited l.locks now r.held r)
  pub table : OnOk result (k.locks ≡ table_waited l.locks now r.held r)
  pub deeds : OnOk result (k.deeds ≡ waited_deeds l.locks now r.held r l.deeds)
  pub same_request : OnErr result (s ≡ r)
  pub same_table : OnErr result (k.locks ≡ l.locks)
  pub same_deeds : OnErr result (k.deeds ≡ l.deeds)
  pub kind : IfErr result (λ e. e ≡ OutOfMemory)
  pub later : IfSome (read_in r.held) (λ x. IsSome x.watch → IsOk result)
  pub unnamed : unusable_in r.key ≡ None → IsOk result

-- what the request holds of a lock is released with this status, or let go
pub record Settles (status : LockStatus) (r : Request) (l k : LockSide) : Type 0 where
  pub table : k.locks ≡ settled status r.held l.locks
  pub deeds : k.deeds ≡ settled_deeds status r.held l.deeds

-- the same, and nothing else is done; the lock is named
pub record Releases (result : Option ReleasedLock) (status : LockStatus) (r s : Request) (l k : LockSide) : Type 0 where
  pub request : s ≡ unheld r
  pub settles : Settles status r l k
  pub released : result ≡ option_map (released_as status) r.held

-- a permit of another request is held
pub record TakesPermit (result : Option LockName) (permit : WritePermit) (r s : Request) (l k : LockSide) : Type 0 where
  pub request : s ≡ handed permit r
  pub table : k.locks ≡ table_handed permit r l.locks
  pub deeds : k.deeds ≡ handed_deeds permit r l.deeds
  pub let_go : result ≡ option_map name_of (gone_for permit r)

-- tokens are published
pub record Publishes (result : Result (Option LockName) ErrorType) (tokens : List ℕ) (r : Request) (l k : LockSide) : Type 0 where
  pub published : IfOk result (λ x. x ≡ option_map (λ w. name_of (Write w)) (permit_in r.held))
  pub table : OnOk result (k.locks ≡ published_by tokens r.held l.locks)
  pub deeds : OnOk result (k.deeds ≡ published_deeds tokens r.held l.deeds)
  pub same_table : OnErr result (k.locks ≡ l.locks)
  pub same_deeds : OnErr result (k.deeds ≡ l.deeds)
  pub kind : IfErr result (λ e. e ≡ OutOfMemory)
  pub clears : tokens ≡ [] → IsOk result
  pub none : permit_in r.held ≡ None → IsOk result

-- what the response varies on is set
pub record Varies (result : Option LockName) (variance : Option (List ℕ)) (r s : Request) (l k : LockSide) : Type 0 where
  pub request : s ≡ varied variance r
  pub table : k.locks ≡ table_varied variance r l.locks
  pub deeds : k.deeds ≡ varied_deeds variance r l.deeds
  pub released : result ≡ released_by_variance variance r
