-- The end of a request, or of its use of a cache: what a call makes of the request, from r to s, of a storage, from a to b, and of a lock
-- table, from l to k, with this result (own).
use Rattle.std.specs.Prelude.{◌≡◌, Option, option_map}
use Rattle.pcache_base.specs.declared.reason.NoCacheReason.{NoCacheReason}
use Rattle.pcache_lock.specs.declared.lock.status.LockStatus.{LockStatus}
use Rattle.pcache_request.specs.LockPasts.{let_go_deeds}
use Rattle.pcache_request.specs.Locking.{Settles}
use Rattle.pcache_request.specs.Phases.{IsDisabled}
use Rattle.pcache_request.specs.Releasing.{disabled_for}
use Rattle.pcache_request.specs.Reports.{name_of}
use Rattle.pcache_request.specs.Requests.{HoldsNothing, Request, dropped_by, left_by, let_go_by}
use Rattle.pcache_request.specs.Sides.{LockSide, StoreSide}
use Rattle.pcache_request.specs.StorePasts.{dropped_past, left_past}
use Rattle.pcache_request.specs.declared.cache.report.LockName.{LockName}

-- what the request has of a storage is given back: its reader is let go, and its write is dropped
pub record GivesBack (r : Request) (a b : StoreSide) : Type 0 where
  pub store : b.store ≡ left_by r.reader (dropped_by r.write a.store)
  pub past : b.past ≡ left_past r.reader (dropped_past r.write a.past)

-- caching is turned off, and all that is held is given back, a permit with this status
pub record Disables (result : Option LockName) (status : LockStatus) (reason : NoCacheReason) (r s : Request) (a b : StoreSide) (l k : LockSide) : Type 0 where
  pub request : s ≡ disabled_for reason r
  pub off : IsDisabled s.phase
  pub held : HoldsNothing s
  pub gives : GivesBack r a b
  pub settles : Settles status r l k
  pub released : result ≡ option_map name_of r.held

-- the request ends, and all that it holds is given back
pub record EndsRequest (result : Option LockName) (r : Request) (a b : StoreSide) (l k : LockSide) : Type 0 where
  pub let_go : result ≡ option_map name_of r.held
  pub gives : GivesBack r a b
  pub table : k.locks ≡ let_go_by r.held l.locks
  pub deeds : k.deeds ≡ let_go_deeds r.held l.deeds
