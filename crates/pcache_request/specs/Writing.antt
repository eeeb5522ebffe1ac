-- The begin and the end of a write: what a call makes of the request, from r to s, of a storage, from a to b, of a manager, from x to y,
-- and of a lock table, from l to k, with this result (own). The storage hands its writes in flight to readers or not (streams), and its entries have numbers or not.
use Rattle.std.specs.Prelude.{◌≡◌, ◌⊎◌, Bool, None, true, IfErr, IfOk, IsSome, OnErr, OnOk, Result, cond, option_map}
use Rattle.pcache_base.specs.declared.error.ErrorType.{ErrorType}
use Rattle.pcache_base.specs.declared.error.ErrorType.TheVariants.{OutOfMemory}
use Rattle.pcache_lock.specs.declared.lock.status.LockStatus.TheVariants.{Done}
use Rattle.pcache_request.specs.Failures.{FailsToBegin}
use Rattle.pcache_request.specs.LockPasts.{end_deeds, settled_deeds}
use Rattle.pcache_request.specs.Reports.{name_of}
use Rattle.pcache_request.specs.Requests.{Request, begin_followed, begun_for, begun_unfollowed, settled, store_begun, write_begun}
use Rattle.pcache_request.specs.Sides.{LockSide, ManagerSide, StoreSide}
use Rattle.pcache_request.specs.StorePasts.{EndsRequestPast, begun_past, writing_past}
use Rattle.pcache_request.specs.WriteEnds.{Ends, evicted_after}
use Rattle.pcache_request.specs.declared.cache.finish.WriteEnd.{WriteEnd}
use Rattle.pcache_request.specs.declared.cache.report.WriteBegin.{WriteBegin}
use Rattle.pcache_evict.specs.Tracked.{Tracked}
use Rattle.pcache_store.specs.Refusals.{MayFailWrite}
use Rattle.pcache_store.specs.Store.{Guarantees}
use Rattle.pcache_store.specs.declared.storage.MissFinishType.{MissFinishType}

-- the write begins, and the request reads it along if the storage streams; a permit is released then
pub record BeginsWrite (result : Result (Unit {0}) ErrorType) (streams numbers : Bool) (r s : Request) (a b : StoreSide) (l k : LockSide) : Type 0 where
  pub request : OnOk result (s ≡ write_begun streams numbers a.store r)
  pub store : OnOk result (b.store ≡ store_begun streams a.store r)
  pub past : OnOk result (b.past ≡ writing_past streams a.store r a.past)
  pub table : OnOk result (k.locks ≡ cond streams (settled Done r.held l.locks) l.locks)
  pub deeds : OnOk result (k.deeds ≡ cond streams (settled_deeds Done r.held l.deeds) l.deeds)
  pub err : IfErr result (λ e. FailsToBegin numbers a.store a.past l.locks l.deeds r e b.store b.past k.locks k.deeds s)
  pub kind : IfErr result (λ e. (e ≡ OutOfMemory) ⊎ MayFailWrite a.store e)
  pub something : OnErr result ((b.store ≡ a.store) ⊎ IsSome (begin_followed a.store r))
  pub unfollowed : OnErr result ((s ≡ r) ⊎ (streams ≡ true))

-- the same, and the result says how far the call came: it fails only before it did anything
pub record TellsWriteBegin (result : Result WriteBegin ErrorType) (streams numbers : Bool) (r s : Request) (a b : StoreSide) (l k : LockSide) : Type 0 where
  pub released : IfOk result (λ x. x.released ≡ cond streams (option_map name_of r.held) None)
  pub request : IfOk result (λ x. OnOk x.following (s ≡ write_begun streams numbers a.store r))
  pub store : IfOk result (λ x. OnOk x.following (b.store ≡ store_begun streams a.store r))
  pub past : IfOk result (λ x. OnOk x.following (b.past ≡ writing_past streams a.store r a.past))
  pub table : OnOk result (k.locks ≡ cond streams (settled Done r.held l.locks) l.locks)
  pub deeds : OnOk result (k.deeds ≡ cond streams (settled_deeds Done r.held l.deeds) l.deeds)
  -- no reader could follow the write
  pub unfollowed_streams : IfOk result (λ x. OnErr x.following (streams ≡ true))
  pub unfollowed_request : IfOk result (λ x. OnErr x.following (s ≡ begun_unfollowed numbers a.store r))
  pub unfollowed_store : IfOk result (λ x. OnErr x.following (b.store ≡ begun_for r.key r.meta a.store))
  pub unfollowed_past : IfOk result (λ x. OnErr x.following (b.past ≡ begun_past a.store r a.past))
  pub unfollowed_kind : IfOk result (λ x. IfErr x.following (λ e. e ≡ OutOfMemory))
  pub unfollowed_something : IfOk result (λ x. OnErr x.following (IsSome (begin_followed a.store r)))
  -- the call failed
  pub same_request : OnErr result (s ≡ r)
  pub same_store : OnErr result (b.store ≡ a.store)
  pub same_past : OnErr result (b.past ≡ a.past)
  pub same_table : OnErr result (k.locks ≡ l.locks)
  pub same_deeds : OnErr result (k.deeds ≡ l.deeds)
  pub kind : IfErr result (λ e. MayFailWrite a.store e)

-- the write of the request ends so, if it has one, and its entry is admitted with what the storage returns, to what is tracked then
pub record Finishes (g : Guarantees) (r : Request) (kind : MissFinishType) (then : Tracked) (how : WriteEnd) (a b : StoreSide) (x y : ManagerSide) (l k : LockSide) : Type 0 where
  pub ends : Ends g r r.key r.write kind x.limits how a.store b.store then y.tracked l.locks k.locks
  pub past : EndsRequestPast g r.key r.write how a.past b.past
  pub deeds : k.deeds ≡ end_deeds r.write r.held how l.deeds
  pub evicted : y.evicted ≡ evicted_after r r.key kind then x.evicted how
