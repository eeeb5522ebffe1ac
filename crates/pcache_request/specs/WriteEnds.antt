-- The outcomes of the end of a write, and what each leaves (own).
use Rattle.std.specs.Prelude.{ℕ, ◌≡◌, Bool, Option, Some, None, Result, Ok, Err, ◌⊎◌, cond}
use Rattle.pcache_base.specs.Key.{Key}
use Rattle.pcache_base.specs.declared.error.ErrorType.{ErrorType}
use Rattle.pcache_evict.specs.Tracked.{Tracked, Limits, Evicted, evicted_with}
use Rattle.pcache_lock.specs.Locks.{Locks}
use Rattle.pcache_store.specs.Store.{Store, Guarantees}
use Rattle.pcache_store.specs.declared.storage.MissFinishType.{MissFinishType}
use Rattle.pcache_store.specs.declared.storage.MissFinishType.TheVariants.{Created}
use Rattle.pcache_lock.specs.declared.lock.status.LockStatus.{LockStatus}
use Rattle.pcache_lock.specs.declared.lock.status.LockStatus.TheVariants.{Done, TransientError}
use Rattle.pcache_request.specs.Requests.{Request, entry_of, settled}
use Rattle.pcache_request.specs.Finishing.{Stores, Drops, Withdraws, with_entry}
use Rattle.pcache_request.specs.declared.cache.finish.FinishReport.{FinishReport}
use Rattle.pcache_request.specs.declared.cache.finish.WriteEnd.{WriteEnd}
use Rattle.pcache_request.specs.declared.cache.finish.WriteEnd.TheVariants as end

-- what a storage returns at the end of the write, if there is one
abbrev pub finishes_of : (ℕ → MissFinishType) → Option ℕ → MissFinishType
finishes_of f None = Created 0
finishes_of f (Some w) = f w

-- there was no write, and nothing changed
abbrev pub EndsIdle : WriteEnd → Store → Store → Tracked → Tracked → Locks → Locks → Type 0
EndsIdle end.Nothing s s' m m' t t' = (s' ≡ s) × (m' ≡ m) × (t' ≡ t)
EndsIdle _ s s' m m' t t' = ⊥

-- the write w of the key k, whose entry has the number id, is stored, dropped or withdrawn
abbrev pub EndsBody : Guarantees → Bool → Option ℕ → (LockStatus → Type 0) → Key → ℕ → MissFinishType → Limits → WriteEnd → Store → Store → Tracked → Tracked → Type 0
EndsBody g used id Lets k w kind limits end.Nothing s s' m m' = ⊥
EndsBody g used id Lets k w kind limits (end.Stored f) s s' m m' = Stores g used id Lets k w kind limits f.size f.failed_purges f.evicted.items s s' m m'
EndsBody g used id Lets k w kind limits (end.Dropped e) s s' m m' = Drops Lets w e s s' m m'
EndsBody g used id Lets k w kind limits (end.Withdrawn e) s s' m m' = Withdraws g.purges Lets k w e s s' m m'

-- no lock is held
abbrev pub HoldsNoLock : LockStatus → Type 0
HoldsNoLock status = Unit {0}

-- the status that a permit is released with after a write ended so
abbrev pub status_after : WriteEnd → LockStatus
status_after end.Nothing = Done
status_after (end.Stored f) = Done
status_after (end.Dropped e) = TransientError
status_after (end.Withdrawn e) = Done

-- the write of a request ends so, and what it holds is released
abbrev pub EndsWrite : Guarantees → Request → Key → ℕ → MissFinishType → Limits → WriteEnd → Store → Store → Tracked → Tracked → Locks → Locks → Type 0
EndsWrite g r k w kind limits end s s' m m' t t' = EndsBody g r.uses.eviction r.entry (λ status. t' ≡ settled status r.held t) k w kind limits end s s' m m'

abbrev pub Ends : Guarantees → Request → Option Key → Option ℕ → MissFinishType → Limits → WriteEnd → Store → Store → Tracked → Tracked → Locks → Locks → Type 0
Ends g r k None kind limits end s s' m m' t t' = EndsIdle end s s' m m' t t'
Ends g r (Some k) (Some w) kind limits end s s' m m' t t' = EndsWrite g r k w kind limits end s s' m m' t t'
Ends g r None (Some w) kind limits end s s' m m' t t' = ⊥

-- the same, for the result of the call: an error does not say how far it came
abbrev pub EndsAs : Result (Option FinishReport) ErrorType → (WriteEnd → Type 0) → Type 0
EndsAs (Ok None) P = P end.Nothing
EndsAs (Ok (Some f)) P = P (end.Stored f)
EndsAs (Err e) P = P (end.Dropped e) ⊎ P (end.Withdrawn e)

-- the manager's totals after a write ended so: if a manager is in use, they grow by what was evicted for a stored
-- body
abbrev pub evicted_by : Bool → Option ℕ → Key → MissFinishType → Tracked → Evicted → WriteEnd → Evicted
evicted_by used id k kind m before end.Nothing = before
evicted_by used id k kind m before (end.Stored f) = cond used (evicted_with before (with_entry kind (entry_of k id) m) f.evicted.items) before
evicted_by used id k kind m before (end.Dropped e) = before
evicted_by used id k kind m before (end.Withdrawn e) = before

abbrev pub evicted_after : Request → Option Key → MissFinishType → Tracked → Evicted → WriteEnd → Evicted
evicted_after r None kind m before end = before
evicted_after r (Some k) kind m before end = evicted_by r.uses.eviction r.entry k kind m before end
