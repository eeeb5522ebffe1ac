-- A table of locks that knows all that was done to it (own).
use Rattle.std.specs.Prelude.{ℕ, true, false, ◌≡◌, None, Some, List, [], ◌∷◌}
use Rattle.std.specs.FinMap.{get}
use Rattle.pcache_lock.specs.Statuses.{IsReason}
use Rattle.pcache_lock.specs.Locks.{Locks, after_request, holder, no_locks_from, permit_dropped, reader_dropped, released, unlocked, with_free_permit, with_read_lock}
use Rattle.pcache_lock.specs.Waiting.{after_poll, published}
use Rattle.pcache_lock.specs.Waits.{is_old_at}
use Rattle.pcache_lock.specs.Deeds.{Deed, Granted, Joined, Released, LetGo, Aged, Left, Polled, Published, Made, ReadLocked, Unlocked}

-- the locks, and all that was done to them, the newest first
pub record Known : Type 0 where
  pub table : Locks
  pub past : List Deed

-- a deed leads from one table to another
abbrev pub Does : Deed → Locks → Locks → Type 0
Does (Granted slot number stale now) s t = (holder s slot ≡ None) × (number ≡ s.next) × (t ≡ after_request s slot stale now None)
Does (Joined slot number now) s t = (holder s slot ≡ Some number) × (t ≡ with_read_lock s number (get s.cores number))
Does (Released number reason) s t = IsReason reason × (t ≡ released s number reason)
Does (LetGo number) s t = t ≡ permit_dropped s number (get s.cores number)
Does (Aged number now) s t = (is_old_at now (get s.cores number) ≡ true) × (t ≡ after_poll s now number (get s.cores number))
Does (Left number) s t = t ≡ reader_dropped s number (get s.cores number)
Does (Polled number now) s t = (is_old_at now (get s.cores number) ≡ false) × (t ≡ s)
Does (Published number tokens) s t = t ≡ published s number tokens
Does (Made number age_timeout stale now) s t = (number ≡ s.next) × (t ≡ with_free_permit s age_timeout stale now)
Does (ReadLocked number) s t = t ≡ with_read_lock s number (get s.cores number)
Does (Unlocked number reason) s t = IsReason reason × (t ≡ unlocked s number reason)

-- a past, the newest deed first, leads from one table to another
abbrev pub PastLeads : List Deed → Locks → Locks → Type 0
PastLeads [] s t = t ≡ s
PastLeads (deed ∷ before) s t = (m : Locks) × (PastLeads before s m × Does deed m t)

-- a table is what its past made of an empty one
abbrev pub IsPastOf : Locks → List Deed → Type 0
IsPastOf t past = (start : ℕ) × ((age_timeout : ℕ) × PastLeads past (no_locks_from start age_timeout) t)
