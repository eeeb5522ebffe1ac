-- What one call does to the lock table and to the lock that its request holds (own): one definition for each kind of
-- move.
use Rattle.std.specs.Prelude.{◌≡◌, ℕ, Bool, true, false, Option, None, Some, List, [], ◌∷◌}
use Rattle.std.specs.Option.{option_map}
use Rattle.std.specs.FinMap.{get}
use Rattle.pcache_base.specs.declared.fills.UnusableFill.{UnusableFill}
use Rattle.pcache_base.specs.declared.poll.Poll.TheVariants.{Pending}
use Rattle.pcache_lock.specs.Deeds.{Released, LetGo, Aged, asked}
use Rattle.pcache_lock.specs.Locks.{Locks, holder, lock_given, after_request, is_permit, number_of_lock}
use Rattle.pcache_lock.specs.Statuses.{IsReason}
use Rattle.pcache_lock.specs.Waiting.{after_poll, polled, reader_polled}
use Rattle.pcache_lock.specs.declared.lock.permit.Locked.{Locked}
use Rattle.pcache_lock.specs.declared.lock.permit.Locked.TheVariants.{Write, Read}
use Rattle.pcache_lock.specs.declared.lock.status.LockStatus.{LockStatus}
use Rattle.pcache_request.specs.LockUse.{published_by}
use Rattle.pcache_request.specs.LockWaits.{too_old_for}
use Rattle.pcache_request.specs.Requests.{Request, let_go_by, settled}
use Rattle.pcache_history.specs.declared.call.Act.{Act}
use Rattle.pcache_history.specs.declared.call.Act.TheVariants as C
use Rattle.pcache_history.specs.declared.call.RequestAct.TheVariants as Q
use Rattle.pcache_history.specs.declared.call.Reply.{Reply}
use Rattle.pcache_history.specs.declared.entry.Event.{Event}
use Rattle.pcache_history.specs.Deeds.{Deed, Did, Polled, deeds_by, deeds_in, published_on, status_left}
use Rattle.pcache_history.specs.Ongoing.{Ongoing, kind_of_reply}
use Rattle.pcache_history.specs.Rules.{number_read, permit_of}

pub data LockMove : Type 0 where
  -- nothing is done to locks
  rests : LockMove
  -- the lock of a key is asked for, and the one held before is let go
  asks : (slot : ℕ) (stale : Bool) (at : ℕ) → LockMove
  -- the held lock is released, or let go
  settles : (status : LockStatus) → LockMove
  lets_go : LockMove
  -- tokens are published if a permit is held
  publishes : (tokens : List ℕ) → LockMove
  -- a read lock is polled: the wait goes on; or the permit is found too old, and the read lock is let go
  polls : (fills : Option (List UnusableFill)) (at : ℕ) → LockMove
  ages : (fills : Option (List UnusableFill)) (at : ℕ) → LockMove

-- the deed of a number, if there is one
abbrev pub each_deed : (ℕ → Deed) → Option ℕ → List Deed
each_deed d None = []
each_deed d (Some n) = d n ∷ []

-- the deeds of the move of a request r that holds this lock, oldest first
abbrev pub deeds_moved : LockMove → ℕ → Option Locked → Locks → List Deed
deeds_moved rests r mine t = []
deeds_moved (asks k stale at) r mine t = Did r (asked k false at (number_of_lock (lock_given t stale (holder t k))) (is_permit (lock_given t stale (holder t k)))) ∷ each_deed (λ n. Did r (LetGo n)) (permit_of mine)
deeds_moved (settles s) r mine t = each_deed (λ n. Did r (Released n s)) (permit_of mine)
deeds_moved lets_go r mine t = each_deed (λ n. Did r (LetGo n)) (permit_of mine)
deeds_moved (publishes tokens) r mine t = published_on r tokens mine
deeds_moved (polls fills at) r mine t = Polled r ∷ []
deeds_moved (ages fills at) r mine t = each_deed (λ n. Did r (Aged n at)) (number_read mine)

-- the table after a poll, and after a read lock that was polled is let go
abbrev pub table_polled : ℕ → Option Locked → Locks → Locks
table_polled at None t = t
table_polled at (Some (Write p)) t = t
table_polled at (Some (Read rd)) t = after_poll t at rd.number (get t.cores rd.number)

-- the lock table after a move, given the lock that the request holds
abbrev pub table_moved : LockMove → Option Locked → Locks → Locks
table_moved rests mine t = t
table_moved (asks k stale at) mine t = let_go_by mine (after_request t k stale at (holder t k))
table_moved (settles s) mine t = settled s mine t
table_moved lets_go mine t = let_go_by mine t
table_moved (publishes tokens) mine t = published_by tokens mine t
table_moved (polls fills at) mine t = t
table_moved (ages fills at) mine t = let_go_by mine (table_polled at mine t)

-- the lock that is held after that
abbrev pub held_polled : Option (List UnusableFill) → ℕ → Locks → Locked → Locked
held_polled fills at t (Write p) = Write p
held_polled fills at t (Read rd) = Read (reader_polled at fills rd (get t.cores rd.number))

-- what the request holds after a move
abbrev pub held_moved : LockMove → Option Locked → Locks → Option Locked
held_moved rests mine t = mine
held_moved (asks k stale at) mine t = Some (lock_given t stale (holder t k))
held_moved (settles s) mine t = None
held_moved lets_go mine t = None
held_moved (publishes tokens) mine t = mine
held_moved (polls fills at) mine t = option_map (held_polled fills at t) mine
held_moved (ages fills at) mine t = None

-- when a move may be made: a permit is released with a status that is a reason; a held read lock is polled, with this
-- outcome
abbrev pub IsPolled : Option (List UnusableFill) → ℕ → Locks → Option Locked → Type 0
IsPolled fills at t None = ⊥
IsPolled fills at t (Some (Write p)) = ⊥
IsPolled fills at t (Some (Read rd)) = polled at fills rd.watch (get t.cores rd.number) ≡ Pending

-- a move may be made
abbrev pub MayMoveLock : LockMove → Option Locked → Locks → Type 0
MayMoveLock (settles s) mine t = IsReason s
MayMoveLock (polls fills at) mine t = IsPolled fills at t mine
MayMoveLock (ages fills at) mine t = too_old_for t at mine fills ≡ true
MayMoveLock _ mine t = Unit {0}

-- these deeds are those of a move of the request r, from a table and the lock that it holds to those after it
pub record MovesLocks (r : ℕ) (deeds : List Deed) (mine : Option Locked) (t : Locks) (last : Option Locked) (u : Locks) : Type 0 where
  pub move : LockMove
  pub may : MayMoveLock move mine t
  pub done : deeds ≡ deeds_moved move r mine t
  pub held : last ≡ held_moved move mine t
  pub table : u ≡ table_moved move mine t

-- the status with which the end of a write releases a permit, by its events
abbrev pub status_finished : List Event → LockStatus
status_finished events = status_left (C.Request Q.Finish) events

-- the deeds of these events, at a moment and with this status, are those of a move from what a request holds to what it holds after
abbrev pub MovesLocksBy : ℕ → LockStatus → List Event → Request → Locks → Request → Locks → Type 0
MovesLocksBy at s events x t y u = (r : ℕ) → MovesLocks r (deeds_by r at s events) x.held t y.held u

-- the same of all deeds of a call
abbrev pub MovesLocksIn : Act → Reply → List Event → Ongoing → Locks → Ongoing → Locks → Type 0
MovesLocksIn act reply events x t y u = (r : ℕ) → MovesLocks r (deeds_in r act (kind_of_reply reply) events (Some x)) x.request.held t y.request.held u
