-- What each call of a request adds to the past of its lock table (own): a deed for each thing that it does there, in order. A
-- table that keeps no past has none afterwards either.
use Rattle.std.specs.Prelude.{ℕ, List, Bool, false, Option, Some, None, cond}
use Rattle.std.specs.FinMap.{get}
use Rattle.pcache_base.specs.Key.{Key, slot}
use Rattle.pcache_base.specs.declared.fills.UnusableFill.{UnusableFill}
use Rattle.pcache_base.specs.declared.poll.Poll.{Poll}
use Rattle.pcache_base.specs.declared.poll.Poll.TheVariants.{Ready, Pending}
use Rattle.pcache_lock.specs.Deeds.{Deed, Left, Published, Released, asked, asked_again, given_up, noted, tells_old}
use Rattle.pcache_lock.specs.Locks.{Locks, holder, is_permit, lock_given, number_of_lock}
use Rattle.pcache_lock.specs.Permits.{Permit, Reader}
use Rattle.pcache_lock.specs.Waiting.{polled}
use Rattle.pcache_lock.specs.declared.lock.outcome.LockWaitOutcome.{LockWaitOutcome}
use Rattle.pcache_lock.specs.declared.lock.permit.Locked.{Locked}
use Rattle.pcache_lock.specs.declared.lock.permit.Locked.TheVariants.{Write, Read}
use Rattle.pcache_lock.specs.declared.lock.status.LockStatus.{LockStatus}
use Rattle.pcache_lock.specs.declared.lock.status.LockStatus.TheVariants.{Done, TransientError}
use Rattle.pcache_predict.specs.declared.admission.Decision.{Decision}
use Rattle.pcache_request.specs.Admissions.{is_deferral}
use Rattle.pcache_request.specs.LockWaits.{unusable_in, wait_result}
use Rattle.pcache_request.specs.Requests.{Request, asks_as_stale, asks_for_hit}
use Rattle.pcache_request.specs.Variants.{is_unseen_for, leaves_variant}
use Rattle.pcache_request.specs.WriteEnds.{status_after}
use Rattle.pcache_request.specs.declared.cache.finish.WriteEnd.{WriteEnd}
use Rattle.pcache_request.specs.declared.phase.HitStatus.{HitStatus}
use Rattle.pcache_store.specs.Store.{Store}

-- what was done to a lock table, the newest first, or none if it keeps no past
abbrev pub Deeds : Type 0
Deeds = Option (List Deed)

-- a lock is let go, if there is one
abbrev pub let_go_deed : Locked → Deeds → Deeds
let_go_deed l p = noted (given_up (number_of_lock l) (is_permit l)) p

abbrev pub let_go_deeds : Option Locked → Deeds → Deeds
let_go_deeds None p = p
let_go_deeds (Some l) p = let_go_deed l p

-- a held lock is released: a permit with a status; a read lock is let go
abbrev pub settled_deeds : LockStatus → Option Locked → Deeds → Deeds
settled_deeds s None p = p
settled_deeds s (Some (Write w)) p = noted (Released w.number s) p
settled_deeds s (Some (Read r)) p = let_go_deed (Read r) p

-- the lock of a key is asked for in this table; a lock held before is let go
abbrev pub given_deed : Bool → ℕ → Locks → ℕ → Deeds → Deeds
given_deed stale now t k p =
    let l : Locked = lock_given t stale (holder t k) in
    noted (asked k stale now (number_of_lock l) (is_permit l)) p

abbrev pub asked_deeds : Bool → ℕ → Locks → Option Key → Option Locked → Deeds → Deeds
asked_deeds stale now t None h p = p
asked_deeds stale now t (Some k) h p = let_go_deeds h (given_deed stale now t (slot k) p)

-- a look-up asks for the key's lock, if one is in use
abbrev pub key_locked_deeds : ℕ → Locks → Request → Deeds → Deeds
key_locked_deeds now t r p = cond r.uses.lock (asked_deeds false now t r.key r.held p) p

-- a look-up without a policy asks if it hands nothing on; one whose decision defers gives the held lock up
abbrev pub looked_deeds : Store → ℕ → Locks → Request → Deeds → Deeds
looked_deeds s now t r p = cond (is_unseen_for s r) (key_locked_deeds now t r p) p

abbrev pub looked_with_deeds : Option Decision → Store → ℕ → Locks → Request → Deeds → Deeds
looked_with_deeds d s now t r p = cond (is_deferral d) (settled_deeds TransientError r.held p) (looked_deeds s now t r p)

-- a found pair asks if it is not served as it is
abbrev pub found_deeds : HitStatus → ℕ → Locks → Request → Deeds → Deeds
found_deeds s now t r p = cond (asks_for_hit s r) (asked_deeds (asks_as_stale s r.phase) now t r.key r.held p) p

-- a permit is handed over, and a lock held before let go; if no lock is in use, the permit itself
abbrev pub handed_deeds : Permit → Request → Deeds → Deeds
handed_deeds w r p = cond r.uses.lock (let_go_deeds r.held p) (let_go_deed (Write w) p)

-- a request's write ended so, if it had one: a held lock is released
abbrev pub end_deeds : Option ℕ → Option Locked → WriteEnd → Deeds → Deeds
end_deeds None h how p = p
end_deeds (Some w) h how p = settled_deeds (status_after how) h p

-- tokens are published, if a permit is held
abbrev pub published_deeds : List ℕ → Option Locked → Deeds → Deeds
published_deeds tokens None p = p
published_deeds tokens (Some (Write w)) p = noted (Published w.number tokens) p
published_deeds tokens (Some (Read r)) p = p

-- a permit for a variant that the response leaves is released as done
abbrev pub varied_deeds : Option (List ℕ) → Request → Deeds → Deeds
varied_deeds v r p = cond (leaves_variant v r.key) (settled_deeds Done r.held p) p

-- a read lock is polled, and let go if the wait is over
abbrev pub polled_deeds : ℕ → Locks → Reader → Option (List UnusableFill) → Deeds → Deeds
polled_deeds now t rd fills p = noted (asked_again rd.number now (tells_old (polled now fills rd.watch (get t.cores rd.number)))) p

abbrev pub ended_deeds : Poll LockWaitOutcome → ℕ → Deeds → Deeds
ended_deeds (Ready o) n p = noted (Left n) p
ended_deeds Pending n p = p

abbrev pub waited_deeds : Locks → ℕ → Option Locked → Request → Deeds → Deeds
waited_deeds t now None r p = p
waited_deeds t now (Some (Write w)) r p = p
waited_deeds t now (Some (Read rd)) r p = ended_deeds (wait_result t now (Some (Read rd)) r) rd.number (polled_deeds now t rd (unusable_in r.key) p)
