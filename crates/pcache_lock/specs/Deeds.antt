-- What was done to a table of locks: its calls, each with what it gave (own).
use Rattle.std.specs.Prelude.{ℕ, Bool, true, false, Option, None, Some, List, ◌∷◌}
use Rattle.pcache_base.specs.declared.poll.Poll.{Poll}
use Rattle.pcache_base.specs.declared.poll.Poll.TheVariants.{Ready, Pending}
use Rattle.pcache_lock.specs.declared.lock.outcome.WaitOutcome.{WaitOutcome}
use Rattle.pcache_lock.specs.declared.lock.outcome.WaitOutcome.TheVariants as outcome
use Rattle.pcache_lock.specs.declared.lock.status.LockStatus.{LockStatus}

-- what one call did to a table of locks
pub data Deed : Type 0 where
  -- a request for a key's lock was given the permit, of a lock with a new number, or a read lock on the permit that waits
  Granted : (slot number : ℕ) (stale : Bool) (now : ℕ) → Deed
  Joined : (slot number : ℕ) (now : ℕ) → Deed
  -- a permit was released with a status, let go, or found too old by a poll
  Released : (number : ℕ) (reason : LockStatus) → Deed
  LetGo : (number : ℕ) → Deed
  Aged : (number now : ℕ) → Deed
  -- a read lock was let go; a poll of it found its permit not too old
  Left : (number : ℕ) → Deed
  Polled : (number now : ℕ) → Deed
  -- tokens were published for a permit
  Published : (number : ℕ) (tokens : List ℕ) → Deed
  -- a permit was given for no key, with an age of its own; and a read lock on a lock with this number
  Made : (number age_timeout : ℕ) (stale : Bool) (now : ℕ) → Deed
  ReadLocked : (number : ℕ) → Deed
  -- the final status of a lock was set while its permit was held
  Unlocked : (number : ℕ) (reason : LockStatus) → Deed

-- what a request for a key's lock did, by the number of the lock that it was given, and whether that is the permit
abbrev pub asked : (slot : ℕ) (stale : Bool) (now number : ℕ) (is_permit : Bool) → Deed
asked slot stale now number true = Granted slot number stale now
asked slot stale now number false = Joined slot number now

-- what it did that a lock was let go
abbrev pub given_up : (number : ℕ) (is_permit : Bool) → Deed
given_up number true = LetGo number
given_up number false = Left number

-- a poll returned that the permit is too old
abbrev pub tells_old : Poll WaitOutcome → Bool
tells_old (Ready outcome.AgeTimeout) = true
tells_old (Ready outcome.Released) = false
tells_old (Ready (outcome.Abandoned fill)) = false
tells_old Pending = false

-- what a poll did, by whether it returned that
abbrev pub asked_again : (number now : ℕ) (is_old : Bool) → Deed
asked_again number now true = Aged number now
asked_again number now false = Polled number now

-- a past with one more deed, the newest first; a table that keeps no past has none then either
abbrev pub noted : Deed → Option (List Deed) → Option (List Deed)
noted deed None = None
noted deed (Some past) = Some (deed ∷ past)
