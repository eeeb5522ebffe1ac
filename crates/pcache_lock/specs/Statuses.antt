-- The statuses of locks (own).
use Rattle.std.specs.Prelude.{Bool, true, false, ℕ, ◌==◌, List, Option, Some, None, cond, codes}
use Rattle.pcache_lock.specs.declared.lock.status.LockStatus.{LockStatus}
use Rattle.pcache_lock.specs.declared.lock.status.LockStatus.TheVariants.{Waiting, Done, TransientError, GiveUp, Dangling, WaitTimeout, AgeTimeout}

-- the next request may get a permit of its own
abbrev pub is_free : LockStatus → Bool
is_free Waiting = false
is_free Done = false
is_free TransientError = false
is_free GiveUp = false
is_free Dangling = true
is_free WaitTimeout = false
is_free AgeTimeout = true

-- a permit may be released with it
abbrev pub IsReason : LockStatus → Type 0
IsReason Waiting = ⊥
IsReason Done = Unit {0}
IsReason TransientError = Unit {0}
IsReason GiveUp = Unit {0}
IsReason Dangling = Unit {0}
IsReason WaitTimeout = ⊥
IsReason AgeTimeout = Unit {0}

-- the permit was held for too long
abbrev pub is_aged : LockStatus → Bool
is_aged Waiting = false
is_aged Done = false
is_aged TransientError = false
is_aged GiveUp = false
is_aged Dangling = false
is_aged WaitTimeout = false
is_aged AgeTimeout = true

-- the final status was not set yet
abbrev pub is_pending : LockStatus → Bool
is_pending Waiting = true
is_pending Done = false
is_pending TransientError = false
is_pending GiveUp = false
is_pending Dangling = false
is_pending WaitTimeout = false
is_pending AgeTimeout = true

-- its permit is held, and was not found too old
abbrev pub is_waiting : LockStatus → Bool
is_waiting Waiting = true
is_waiting Done = false
is_waiting TransientError = false
is_waiting GiveUp = false
is_waiting Dangling = false
is_waiting WaitTimeout = false
is_waiting AgeTimeout = false

-- the statuses' numbers, and their names
abbrev pub number_of_status : LockStatus → ℕ
number_of_status Waiting = 0
number_of_status Done = 1
number_of_status TransientError = 2
number_of_status GiveUp = 3
number_of_status Dangling = 4
number_of_status WaitTimeout = 5
number_of_status AgeTimeout = 6

abbrev pub status_of_number : ℕ → Option LockStatus
status_of_number n =
    cond (n == 0) (Some Waiting)
    (cond (n == 1) (Some Done)
    (cond (n == 2) (Some TransientError)
    (cond (n == 3) (Some GiveUp)
    (cond (n == 4) (Some Dangling)
    (cond (n == 5) (Some WaitTimeout)
    (cond (n == 6) (Some AgeTimeout) None))))))

abbrev pub name_of_status : LockStatus → List ℕ
name_of_status Waiting = codes "Waiting"
name_of_status Done = codes "Done"
name_of_status TransientError = codes "TransientError"
name_of_status GiveUp = codes "GiveUp"
name_of_status Dangling = codes "Dangling"
name_of_status WaitTimeout = codes "WaitTimeout"
name_of_status AgeTimeout = codes "AgeTimeout"
