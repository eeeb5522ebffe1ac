-- How a wait ends, by the past of the table (own).
use Rattle.std.specs.Prelude.{ℕ, Bool, true, false, ◌≡◌, ◌==◌, ◌-◌, nat_le, ◌&&◌, ◌||◌, ◌⊎◌, Option, Some, List, [], ◌∷◌, cond}
use Rattle.std.specs.FinMap.{get}
use Rattle.pcache_base.specs.declared.fills.UnusableFill.{UnusableFill}
use Rattle.pcache_base.specs.declared.poll.Poll.{Poll}
use Rattle.pcache_base.specs.declared.poll.Poll.TheVariants.{Ready, Pending}
use Rattle.pcache_lock.specs.declared.lock.outcome.PermitState.{PermitState}
use Rattle.pcache_lock.specs.declared.lock.outcome.PermitState.TheVariants.{Over, Old, Held}
use Rattle.pcache_lock.specs.declared.lock.outcome.WaitOutcome.{WaitOutcome}
use Rattle.pcache_lock.specs.declared.lock.outcome.WaitOutcome.TheVariants as outcome
use Rattle.pcache_lock.specs.declared.lock.status.LockStatus.{LockStatus}
use Rattle.pcache_lock.specs.declared.lock.status.LockStatus.TheVariants as status
use Rattle.pcache_lock.specs.Statuses.{is_aged, is_pending}
use Rattle.pcache_lock.specs.Permits.{Core, Watch, released_status, dropped_status}
use Rattle.pcache_lock.specs.Locks.{Locks}
use Rattle.pcache_lock.specs.Waiting.{polled}
use Rattle.pcache_lock.specs.Deeds.{Deed, Granted, Joined, Released, LetGo, Aged, Left, Polled, Published, Made, ReadLocked, Unlocked}
use Rattle.pcache_lock.specs.Past.{IsPastOf}

-- the lock that a deed was done to
abbrev pub number_of : Deed → ℕ
number_of (Granted slot m stale now) = m
number_of (Joined slot m now) = m
number_of (Released m reason) = m
number_of (LetGo m) = m
number_of (Aged m now) = m
number_of (Left m) = m
number_of (Polled m now) = m
number_of (Published m tokens) = m
number_of (Made m age_timeout stale now) = m
number_of (ReadLocked m) = m
number_of (Unlocked m reason) = m

-- whether a permit is held, after one more deed that was done to its lock
abbrev pub held_since : Deed → Bool → Bool
held_since (Granted slot m stale now) before = true
held_since (Released m reason) before = false
held_since (LetGo m) before = false
held_since (Made m age_timeout stale now) before = true
held_since _ before = before

-- a permit is held: it was given, and since then neither released nor let go
abbrev pub is_held : ℕ → List Deed → Bool
is_held n [] = false
is_held n (deed ∷ past) = cond (n == number_of deed) (held_since deed (is_held n past)) (is_held n past)

-- the status of a lock, after one more deed that was done to it
abbrev pub status_by : Deed → LockStatus → LockStatus
status_by (Granted slot m stale now) before = status.Waiting
status_by (Released m reason) before = released_status reason before
status_by (LetGo m) before = dropped_status before
status_by (Aged m now) before = status.AgeTimeout
status_by (Made m age_timeout stale now) before = status.Waiting
status_by (Unlocked m reason) before = reason
status_by _ before = before

-- how a permit ended: with the reason of its release, unless it was found too old before; dangling if it was let go
abbrev pub status_said : ℕ → List Deed → LockStatus
status_said n [] = status.Waiting
status_said n (deed ∷ past) = cond (n == number_of deed) (status_by deed (status_said n past)) (status_said n past)

-- the moment when a permit was given, and the age at which it is too old: of a permit for a key the table's, else its own
abbrev pub given_by : (age_timeout : ℕ) → Deed → ℕ × ℕ → ℕ × ℕ
given_by age (Granted slot m stale now) before = (now, age)
given_by age (Made m age_timeout stale now) before = (now, age_timeout)
given_by age _ before = before

abbrev pub given_at : (age_timeout : ℕ) → ℕ → List Deed → ℕ × ℕ
given_at age n [] = (0, 0)
given_at age n (deed ∷ past) = cond (n == number_of deed) (given_by age deed (given_at age n past)) (given_at age n past)

-- by its past a permit is over; or else too old at this moment, or was found so; or else held
abbrev pub is_late : ℕ → ℕ × ℕ → Bool
is_late now given = nat_le given.1 (now - given.0)

abbrev pub stage_by : Bool → LockStatus → Bool → PermitState
stage_by held s late = cond (held && is_pending s) (cond (is_aged s || late) Old Held) Over

abbrev pub stage_said : (age_timeout now : ℕ) → ℕ → List Deed → PermitState
stage_said age now n past = stage_by (is_held n past) (status_said n past) (is_late now (given_at age n past))

-- what a poll returns: that the wait is over; or else that the permit is too old; or else that the reader has to wait, or was
-- told of a fill that it cannot use
abbrev pub ReturnsBy : PermitState → Poll WaitOutcome → Type 0
ReturnsBy Over answer = answer ≡ Ready outcome.Released
ReturnsBy Old answer = answer ≡ Ready outcome.AgeTimeout
ReturnsBy Held answer = (answer ≡ Pending) ⊎ ((fill : UnusableFill) × (answer ≡ Ready (outcome.Abandoned fill)))

-- every poll of every read lock ends its wait, or not, as the past of the permit says
abbrev pub EndsByPast : Locks → List Deed → Type 0
EndsByPast t past = (now n : ℕ) (fills : Option (List UnusableFill)) (w : Option Watch)
    → ReturnsBy (stage_said t.age_timeout now n past) (polled now fills w (get t.cores n))

-- and the status of a lock that the table still knows says how its permit ended
abbrev pub StatusByPast : Locks → List Deed → Type 0
StatusByPast t past = (n : ℕ) (c : Core) → get t.cores n ≡ Some c → c.status ≡ status_said n past

abbrev pub EndsByPastAlways : Type 0
EndsByPastAlways = (t : Locks) (past : List Deed) → IsPastOf t past → EndsByPast t past

abbrev pub StatusByPastAlways : Type 0
StatusByPastAlways = (t : Locks) (past : List Deed) → IsPastOf t past → StatusByPast t past
