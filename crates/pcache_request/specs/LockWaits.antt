-- How a request waits with the read lock that it holds (the phase table).
use Rattle.std.specs.Prelude.{ℕ, ◌-◌, nat_le, List, Bool, true, false, Option, Some, None, cond, unwrap_or}
use Rattle.std.specs.FinMap.{get}
use Rattle.pcache_base.specs.Key.{Key}
use Rattle.pcache_base.specs.declared.fills.UnusableFill.{UnusableFill}
use Rattle.pcache_base.specs.declared.poll.Poll.{Poll}
use Rattle.pcache_base.specs.declared.poll.Poll.TheVariants.{Ready, Pending}
use Rattle.pcache_base.specs.declared.reason.NoCacheReason.TheVariants.{Custom}
use Rattle.pcache_lock.specs.Locks.{Locks, reader_dropped}
use Rattle.pcache_lock.specs.Permits.{Reader, Watch}
use Rattle.pcache_lock.specs.Waiting.{after_poll, polled, reader_polled, status_seen}
use Rattle.pcache_lock.specs.declared.lock.outcome.LockWaitOutcome.{LockWaitOutcome}
use Rattle.pcache_lock.specs.declared.lock.outcome.LockWaitOutcome.TheVariants as outcome
use Rattle.pcache_lock.specs.declared.lock.outcome.WaitOutcome.{WaitOutcome}
use Rattle.pcache_lock.specs.declared.lock.outcome.WaitOutcome.TheVariants as poll
use Rattle.pcache_lock.specs.declared.lock.permit.Locked.{Locked}
use Rattle.pcache_lock.specs.declared.lock.permit.Locked.TheVariants.{Write, Read}
use Rattle.pcache_lock.specs.declared.lock.status.LockStatus.{LockStatus}
use Rattle.pcache_lock.specs.declared.lock.status.LockStatus.TheVariants as status
use Rattle.pcache_request.specs.declared.digest.LockAbandon.{LockAbandon}
use Rattle.pcache_request.specs.Digest.{Digest, time_added}
use Rattle.pcache_request.specs.Requests.{Request}

-- the outcome with the name of a status; a permit that is over is never Waiting
abbrev pub outcome_of_status : LockStatus → LockWaitOutcome
outcome_of_status status.Waiting = outcome.Dangling
outcome_of_status status.Done = outcome.Done
outcome_of_status status.TransientError = outcome.TransientError
outcome_of_status status.GiveUp = outcome.GiveUp
outcome_of_status status.Dangling = outcome.Dangling
outcome_of_status status.WaitTimeout = outcome.WaitTimeout
outcome_of_status status.AgeTimeout = outcome.AgeTimeout

-- the fills that the request cannot use
abbrev pub unusable_in : Option Key → Option (List UnusableFill)
unusable_in None = None
unusable_in (Some k) = k.unusable

-- since when it waits: since the first poll of this read lock
abbrev pub since_of : ℕ → Option Watch → Option ℕ → ℕ
since_of now None since = now
since_of now (Some w) since = unwrap_or since now

-- it waited for as long as its wait timeout leaves, or longer; a moment before the first poll counts as no time
abbrev pub has_waited : Option ℕ → Option ℕ → ℕ → Bool
has_waited None before waited = false
has_waited (Some timeout) before waited = nat_le (timeout - unwrap_or before 0) waited

-- the wait timed out at this poll
abbrev pub is_late : ℕ → Reader → Option ℕ → Option ℕ → Option ℕ → Bool
is_late now rd timeout before since = has_waited timeout before (now - since_of now rd.watch since)

-- What a wait returns: how the permit ended; or else that it is too old; or else the fill that the reader was told of; or
-- else that the wait timed out; or else that it goes on.
abbrev pub result_by : LockStatus → Bool → Poll WaitOutcome → Poll LockWaitOutcome
result_by s late (Ready poll.Released) = Ready (outcome_of_status s)
result_by s late (Ready poll.AgeTimeout) = Ready outcome.AgeTimeout
result_by s late (Ready (poll.Abandoned f)) = Ready (outcome.Abandoned (Custom f.reason) f.token)
result_by s late Pending = cond late (Ready outcome.WaitTimeout) Pending

-- what a poll of a read lock returns
abbrev pub result_on : Locks → ℕ → Reader → Option (List UnusableFill) → Option ℕ → Option ℕ → Option ℕ → Poll LockWaitOutcome
result_on t now rd fills timeout before since =
    result_by (status_seen now (get t.cores rd.number)) (is_late now rd timeout before since) (polled now fills rd.watch (get t.cores rd.number))

-- what a request's wait returns: only a request that holds a read lock waits
abbrev pub wait_result : Locks → ℕ → Option Locked → Request → Poll LockWaitOutcome
wait_result t now None r = Pending
wait_result t now (Some (Write p)) r = Pending
wait_result t now (Some (Read rd)) r = result_on t now rd (unusable_in r.key) r.wait_timeout r.digest.waits r.waits_since

-- the poll found the permit too old
abbrev pub is_old_result : Poll WaitOutcome → Bool
is_old_result (Ready poll.Released) = false
is_old_result (Ready poll.AgeTimeout) = true
is_old_result (Ready (poll.Abandoned f)) = false
is_old_result Pending = false

-- a poll of a read lock finds its permit too old
abbrev pub finds_too_old : Locks → ℕ → Reader → Option (List UnusableFill) → Bool
finds_too_old t now rd fills = is_old_result (polled now fills rd.watch (get t.cores rd.number))

-- the same for what a request holds
abbrev pub too_old_for : Locks → ℕ → Option Locked → Option (List UnusableFill) → Bool
too_old_for t now None fills = false
too_old_for t now (Some (Write p)) fills = false
too_old_for t now (Some (Read rd)) fills = finds_too_old t now rd fills

-- the fill of an outcome, if the wait was abandoned for one
abbrev pub abandoned_in : LockWaitOutcome → Option LockAbandon → Option LockAbandon
abandoned_in outcome.Done before = before
abandoned_in outcome.TransientError before = before
abandoned_in outcome.Dangling before = before
abandoned_in outcome.WaitTimeout before = before
abandoned_in outcome.AgeTimeout before = before
abandoned_in outcome.GiveUp before = before
abandoned_in (outcome.Abandoned reason token) before = Some (record { reason = reason; token = token })

-- the digest after a wait that ended took so many nanoseconds
abbrev pub with_wait : ℕ → LockWaitOutcome → Digest → Digest
with_wait n o d = record d { waits = time_added d.waits n; abandoned = abandoned_in o d.abandoned }

-- the request after a poll: while it waits it holds the read lock again, as the poll left it; otherwise the wait is
-- counted
abbrev pub held_after : Poll LockWaitOutcome → Reader → Option Locked
held_after (Ready o) rd = None
held_after Pending rd = Some (Read rd)

-- since when it waits after a poll
abbrev pub since_after : Poll LockWaitOutcome → ℕ → Option ℕ → Option ℕ
since_after (Ready o) since before = before
since_after Pending since before = Some since

-- the digest after a poll, of a wait that took n nanoseconds so far
abbrev pub digest_after : Poll LockWaitOutcome → ℕ → Digest → Digest
digest_after (Ready o) n d = with_wait n o d
digest_after Pending n d = d

-- the request after a poll that returned this
abbrev pub after_wait : Poll LockWaitOutcome → ℕ → ℕ → Reader → Request → Request
after_wait answer since now rd r = record r {
  held = held_after answer rd;
  waits_since = since_after answer since r.waits_since;
  digest = digest_after answer (now - since) r.digest;
}

-- the request after a poll, by what it holds
abbrev pub waited : Locks → ℕ → Option Locked → Request → Request
waited t now None r = r
waited t now (Some (Write p)) r = r
waited t now (Some (Read rd)) r = after_wait (wait_result t now (Some (Read rd)) r) (since_of now rd.watch r.waits_since) now (reader_polled now (unusable_in r.key) rd (get t.cores rd.number)) r

-- the table after a poll: the read lock of a wait that ended is let go
abbrev pub let_go_after : Poll LockWaitOutcome → ℕ → Locks → Locks
let_go_after (Ready o) n t = reader_dropped t n (get t.cores n)
let_go_after Pending n t = t

-- the lock table after a poll, by what the request holds
abbrev pub table_waited : Locks → ℕ → Option Locked → Request → Locks
table_waited t now None r = t
table_waited t now (Some (Write p)) r = t
table_waited t now (Some (Read rd)) r = let_go_after (wait_result t now (Some (Read rd)) r) rd.number (after_poll t now rd.number (get t.cores rd.number))
