-- How waits end (own).
use Rattle.pcache_lock.specs.declared.lock.outcome.LockWaitOutcome.{LockWaitOutcome}
use Rattle.pcache_lock.specs.declared.lock.outcome.LockWaitOutcome.TheVariants as outcome
use Rattle.pcache_lock.specs.declared.lock.status.LockStatus.{LockStatus}
use Rattle.pcache_lock.specs.declared.lock.status.LockStatus.TheVariants as status

-- the status of the same name; for an abandoned wait that of a response which is not cached
abbrev pub status_of_outcome : LockWaitOutcome → LockStatus
status_of_outcome outcome.Done = status.Done
status_of_outcome outcome.TransientError = status.TransientError
status_of_outcome outcome.Dangling = status.Dangling
status_of_outcome outcome.WaitTimeout = status.WaitTimeout
status_of_outcome outcome.AgeTimeout = status.AgeTimeout
status_of_outcome outcome.GiveUp = status.GiveUp
status_of_outcome (outcome.Abandoned r t) = status.GiveUp
