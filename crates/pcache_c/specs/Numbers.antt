-- The numbers that the header has for words of the cache (own).
use Rattle.std.specs.Prelude.{◌≡◌, ◌≤◌, ℕ, List, [], ◌∷◌, Option, None, Some, slice_get}
use Rattle.pcache_base.specs.declared.poll.Poll.{Poll}
use Rattle.pcache_base.specs.declared.poll.Poll.TheVariants.{Pending, Ready}
use Rattle.pcache_base.specs.declared.reason.NoCacheReason.{NoCacheReason}
use Rattle.pcache_base.specs.declared.reason.NoCacheReason.TheVariants as reason
use Rattle.pcache_lock.specs.declared.lock.outcome.LockWaitOutcome.{LockWaitOutcome}
use Rattle.pcache_lock.specs.declared.lock.outcome.LockWaitOutcome.TheVariants as outcome
use Rattle.pcache_lock.specs.declared.lock.permit.Locked.{Locked}
use Rattle.pcache_lock.specs.declared.lock.permit.Locked.TheVariants.{Read, Write}
use Rattle.pcache_request.specs.declared.phase.CachePhase.{CachePhase}
use Rattle.pcache_request.specs.declared.phase.CachePhase.TheVariants as phase
use Rattle.pcache_request.specs.declared.phase.HitStatus.{HitStatus}
use Rattle.pcache_request.specs.declared.phase.HitStatus.TheVariants as status

-- where a request stands
abbrev pub phase_number : CachePhase → ℕ
phase_number (phase.Disabled r) = 0
phase_number phase.Uninit = 1
phase_number phase.Bypass = 2
phase_number phase.CacheKey = 3
phase_number phase.Hit = 4
phase_number phase.Miss = 5
phase_number phase.Stale = 6
phase_number phase.StaleUpdating = 7
phase_number phase.Expired = 8
phase_number phase.Revalidated = 9
phase_number (phase.RevalidatedNoCache r) = 10

-- what a hit is worth
abbrev pub status_number : HitStatus → ℕ
status_number status.Expired = 0
status_number status.ForceExpired = 1
status_number status.ForceExpiredServeStale = 2
status_number status.ForceMiss = 3
status_number status.FailedHitFilter = 4
status_number status.Fresh = 5
status_number status.ForceFresh = 6

-- why nothing is stored; each reason of the caller's own is 12
abbrev pub reason_number : NoCacheReason → ℕ
reason_number reason.NeverEnabled = 0
reason_number reason.OriginNotCache = 1
reason_number reason.ResponseTooLarge = 2
reason_number reason.PredictedResponseTooLarge = 3
reason_number reason.StorageError = 4
reason_number reason.InternalError = 5
reason_number reason.Deferred = 6
reason_number reason.DeclinedToUpstream = 7
reason_number reason.UpstreamError = 8
reason_number reason.CacheLockGiveUp = 9
reason_number reason.CacheLockTimeout = 10
reason_number reason.CacheLockRetryLimit = 11
reason_number (reason.Custom text) = 12

-- a number is that of a word, or past the last one
abbrev pub IsNumber : {A : Type 0} → (A → ℕ) → ℕ → ℕ → Option A → Type 0
IsNumber number_of last n None = last ≤ n
IsNumber number_of last n (Some a) = number_of a ≡ n

-- how a wait ended: 0 if it goes on
abbrev pub ended_number : LockWaitOutcome → ℕ
ended_number outcome.Done = 1
ended_number outcome.TransientError = 2
ended_number outcome.Dangling = 3
ended_number outcome.WaitTimeout = 4
ended_number outcome.AgeTimeout = 5
ended_number outcome.GiveUp = 6
ended_number (outcome.Abandoned reason token) = 7

abbrev pub outcome_number : Poll LockWaitOutcome → ℕ
outcome_number Pending = 0
outcome_number (Ready o) = ended_number o

-- what a request holds of its key's lock
abbrev pub held_number : Option Locked → ℕ
held_number None = 0
held_number (Some (Write p)) = 1
held_number (Some (Read r)) = 2
