-- How a wait ends, by what the deeds say of the lock (own): the first of released, too old, told of a fill that cannot be used,
-- and waited for long enough; otherwise it goes on.
use Rattle.std.specs.Prelude.{ℕ, Bool, Option, None, Some, List, [], ◌∷◌}
use Rattle.pcache_base.specs.declared.fills.UnusableFill.{UnusableFill}
use Rattle.pcache_base.specs.declared.poll.Poll.{Poll}
use Rattle.pcache_base.specs.declared.poll.Poll.TheVariants.{Ready}
use Rattle.pcache_lock.specs.Permits.{Reader, Watch}
use Rattle.pcache_lock.specs.PastWaits.{stage_said, status_said}
use Rattle.pcache_lock.specs.Waiting.{first_told, told_or_pending}
use Rattle.pcache_lock.specs.declared.lock.outcome.LockWaitOutcome.{LockWaitOutcome}
use Rattle.pcache_lock.specs.declared.lock.outcome.PermitState.{PermitState}
use Rattle.pcache_lock.specs.declared.lock.outcome.PermitState.TheVariants.{Over, Old, Held}
use Rattle.pcache_lock.specs.declared.lock.outcome.WaitOutcome.{WaitOutcome}
use Rattle.pcache_lock.specs.declared.lock.outcome.WaitOutcome.TheVariants.{Released, AgeTimeout}
use Rattle.pcache_request.specs.LockWaits.{result_by, is_late, is_old_result, unusable_in}
use Rattle.pcache_request.specs.Requests.{Request}
use Rattle.pcache_history.specs.Deeds.{Deed, done, shown, publication}
use Rattle.pcache_history.specs.Watching.{fills_of}

-- the publications that it looks at: at its first poll the current one
abbrev pub seen_by : ℕ → ℕ → Option Watch → List Deed → List (List ℕ)
seen_by r l None ds = publication l ds ∷ []
seen_by r l (Some w) ds = shown r l ds

-- the first fill of those that it watches for, in the first publication that has any
abbrev pub told_of : ℕ → Reader → Option (List UnusableFill) → List Deed → Option UnusableFill
told_of r rd fills ds = first_told (fills_of rd.watch fills) (seen_by r rd.number rd.watch ds)

-- what a poll returns of a permit in this stage, by a reader that is told of this fill
abbrev pub poll_at : PermitState → Option UnusableFill → Poll WaitOutcome
poll_at Over told = Ready Released
poll_at Old told = Ready AgeTimeout
poll_at Held told = told_or_pending told

-- what a poll by the request r returns, which holds this read lock and has these fills: whether the permit is over, too old or
-- held is said by the table's past
abbrev pub poll_of : ℕ → ℕ → ℕ → Reader → Option (List UnusableFill) → List Deed → Poll WaitOutcome
poll_of age now r rd fills ds = poll_at (stage_said age now rd.number (done ds)) (told_of r rd fills ds)

-- what a wait returns, and whether it finds the permit too old
abbrev pub wait_of : ℕ → ℕ → ℕ → Reader → Request → List Deed → Poll LockWaitOutcome
wait_of age now r rd x ds = result_by (status_said rd.number (done ds)) (is_late now rd x.wait_timeout x.digest.waits x.waits_since) (poll_of age now r rd (unusable_in x.key) ds)

abbrev pub finds_too_old : ℕ → ℕ → ℕ → Reader → Request → List Deed → Bool
finds_too_old age now r rd x ds = is_old_result (poll_of age now r rd (unusable_in x.key) ds)
