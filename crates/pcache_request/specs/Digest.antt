-- What a request measured (own, after pingora-cache).
use Rattle.std.specs.Prelude.{ℕ, ◌+◌, Option, Some, None, min}
use Rattle.std.specs.Duration.{max_nanos}
use Rattle.pcache_predict.specs.declared.admission.Decision.{Decision}
use Rattle.pcache_request.specs.declared.digest.LockAbandon.{LockAbandon}

pub record Digest : Type 0 where
  -- how many nanoseconds its look-ups took, if that was recorded
  pub look_ups : Option ℕ
  -- how many nanoseconds it waited for locks, if a wait ended
  pub waits : Option ℕ
  -- the last fill that ended a wait, if one did
  pub abandoned : Option LockAbandon
  -- what its admission policy decided, if it was asked
  pub admission : Option Decision

abbrev pub empty_digest : Digest
empty_digest = record { look_ups = None; waits = None; abandoned = None; admission = None }

-- a time added to the recorded one: the longest duration means itself or more
abbrev pub time_added : Option ℕ → ℕ → Option ℕ
time_added None n = Some n
time_added (Some m) n = Some (min (m + n) max_nanos)
