-- The effect of an admission policy on a look-up (the phase table).
use Rattle.std.specs.Prelude.{ℕ, ◌&&◌, Bool, true, false, Option, Some, None, cond, is_none}
use Rattle.pcache_base.specs.Key.{Key}
use Rattle.pcache_base.specs.declared.reason.NoCacheReason.TheVariants.{Deferred}
use Rattle.pcache_lock.specs.Locks.{Locks}
use Rattle.pcache_lock.specs.declared.lock.status.LockStatus.TheVariants.{TransientError}
use Rattle.pcache_predict.specs.Admission.{is_defer}
use Rattle.pcache_predict.specs.declared.admission.Decision.{Decision}
use Rattle.pcache_store.specs.Store.{Store}
use Rattle.pcache_request.specs.Digest.{Digest}
use Rattle.pcache_request.specs.Phases.{is_key_phase}
use Rattle.pcache_request.specs.Releasing.{switched_off}
use Rattle.pcache_request.specs.Requests.{Request, dropped_by, found_for, left_by, settled}
use Rattle.pcache_request.specs.Variants.{looked_for, searched, table_looked_for}

-- a policy is in use
abbrev pub with_policy : Request → Request
with_policy r = record r { has_policy = true }

-- a policy is asked if nothing is found: once for each request, and before anything was found
abbrev pub observes : Request → Bool
observes r = r.has_policy && (is_key_phase r.phase && is_none r.digest.admission)

-- a look-up asks the policy
abbrev pub asks_policy : Store → Request → Bool
asks_policy s r = is_none (found_for s r.key) && observes r

-- the same, for a look-up that has a policy to ask, or none
abbrev pub asks_any : Bool → Store → Request → Bool
asks_any has s r = is_none (found_for s r.key) && (has && observes r)

-- the decision is kept
abbrev pub decided : Decision → Request → Request
decided d r = let old : Digest = r.digest in record r { digest = record old { admission = Some d } }

-- the decision if the policy was asked
abbrev pub kept_if : Bool → Option Decision → Option Decision
kept_if asked d = cond asked d None

-- the decision made in a look-up, if one was
abbrev pub decision_taken : Store → Request → Request → Option Decision
decision_taken s before after = kept_if (asks_policy s before) after.digest.admission

-- the same for a look-up that has a policy to ask, or none
abbrev pub decision_of_any : Bool → Store → Request → Request → Option Decision
decision_of_any has s before after = kept_if (asks_any has s before) after.digest.admission

-- the request with the decision that was made, if one was
abbrev pub with_decision : Option Decision → Request → Request
with_decision None r = r
with_decision (Some d) r = decided d r

-- the decision defers
abbrev pub is_deferral : Option Decision → Bool
is_deferral None = false
is_deferral (Some d) = is_defer d

-- a policy may have made this decision on the key of a request
abbrev pub Decides : (Key → Decision → Type 0) → Option Key → Option Decision → Type 0
Decides may (Some k) (Some d) = may k d
Decides may (Some k) None = ⊥
Decides may None d = ⊥

-- a look-up with that decision: if it defers, caching is turned off and no lock is asked for
abbrev pub looked_with : Option Decision → Store → Locks → Request → Request
looked_with d s t r = cond (is_deferral d) (switched_off Deferred (with_decision d r)) (looked_for s t (with_decision d r))

-- the store after it: what the request held is given back if the decision defers
abbrev pub store_looked_with : Option Decision → Request → Store → Store
store_looked_with d r s = cond (is_deferral d) (left_by r.reader (dropped_by r.write s)) (searched s r)

-- the lock table after it: a held lock is given up if the decision defers
abbrev pub table_looked_with : Option Decision → Store → ℕ → Request → Locks → Locks
table_looked_with d s now r t = cond (is_deferral d) (settled TransientError r.held t) (table_looked_for s now r t)
