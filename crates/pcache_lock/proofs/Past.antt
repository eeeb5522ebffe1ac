-- A table that knows its past: what each call did leads from the table before it to the one after it.
use Rattle.pcache_base.specs.declared.poll.Poll.{Poll}
use Rattle.pcache_lock.specs.declared.lock.outcome.WaitOutcome.{WaitOutcome}
use Rattle.pcache_lock.specs.declared.lock.permit.Locked.{Locked}
use Rattle.pcache_lock.specs.declared.lock.permit.Locked.TheVariants.{Write, Read}
use Rattle.pcache_lock.specs.Locks.{after_request, let_go, is_permit, number_of_lock}
use Rattle.pcache_lock.specs.Deeds.{asked, asked_again, given_up, tells_old}
use Rattle.pcache_lock.proofs.Words.{◌≡◌, ℕ, Bool, false, List, [], ◌∷◌, Option, None, Some, refl, sym, ◌∙◌, ap, get, UnusableFill, PermitState, Core, Watch, Locks, no_locks_from, holder, lock_given, after_poll, polled, answer_at, table_at, permit_state, is_old, told_or_pending, watched, watch_at, is_old_at, Deed, Does, PastLeads, IsPastOf}
use Rattle.pcache_lock.specs.declared.lock.outcome.PermitState.TheVariants as stage

pub begins : (start age : ℕ) → IsPastOf (no_locks_from start age) []
begins start age =
    let rest : (a : ℕ) × PastLeads [] (no_locks_from start a) (no_locks_from start age) = (age, refl) in
    (start, rest)

pub grows : (t u : Locks) (past : List Deed) (deed : Deed) → IsPastOf t past → Does deed t u → IsPastOf u (deed ∷ past)
grows t u past deed is does =
    let step : PastLeads (deed ∷ past) (no_locks_from is.0 is.1.0) u = (t, (is.1.1, does)) in
    let rest : (age : ℕ) × PastLeads (deed ∷ past) (no_locks_from is.0 age) u = (is.1.0, step) in
    (is.0, rest)

-- a request for a key's lock
asks-by : (t : Locks) (slot : ℕ) (stale : Bool) (now : ℕ) (o : Option ℕ) → holder t slot ≡ o → Does (asked slot stale now (number_of_lock (lock_given t stale o)) (is_permit (lock_given t stale o))) t (after_request t slot stale now o)
asks-by t slot stale now None e = (e, refl, refl)
asks-by t slot stale now (Some n) e = (e, refl)

pub asks : (t : Locks) (slot : ℕ) (stale : Bool) (now : ℕ) → Does (asked slot stale now (number_of_lock (lock_given t stale (holder t slot))) (is_permit (lock_given t stale (holder t slot)))) t (after_request t slot stale now (holder t slot))
asks t slot stale now = asks-by t slot stale now (holder t slot) refl

-- a lock that is let go
pub gives_up : (t : Locks) (locked : Locked) → Does (given_up (number_of_lock locked) (is_permit locked)) t (let_go t locked)
gives_up t (Write p) = refl
gives_up t (Read r) = refl

-- a poll
polls-held : (t : Locks) (now n : ℕ) (o : Option UnusableFill) → is_old_at now (get t.cores n) ≡ false → Does (asked_again n now (tells_old (told_or_pending o))) t t
polls-held t now n None e = (e, refl)
polls-held t now n (Some fill) e = (e, refl)

polls-by : (t : Locks) (now n : ℕ) (c : Core) (w : Watch) (s : PermitState) → get t.cores n ≡ Some c → permit_state now c ≡ s → Does (asked_again n now (tells_old (answer_at s w))) t (table_at s t n c)
polls-by t now n c w stage.Over e is = (ap (is_old_at now) e ∙ ap is_old is, refl)
polls-by t now n c w stage.Old e is = (ap (is_old_at now) e ∙ ap is_old is, sym (ap (after_poll t now n) e ∙ ap (λ s. table_at s t n c) is))
polls-by t now n c w stage.Held e is = polls-held t now n w.told (ap (is_old_at now) e ∙ ap is_old is)

polls-at : (t : Locks) (now n : ℕ) (fills : Option (List UnusableFill)) (w : Option Watch) (o : Option Core) → get t.cores n ≡ o → Does (asked_again n now (tells_old (polled now fills w o))) t (after_poll t now n o)
polls-at t now n fills w None e = (ap (is_old_at now) e, refl)
polls-at t now n fills w (Some c) e = polls-by t now n c (watched c (watch_at c fills w)) (permit_state now c) e refl

pub polls : (t : Locks) (now n : ℕ) (fills : Option (List UnusableFill)) (w : Option Watch) → Does (asked_again n now (tells_old (polled now fills w (get t.cores n)))) t (after_poll t now n (get t.cores n))
polls t now n fills w = polls-at t now n fills w (get t.cores n) refl

pub polls_told : (t u : Locks) (now n : ℕ) (answer : Poll WaitOutcome) (fills : Option (List UnusableFill)) (w : Option Watch) → answer ≡ polled now fills w (get t.cores n) → u ≡ after_poll t now n (get t.cores n) → Does (asked_again n now (tells_old answer)) t u
polls_told t u now n answer fills w is ok = rw (is, ok) (polls t now n fills w)
