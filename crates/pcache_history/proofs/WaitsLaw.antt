-- In a legal history the reply to a wait is decided by what the deeds before it say of its lock.
use Rattle.pcache_lock.specs.Permits.{Reader, Watch}
use Rattle.pcache_lock.specs.declared.lock.outcome.LockWaitOutcome.{LockWaitOutcome}
use Rattle.pcache_lock.specs.declared.lock.permit.Locked.TheVariants.{Read}
use Rattle.pcache_request.specs.LockUse.{read_in}
use Rattle.pcache_request.specs.LockWaits.{unusable_in}
use Rattle.pcache_history.specs.Headline.{WaitsAreTrue}
use Rattle.pcache_history.specs.Rules.{wait_reply, was_polled}
use Rattle.pcache_history.specs.Waits.{wait_of}
use Rattle.pcache_history.proofs.Words.{◌≡◌, ℕ, ◌⊎◌, false, Option, None, Some, IsSome, IfSome, is_some, List, refl, ap, sym, subst, ◌∙◌, inl, inr, OutOfMemory, Poll, Ready, Pending, Reply, Event, Deed, deeds_of, Facts, Ongoing, ongoing_put, events_of, Gives, FollowsRule, IsCopy, Replies}
use Rattle.pcache_history.specs.declared.call.Act.TheVariants as C
use Rattle.pcache_history.specs.declared.call.Reply.TheVariants as R
use Rattle.pcache_history.proofs.PutShape.{IsShaped, legal_shaped}

-- a reply to a wait has no bytes, so its copy is equal
abbrev IsNoData : Reply → Type 0
IsNoData (R.Data bytes) = ⊥
IsNoData _ = Unit {0}

wait-no-data : (a : Poll LockWaitOutcome) → IsNoData (wait_reply a)
wait-no-data Pending = tt
wait-no-data (Ready o) = tt

told-as : (reply told : Reply) → IsNoData reply → IsCopy reply told → told ≡ reply
told-as reply told none (inl same) = same
told-as reply told none (inr (refused, given)) = absurd (subst IsNoData given.1 none)

unwatched : (w : Option Watch) → is_some w ≡ false → w ≡ None
unwatched None e = refl
unwatched (Some w) e = absurd (cc)

module _ (age : ℕ) (ds : List Deed) (r t : ℕ) (x : Ongoing) (rd : Reader) (f : Facts) (held : x.request.held ≡ Some (Read rd)) (says : f.wait t ≡ wait_of age t r rd x.request ds) where
  abbrev Told : Reply → Type 0
  Told reply = (reply ≡ wait_reply (wait_of age t r rd x.request ds)) ⊎ ((reply ≡ R.Refused OutOfMemory) × (rd.watch ≡ None) × IsSome (unusable_in x.request.key))

  by-answers : (reply told : Reply) (events : List Event) → IsCopy reply told → FollowsRule f (C.Wait t) (Some x) reply events → Told told
  by-answers reply told events copy (inl (may, other, inl (first, fills, idle))) =
      inr (told-as reply told (subst IsNoData (sym idle.0) tt) copy ∙ idle.0, unwatched rd.watch (sym (ap was_polled held) ∙ first), fills)
  by-answers reply told events copy (inl (may, other, inr (is, noted))) = inl (told-as reply told (subst IsNoData (sym is) (wait-no-data (f.wait t))) copy ∙ is ∙ ap wait_reply says)
  by-answers reply told events copy (inr (fails, idle)) = absurd (fails (subst (λ h. IsSome (read_in h)) (sym held) refl))

  by-replies : (reply told : Reply) (events : List Event) → x.put ≡ None → IsCopy reply told → Replies f (C.Wait t) (Some x) reply events → Told told
  by-replies reply told events plain copy (inl (finds, answers)) = by-answers reply told events copy answers
  by-replies reply told events plain copy (inr (other, idle)) = absurd (other plain)

-- a put holds no lock
plain-of : (x : Ongoing) (rd : Reader) → IsShaped (Some x) → x.request.held ≡ Some (Read rd) → x.put ≡ None
plain-of x rd shaped held =
    elim x.put as (λ o. IfSome o (λ p. x ≡ ongoing_put p) → o ≡ None) [
      | None ↦ λ _. refl
      | Some p ↦ λ is. let none : x.request.held ≡ None = ap (λ (y : Ongoing). y.request.held) is in absurd (cc)
    ] shaped

pub waits_are_true : WaitsAreTrue
waits_are_true age limits start before entry t x rd l act has held =
    let r = entry.call.request in
    let at = subst (λ q. Gives age limits start (events_of before) (deeds_of before) r q entry.call.act entry.reply entry.events) has l.0 in
    let g = subst (λ c. Gives age limits start (events_of before) (deeds_of before) r (Some x) c entry.reply entry.events) act at in
    let plain = plain-of x rd (subst IsShaped has (legal_shaped age limits start before l.1 r)) held in
    by-replies age (deeds_of before) r t x rd g.facts held (g.says.wait rd t held) g.reply_made entry.reply entry.events plain g.copy g.answers
