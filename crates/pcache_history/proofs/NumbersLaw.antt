-- A found meta has the number of its write.
use Rattle.std.specs.Option.{option_map}
use Rattle.pcache_history.specs.Headline.{FoundIsNumbered, IsOfItsWrite}
use Rattle.pcache_history.proofs.Words.{◌≡◌, ℕ, Bool, true, false, ◌==◌, if◌then◌else◌, Option, None, Some, List, [], ◌∷◌, refl, ap, sym, ◌∙◌, option_and_then, eqb-true, Meta, expired_at, in_place_of, numbered, Stored, Answer, Event, altered_by, begin_of, body_of, complete, is_removed, last_finished, meta_kept, stores, until, events_of, Finds}
use Rattle.pcache_history.specs.declared.entry.Answer.TheVariants as A
use Rattle.pcache_history.specs.declared.entry.Event.TheVariants as E
use Rattle.pcache_history.proofs.AnswersLaw.{looks_are_true}
use Rattle.pcache_history.proofs.Steps.{unless_removed}

-- the meta that a write began with, as it is kept
begun-numbered : (w : ℕ) (es : List Event) (b : ℕ × Meta) → begin_of w es ≡ Some b → b.1.entry_id ≡ Some w
begun-numbered w [] b is = absurd (cc)
begun-numbered w (E.Begin x k m ∷ es) b is =
    elim (x == w) as (λ t. (x == w) ≡ t → (if t then Some (k, numbered x m) else begin_of w es) ≡ Some b → b.1.entry_id ≡ Some w) [
      | true ↦ λ t e. let same : (k, numbered x m) ≡ b = cc in ap (λ (p : ℕ × Meta). p.1.entry_id) (sym same) ∙ ap Some (eqb-true x w t)
      | false ↦ λ t e. begun-numbered w es b e
    ] refl is
begun-numbered w (e ∷ es) b is = begun-numbered w es b is

-- what comes after a body was stored leaves the number of its meta
number-kept : (k : ℕ) (es : List Event) (m : Meta) → (altered_by k es m).entry_id ≡ m.entry_id
number-kept k [] m = refl
number-kept k (E.Expire q now ∷ es) m =
    elim (q == k) as (λ t. (if t then expired_at now (altered_by k es m) else altered_by k es m).entry_id ≡ m.entry_id) [ true ↦ number-kept k es m | false ↦ number-kept k es m ]
number-kept k (E.Renew q new ∷ es) m =
    elim (q == k) as (λ t. (if t then in_place_of (altered_by k es m) new else altered_by k es m).entry_id ≡ m.entry_id) [ true ↦ number-kept k es m | false ↦ number-kept k es m ]
number-kept k (e ∷ es) m = number-kept k es m

-- the meta of a complete body is what became of the one that its write began with
meta-stands : (b : Bool) (o : Option (ℕ × Meta)) (f : ℕ → Meta → Meta) (body : List ℕ) (x : Stored) → unless_removed b o f body ≡ Some x → (e : ℕ × Meta) × (o ≡ Some e) × (x.meta ≡ f e.0 e.1)
meta-stands true o f body x h = absurd (cc)
meta-stands false None f body x h = absurd (cc)
meta-stands false (Some p) f body x h = let e : record { meta = f p.0 p.1; bytes = body } ≡ x = cc in (p, refl, ap (λ (y : Stored). y.meta) (sym e))

pub complete-numbered : (k : ℕ) (es : List Event) (x : Stored) → complete k es ≡ Some x → (w : ℕ) × (last_finished k es ≡ Some w) × (x.meta.entry_id ≡ Some w)
complete-numbered k es x is =
    elim (last_finished k es) as (λ o. last_finished k es ≡ o → option_and_then (λ w. unless_removed (is_removed w es) (begin_of w es) (meta_kept w es) (body_of w es)) o ≡ Some x → (w : ℕ) × (last_finished k es ≡ Some w) × (x.meta.entry_id ≡ Some w)) [
      | None ↦ λ _ h. absurd (cc)
      | Some w ↦ λ last h.
          let p = meta-stands (is_removed w es) (begin_of w es) (meta_kept w es) (body_of w es) x h in
          (w, last, ap (λ (m : Meta). m.entry_id) p.2 ∙ number-kept p.0.0 (until (stores w) es) p.0.1 ∙ begun-numbered w es p.0 p.1)
    ] refl is

-- the meta of a write in flight
streaming-numbered : (w : ℕ) (es : List Event) (o : Option (ℕ × Meta)) (m : Meta) → begin_of w es ≡ o → option_map (λ (b : ℕ × Meta). b.1) o ≡ Some m → m.entry_id ≡ Some w
streaming-numbered w es None m is h = absurd (cc)
streaming-numbered w es (Some b) m is h = let same : b.1 ≡ m = cc in ap (λ (x : Meta). x.entry_id) (sym same) ∙ begun-numbered w es b is

found-numbered : (es : List Event) (k : ℕ) (answer : Answer) → Finds es k answer → IsOfItsWrite es k answer
found-numbered es k A.Nothing h = tt
found-numbered es k (A.Streaming m w) h = streaming-numbered w es (begin_of w es) m refl h.2
found-numbered es k (A.Complete m body) h = complete-numbered k es (record { meta = m; bytes = body }) h.1

pub found_is_numbered : FoundIsNumbered
found_is_numbered age limits start before entry k answer rest legal is = found-numbered (events_of before) k answer (looks_are_true age limits start before entry k answer rest legal is)
