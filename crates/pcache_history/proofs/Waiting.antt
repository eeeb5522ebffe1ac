-- Which permits wait in a legal history.
use Rattle.pcache_history.specs.Headline.{GivesThePermitExactly, OnePermitWaits}
use Rattle.pcache_history.specs.Waiting.{Waiting, then_waiting, waiting_after, waiting_in, NoneWaits, Gets, IsGiven, AreGiven}
use Rattle.pcache_history.proofs.Words.{◌≡◌, ℕ, ◌==◌, Bool, true, false, if◌then◌else◌, Option, None, Some, List, [], ◌∷◌, ◌++◌, refl, ap, sym, subst, ◌∙◌, reverse, ◌↔◌, eqb-true, Tracked, Limits, Entry, Event, events_of, IsLegal}
use Rattle.pcache_history.specs.declared.entry.Event.TheVariants as E
use Rattle.pcache_history.proofs.Runs.{turned}

pub after-in : (events es : List Event) → waiting_after events (waiting_in es) ≡ waiting_in (reverse events ++ es)
after-in [] es = refl
after-in (e ∷ events) es = after-in events (e ∷ es) ∙ ap waiting_in (sym (turned e events es))

exactly : (w : Waiting) (k n : ℕ) (b : Bool) → Gets w k n b → (b ≡ true) ↔ NoneWaits w k
exactly w k n true g = (λ e. g.0, λ none. refl)
exactly w k n false g = (λ e. absurd (cc), λ none. absurd (none n g))

given-at : (earlier rest : List Event) (w : Waiting) (k n : ℕ) (b : Bool) → AreGiven w (earlier ++ E.Ask k n b ∷ rest) → Gets (waiting_after earlier w) k n b
given-at [] rest w k n b a = a.0
given-at (e ∷ earlier) rest w k n b a = given-at earlier rest (then_waiting e w) k n b a.1

pub gives_the_permit_exactly : GivesThePermitExactly
gives_the_permit_exactly age limits start before entry earlier rest k n b l is =
    let es = events_of before in
    exactly (waiting_in (reverse earlier ++ es)) k n b (subst (λ w. Gets w k n b) (after-in earlier es) (given-at earlier rest (waiting_in es) k n b (subst (AreGiven (waiting_in es)) is l.0.given)))

-- at most one permit waits under each key
abbrev IsSingle : Waiting → Type 0
IsSingle w = (k l m : ℕ) → w.under l ≡ Some k → w.under m ≡ Some k → l ≡ m

-- a permit that waits after one that ended waited before
still : (b : Bool) (o : Option ℕ) (k : ℕ) → (if b then None else o) ≡ Some k → o ≡ Some k
still true o k e = absurd (cc)
still false o k e = e

-- one more permit, under a key if none waited
one-more : (w : Waiting) (k n : ℕ) → NoneWaits w k → IsSingle w → (q l m : ℕ) (a b : Bool) → (n == l) ≡ a → (n == m) ≡ b → (if a then Some k else w.under l) ≡ Some q → (if b then Some k else w.under m) ≡ Some q → l ≡ m
one-more w k n none one q l m true true x y e f = sym (eqb-true n l x) ∙ eqb-true n m y
one-more w k n none one q l m true false x y e f = let same : k ≡ q = cc in absurd (none m (f ∙ ap Some (sym same)))
one-more w k n none one q l m false true x y e f = let same : k ≡ q = cc in absurd (none l (e ∙ ap Some (sym same)))
one-more w k n none one q l m false false x y e f = one q l m e f

single-then : (e : Event) (w : Waiting) → IsGiven w e → IsSingle w → IsSingle (then_waiting e w)
single-then (E.Ask k n true) w g one q l m a b = one-more w k n g.0 one q l m (n == l) (n == m) refl refl a b
single-then (E.Ask k n false) w g one q l m a b = one q l m a b
single-then (E.Release n) w g one q l m a b = one q l m (still (n == l) (w.under l) q a) (still (n == m) (w.under m) q b)
single-then (E.LetGo n) w g one q l m a b = one q l m (still (n == l) (w.under l) q a) (still (n == m) (w.under m) q b)
single-then (E.Aged n) w g one q l m a b = one q l m (still (n == l) (w.under l) q a) (still (n == m) (w.under m) q b)
single-then e w g one q l m a b = one q l m a b

single-after : (events : List Event) (w : Waiting) → AreGiven w events → IsSingle w → IsSingle (waiting_after events w)
single-after [] w g one = one
single-after (e ∷ events) w g one = single-after events (then_waiting e w) g.1 (single-then e w g.0 one)

single-in : (age : ℕ) (limits : Limits) (start : Tracked) (h : List Entry) → IsLegal age limits start h → IsSingle (waiting_in (events_of h))
single-in age limits start [] l = λ k m n a b. let no : ◌≡◌ {A = Option ℕ} None (Some k) = a in absurd (cc)
single-in age limits start (e ∷ h) l =
    let es = events_of h in
    subst IsSingle (after-in e.events es) (single-after e.events (waiting_in es) l.0.given (single-in age limits start h l.1))

pub one_permit_waits : OnePermitWaits
one_permit_waits age limits start before k l m legal = single-in age limits start before legal k l m
