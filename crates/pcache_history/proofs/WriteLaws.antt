-- What holds of every legal history.
use Rattle.std.specs.Option.{option_map}
use Rattle.pcache_history.specs.Due.{KeepsKey}
use Rattle.pcache_history.specs.Headline.{FindsExactly, FinishesExactly, ReadsTheLast, IsWithinLimits}
use Rattle.pcache_history.proofs.Words.{◌≡◌, ◌≢◌, ℕ, Bool, true, false, not, ◌==◌, if◌then◌else◌, Option, None, Some, is_some, List, [], ◌∷◌, ◌++◌, refl, ap, sym, subst, ◌∙◌, ◌↔◌, reverse, inl, inr, option_and_then, eqb-true, eqb-false, eq-eqb, ne_eqb, and_parts, and_from, both_ways, not-true, slot, Meta, Tracked, Limits, Stored, Entry, Event, begin_of, is_removed, body_of, last_finished, meta_kept, complete, is_open, Ongoing, row, request_of, kind_of_reply, events_of, makes_of, slot_of, AreDue, IsOfWorldIn, IsLegal, IsTidy, IsExact, IsBounded, HasUntouched}
use Rattle.pcache_history.specs.declared.entry.Answer.TheVariants as A
use Rattle.pcache_history.specs.declared.entry.Event.TheVariants as E
use Rattle.pcache_history.proofs.Steps.{unless_removed, body_with, survives}
use Rattle.pcache_history.proofs.Tidy.{tidy-none}
use Rattle.pcache_history.proofs.Exact.{exact-none}
use Rattle.pcache_history.proofs.Bound.{bound-none}
use Rattle.pcache_history.proofs.Taken.{holding_world, taken_keeps}
use Rattle.pcache_history.proofs.Due.{AreMade, IsOn, with_one, at_one, due-keeps}

-- Histories.

pub record IsKept (limits : Limits) (start : Tracked) (h : List Entry) : Type 0 where
  pub tidy : IsTidy (events_of h)
  pub made : AreMade (λ r. makes_of (request_of r h)) (λ r. slot_of (request_of r h)) (events_of h)
  pub exact : IsExact start (events_of h)
  pub bounded : IsBounded limits (events_of h)
  pub world : (r : ℕ) → IsOfWorldIn (request_of r h)

-- an entry changes only the request that it names, and one that is handed a permit
abbrev rowed : ℕ → Entry → List Entry → Option Ongoing
rowed r e h = if e.call.request == r then row e.call.act e.reply e.events (request_of r h) else request_of r h

makes-after : (e : Entry) (h : List Entry) (r : ℕ) → makes_of (request_of r (e ∷ h)) ≡ makes_of (rowed r e h)
makes-after e h r = taken_keeps (λ p. makes_of p ≡ makes_of (rowed r e h)) (λ x l is. is) e.call.act (kind_of_reply e.reply) r (request_of e.call.request h) (rowed r e h) refl

slot-after : (e : Entry) (h : List Entry) (r : ℕ) → slot_of (request_of r (e ∷ h)) ≡ slot_of (rowed r e h)
slot-after e h r = taken_keeps (λ p. slot_of p ≡ slot_of (rowed r e h)) (λ x l is. is) e.call.act (kind_of_reply e.reply) r (request_of e.call.request h) (rowed r e h) refl

named : (e : Entry) (h : List Entry) (r : ℕ) → e.call.request ≡ r → rowed r e h ≡ row e.call.act e.reply e.events (request_of e.call.request h)
named e h r is = subst (λ x. rowed x e h ≡ row e.call.act e.reply e.events (request_of e.call.request h)) is (ap (λ b. if b then row e.call.act e.reply e.events (request_of e.call.request h) else request_of e.call.request h) (eq-eqb e.call.request e.call.request refl))

unnamed : (e : Entry) (h : List Entry) (r : ℕ) → e.call.request ≢ r → rowed r e h ≡ request_of r h
unnamed e h r ne = ap (λ b. if b then row e.call.act e.reply e.events (request_of r h) else request_of r h) (ne_eqb e.call.request r ne)

-- if a request keeps
keeps-world : (q q' : Option Ongoing) → KeepsKey q q' → IsOfWorldIn q → IsOfWorldIn q'
keeps-world q None k w = tt
keeps-world None (Some y) k w = k.0
keeps-world (Some x) (Some y) k w = (k w).0

keeps-slot : (q q' : Option Ongoing) → KeepsKey q q' → IsOfWorldIn q → (w : ℕ) → makes_of q' ≡ Some w → slot_of q' ≡ slot_of q
keeps-slot q None k world w is = absurd (cc)
keeps-slot None (Some y) k world w is = let none = k.1 in absurd (cc)
keeps-slot (Some x) (Some y) k world w is = ap (option_map slot) ((k world).1 (ap is_some is))

pub legal_world : (age : ℕ) (limits : Limits) (start : Tracked) (h : List Entry) → IsLegal age limits start h → (r : ℕ) → IsOfWorldIn (request_of r h)
legal_world age limits start [] l r = tt
legal_world age limits start (e ∷ h) l r =
    let n = e.call.request in
    let old = legal_world age limits start h l.1 in
    taken_keeps IsOfWorldIn holding_world e.call.act (kind_of_reply e.reply) r (request_of n h) (rowed r e h) (elim (n == r) as (λ b. (n == r) ≡ b → IsOfWorldIn (rowed r e h)) [
      | true ↦ λ t. subst IsOfWorldIn (sym (named e h r (eqb-true n r t))) (keeps-world (request_of n h) (row e.call.act e.reply e.events (request_of n h)) l.0.keeps (old n))
      | false ↦ λ f. subst IsOfWorldIn (sym (unnamed e h r (eqb-false n r f))) (old r)
    ] refl)

pub legal_kept : (age : ℕ) (limits : Limits) (start : Tracked) (h : List Entry) → IsLegal age limits start h → IsKept limits start h
legal_kept age limits start [] l = record {
  tidy = tidy-none;
  made = record { only = λ r s w x y. absurd (cc); some = λ w x. absurd (cc); flies = λ r w x. absurd (cc); keyed = λ r w x. absurd (cc) };
  exact = exact-none start;
  bounded = bound-none limits;
  world = λ r. tt;
}
legal_kept age limits start (e ∷ h) l =
    let k = legal_kept age limits start h l.1 in
    let es = events_of h in
    let n = e.call.request in
    let q = request_of n h in
    let now = row e.call.act e.reply e.events q in
    let f : ℕ → Option ℕ = λ r. makes_of (request_of r h) in
    let slots : ℕ → Option ℕ = λ r. slot_of (request_of r h) in
    let on : IsOn limits start n f slots es (makes_of q) None = record {
      tidy = k.tidy;
      made = subst (λ (g : ℕ → Option ℕ). AreMade g slots es) (λ i r. sym (same-one n f r) i) k.made;
      settled = (k.exact, k.bounded);
    } in
    let done = due-keeps limits start n f slots q refl e.events es (makes_of q) (makes_of now) None on l.0.due in
    let to : (r : ℕ) → with_one n (makes_of now) f r ≡ makes_of (request_of r (e ∷ h)) =
    at_one (λ r o. o ≡ makes_of (request_of r (e ∷ h))) n (makes_of now) f (ap makes_of (sym (named e h n refl)) ∙ sym (makes-after e h n)) (λ r ne. ap makes_of (sym (unnamed e h r ne)) ∙ sym (makes-after e h r)) in
    let made = subst (λ (g : ℕ → Option ℕ). AreMade g slots (reverse e.events ++ es)) (λ i r. to r i) done.made in
    record {
      tidy = done.tidy;
      made = record {
        only = made.only;
        some = made.some;
        flies = made.flies;
        keyed = λ r w is. let p = made.keyed r w is in (p.0, p.1, kept-slot r w is ∙ p.2, p.3);
      };
      exact = done.settled.0;
      bounded = done.settled.1;
      world = legal_world age limits start (e ∷ h) l;
    }
  where
    same-one : (n : ℕ) (f : ℕ → Option ℕ) (r : ℕ) → with_one n (f n) f r ≡ f r
    same-one n f = at_one (λ r o. o ≡ f r) n (f n) f refl (λ r ne. refl)

    -- a request that makes a write is of the slot that it was of before
    kept-slot : (r w : ℕ) → makes_of (request_of r (e ∷ h)) ≡ Some w → slot_of (request_of r (e ∷ h)) ≡ slot_of (request_of r h)
    kept-slot r w is =
        let n = e.call.request in
        slot-after e h r ∙ elim (n == r) as (λ b. (n == r) ≡ b → slot_of (rowed r e h) ≡ slot_of (request_of r h)) [
          | true ↦ λ t.
              let same = eqb-true n r t in
              let moved = named e h r same in
              ap slot_of moved ∙ keeps-slot (request_of n h) (row e.call.act e.reply e.events (request_of n h)) l.0.keeps (legal_world age limits start h l.1 n) w (sym (ap makes_of moved) ∙ sym (makes-after e h r) ∙ is) ∙ ap (λ x. slot_of (request_of x h)) same
          | false ↦ λ f. ap slot_of (unnamed e h r (eqb-false n r f))
        ] refl

pub legal_tidy : (age : ℕ) (limits : Limits) (start : Tracked) (h : List Entry) → IsLegal age limits start h → IsTidy (events_of h)
legal_tidy age limits start h l = (legal_kept age limits start h l).tidy

pub legal_bounded : (age : ℕ) (limits : Limits) (start : Tracked) (h : List Entry) → IsLegal age limits start h → IsBounded limits (events_of h)
legal_bounded age limits start h l = (legal_kept age limits start h l).bounded

-- The three laws.

-- a write that serves is untouched
opened : (k w : ℕ) (es : List Event) → is_open k w es ≡ true → HasUntouched k es
opened k w es h =
    let p = and_parts _ _ h in
    let q = and_parts _ _ p.1 in
    (w, p.0, inl q.0, not-true _ q.1)

stands_as : (b : Bool) (o : Option (ℕ × Meta)) (f : ℕ → Meta → Meta) (body : List ℕ) (x : Stored) → unless_removed b o f body ≡ Some x → (b ≡ false) × (x.bytes ≡ body)
stands_as true o f body x h = absurd (cc)
stands_as false None f body x h = absurd (cc)
stands_as false (Some p) f body x h = let e : body_with (f p.0 p.1) body ≡ x = cc in (refl, ap (λ (y : Stored). y.bytes) (sym e))

-- what stands is the body of the last finished write, which is untouched
pub stands_last : (k : ℕ) (es : List Event) (x : Stored) → complete k es ≡ Some x → (w : ℕ) × (last_finished k es ≡ Some w) × (is_removed w es ≡ false) × (x.bytes ≡ body_of w es)
stands_last k es x is =
    elim (last_finished k es) as (λ o. last_finished k es ≡ o → option_and_then (λ w. unless_removed (is_removed w es) (begin_of w es) (meta_kept w es) (body_of w es)) o ≡ Some x → (w : ℕ) × (last_finished k es ≡ Some w) × (is_removed w es ≡ false) × (x.bytes ≡ body_of w es)) [
      | None ↦ λ _ h. absurd (cc)
      | Some w ↦ λ last h. let p = stands_as (is_removed w es) (begin_of w es) (meta_kept w es) (body_of w es) x h in (w, last, p.0, p.1)
    ] refl is

stands : (k : ℕ) (es : List Event) (x : Stored) → IsTidy es → complete k es ≡ Some x → HasUntouched k es
stands k es x t is =
    let p = stands_last k es x is in
    let f = t.finished k p.0 p.1 in
    (p.0, f.1, inr f.2, p.2)

-- nothing is found only if there is no such write
nothing : (k : ℕ) (es : List Event) → IsTidy es → ((q : ℕ) → is_open k q es ≡ false) → complete k es ≡ None → HasUntouched k es → ⊥
nothing k es t closed none u =
    elim u.2 [
      | inl fly ↦ both_ways _ (closed u.0) (and_from _ _ u.1 (and_from _ _ fly (ap not u.3)))
      | inr st ↦ both_ways _ (ap is_some none) (survives k u.0 es st u.1 u.3)
    ]

pub finds_exactly : FindsExactly
finds_exactly age limits start before k A.Nothing legal f = (λ x. absurd (cc), λ u. absurd (nothing k (events_of before) (legal_tidy age limits start before legal) f.0 f.1 u))
finds_exactly age limits start before k (A.Streaming m w) legal f = (λ _. opened k w (events_of before) f.0, λ _. refl)
finds_exactly age limits start before k (A.Complete m body) legal f = (λ _. stands k (events_of before) (body_with m body) (legal_tidy age limits start before legal) f.1, λ _. refl)

pub reads_the_last : ReadsTheLast
reads_the_last age limits start before k m body legal f = stands_last k (events_of before) (body_with m body) f.1

pub is_within_limits : IsWithinLimits
is_within_limits age limits start before legal = let b = legal_bounded age limits start before legal in (b.bytes, b.count)

-- The end of a write.

pub finishes_exactly : FinishesExactly
finishes_exactly age limits start before entry w stored rest l is =
    let q = request_of entry.call.request before in
    let es = events_of before in
    by_outcome stored (subst (λ xs. AreDue limits start es q (makes_of q) None xs (makes_of (row entry.call.act entry.reply entry.events q))) is l.0.due)
  where
    by_outcome : (stored : Bool) → AreDue limits start (events_of before) (request_of entry.call.request before) (makes_of (request_of entry.call.request before)) None (E.Finish w stored ∷ rest) (makes_of (row entry.call.act entry.reply entry.events (request_of entry.call.request before)))
        → (stored ≡ true) ↔ (is_removed w (events_of before) ≡ false)
    by_outcome true due = (λ _. due.0.1, λ _. refl)
    by_outcome false due = (λ t. absurd (cc), λ f. absurd (both_ways _ f due.0.1))
