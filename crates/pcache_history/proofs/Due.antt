-- What events that are due keep, whatever call has them: the history stays tidy, one request makes each write in flight, under
-- its key, what stands is tracked exactly, and it is within the limits.
use Rattle.pcache_history.proofs.Words.{◌≡◌, ◌≢◌, ℕ, ◌<◌, Bool, true, false, not, ◌&&◌, ◌||◌, ◌==◌, if◌then◌else◌, Option, None, Some, is_some, List, [], ◌∷◌, ◌++◌, refl, ap, sym, subst, ◌∙◌, arith, reverse, inl, inr, ◌⊎◌, eqb-true, eqb-false, eq-eqb, ne_eqb, and_parts, Meta, numbered, Tracked, Limits, Stored, Event, Owed, slot_of, makes, owes, IsNext, AreDue, option_any, begun, begin_of, has_ended, in_flight, body_of, last_finished, complete, stored_size, tracked, names_slot, Ongoing, IsTidy, IsExact, IsBounded}
use Rattle.pcache_history.specs.declared.entry.Event.TheVariants as E
use Rattle.pcache_history.proofs.Bound.{bound-within, bound-wrote, bound-begin, bound-purge, bound-expire, bound-renew, bound-undone}
use Rattle.pcache_history.proofs.Exact.{exact-wrote, exact-begin, exact-purge, exact-expire, exact-renew, exact-untrack, exact-access, exact-admit, exact-undone}
use Rattle.pcache_history.proofs.Runs.{turned}
use Rattle.pcache_history.proofs.Steps.{below, complete-finish, body_with}
use Rattle.pcache_history.proofs.Sums.{same-number}
use Rattle.pcache_history.proofs.Tidy.{tidy-look, tidy-ask, tidy-access, tidy-release, tidy-let_go, tidy-aged, tidy-untrack, tidy-read, tidy-purge, tidy-expire, tidy-renew, tidy-admit, tidy-begin, tidy-wrote, tidy-refused, tidy-dropped, tidy-finish}

-- Who makes which write.

-- the write is of this slot
abbrev pub IsKeyed : List Event → ℕ → Option ℕ → Type 0
IsKeyed es w o = (k : ℕ) × (m : Meta) × (o ≡ Some k) × (begin_of w es ≡ Some (k, m))

-- of requests that make these writes under these slots: one makes each write in flight, and no other
pub record AreMade (f slots : ℕ → Option ℕ) (es : List Event) : Type 0 where
  pub only : (r s w : ℕ) → f r ≡ Some w → f s ≡ Some w → r ≡ s
  pub some : (w : ℕ) → in_flight w es ≡ true → (r : ℕ) × (f r ≡ Some w)
  pub flies : (r w : ℕ) → f r ≡ Some w → in_flight w es ≡ true
  pub keyed : (r w : ℕ) → f r ≡ Some w → IsKeyed es w (slots r)

-- the same, if the request n makes the write o
abbrev pub with_one : ℕ → Option ℕ → (ℕ → Option ℕ) → ℕ → Option ℕ
with_one n o f r = if n == r then o else f r

pub here : (n : ℕ) (o : Option ℕ) (f : ℕ → Option ℕ) → with_one n o f n ≡ o
here n o f = ap (λ b. if b then o else f n) (eq-eqb n n refl)

pub other : (n r : ℕ) (o : Option ℕ) (f : ℕ → Option ℕ) → n ≢ r → with_one n o f r ≡ f r
other n r o f ne = ap (λ b. if b then o else f r) (ne_eqb n r ne)

pub at_one : (P : ℕ → Option ℕ → Type 0) (n : ℕ) (o : Option ℕ) (f : ℕ → Option ℕ) → P n o → ((r : ℕ) → n ≢ r → P r (f r)) → (r : ℕ) → P r (with_one n o f r)
at_one P n o f one rest r =
    elim (n == r) as (λ b. (n == r) ≡ b → P r (if b then o else f r)) [
      | true ↦ λ t. subst (λ x. P x o) (eqb-true n r t) one
      | false ↦ λ e. rest r (eqb-false n r e)
    ] refl

same-flight : (e : Event) (es : List Event) → ((w : ℕ) → begin_of w (e ∷ es) ≡ begin_of w es) → ((w : ℕ) → has_ended w (e ∷ es) ≡ has_ended w es) → (w : ℕ) → in_flight w (e ∷ es) ≡ in_flight w es
same-flight e es b d w = λ i. is_some (b w i) && not (d w i)

-- an event that begins and ends no write
made-on : (e : Event) (es : List Event) (f slots : ℕ → Option ℕ) → ((w : ℕ) → begin_of w (e ∷ es) ≡ begin_of w es) → ((w : ℕ) → has_ended w (e ∷ es) ≡ has_ended w es) → AreMade f slots es → AreMade f slots (e ∷ es)
made-on e es f slots b d k = record {
  only = k.only;
  some = λ w fly. k.some w (sym (same-flight e es b d w) ∙ fly);
  flies = λ r w h. same-flight e es b d w ∙ k.flies r w h;
  keyed = λ r w h. let p = k.keyed r w h in (p.0, p.1, p.2, b w ∙ p.3);
}

-- a write begins
module _ (es : List Event) (n k : ℕ) (m : Meta) (f slots : ℕ → Option ℕ) (tidy : IsTidy es) (slot : slots n ≡ Some k) (made : AreMade (with_one n None f) slots es) where
  abbrev now : List Event
  now = E.Begin (begun es) k m ∷ es

  abbrev before : ℕ → Option ℕ
  before = with_one n None f

  abbrev after : ℕ → Option ℕ
  after = with_one n (Some (begun es)) f

  older : (r w : ℕ) → before r ≡ Some w → begun es ≢ w
  older r w h same = let lt : w < begun es = below w es tidy (and_parts _ _ (made.flies r w h)).0 in omega arith

  came : (r w : ℕ) → after r ≡ Some w → ((before r ≡ Some w) × (begun es ≢ w)) ⊎ ((n ≡ r) × (begun es ≡ w))
  came = at_one (λ r x. (w : ℕ) → x ≡ Some w → ((before r ≡ Some w) × (begun es ≢ w)) ⊎ ((n ≡ r) × (begun es ≡ w))) n (Some (begun es)) f
      (λ w h. inr (refl, cc))
      (λ r ne w h. let old = other n r None f ne ∙ h in inl (old, older r w old))

  stays : (r w : ℕ) → before r ≡ Some w → after r ≡ Some w
  stays r w = at_one (λ r x. x ≡ Some w → after r ≡ Some w) n None f (λ h. absurd (cc)) (λ r ne h. other n r (Some (begun es)) f ne ∙ h) r

  begun-flies : (w : ℕ) → begun es ≡ w → in_flight w now ≡ true
  begun-flies w same = subst (λ x. in_flight x now ≡ true) same
      (let t = same-number (begun es) in let live : has_ended (begun es) es ≡ false = tidy.not_ended (begun es) (omega arith) in λ i. is_some (if t i then Some (k, numbered (begun es) m) else begin_of (begun es) es) && not (live i))

  kept-begin : (w : ℕ) → begun es ≢ w → begin_of w now ≡ begin_of w es
  kept-begin w ne = ap (λ b. if b then Some (k, numbered (begun es) m) else begin_of w es) (ne_eqb (begun es) w ne)

  made-begun : AreMade after slots now
  made-begun = record {
    only = λ r s w a b. elim (came r w a) [
      | inl p ↦ elim (came s w b) [ inl q ↦ made.only r s w p.0 q.0 | inr q ↦ absurd (p.1 q.1) ]
      | inr p ↦ elim (came s w b) [ inl q ↦ absurd (q.1 p.1) | inr q ↦ sym p.0 ∙ q.0 ]
    ];
    some = λ w fly. elim (begun es == w) as (λ b. (begun es == w) ≡ b → (is_some (if b then Some (k, numbered (begun es) m) else begin_of w es) && not (has_ended w es)) ≡ true → (r : ℕ) × (after r ≡ Some w)) [
      | true ↦ λ t _. (n, here n (Some (begun es)) f ∙ ap Some (eqb-true (begun es) w t))
      | false ↦ λ e old. let p = made.some w old in (p.0, stays p.0 w p.1)
    ] refl fly;
    flies = λ r w h. elim (came r w h) [
      | inl p ↦ ap (λ o. is_some o && not (has_ended w es)) (kept-begin w p.1) ∙ made.flies r w p.0
      | inr p ↦ begun-flies w p.1
    ];
    keyed = λ r w h. elim (came r w h) [
      | inl p ↦ let old = made.keyed r w p.0 in (old.0, old.1, old.2, kept-begin w p.1 ∙ old.3)
      | inr p ↦ (k, numbered (begun es) m, subst (λ x. slots x ≡ Some k) p.0 slot, ap (λ b. if b then Some (k, numbered (begun es) m) else begin_of w es) (eq-eqb (begun es) w p.1))
    ];
  }

-- a write ends
module _ (e : Event) (es : List Event) (n w : ℕ) (f slots : ℕ → Option ℕ) (b : (x : ℕ) → begin_of x (e ∷ es) ≡ begin_of x es) (d : (x : ℕ) → has_ended x (e ∷ es) ≡ (w == x || has_ended x es)) (made : AreMade (with_one n (Some w) f) slots es) where
  back : (r x : ℕ) → with_one n None f r ≡ Some x → (n ≢ r) × (with_one n (Some w) f r ≡ Some x)
  back r x = at_one (λ r o. o ≡ Some x → (n ≢ r) × (with_one n (Some w) f r ≡ Some x)) n None f (λ h. absurd (cc)) (λ r ne h. (ne, other n r (Some w) f ne ∙ h)) r

  still : (a c g : Bool) → (a && not (c || g)) ≡ true → (c ≡ false) × ((a && not g) ≡ true)
  still true true g h = absurd (cc)
  still true false g h = (refl, h)
  still false c g h = absurd (cc)

  made-ended : AreMade (with_one n None f) slots (e ∷ es)
  made-ended = record {
    only = λ r s x h i. made.only r s x (back r x h).1 (back s x i).1;
    some = λ x fly.
        let left : (is_some (begin_of x es) && not (w == x || has_ended x es)) ≡ true = sym (λ i. is_some (b x i) && not (d x i)) ∙ fly in
        let parts = still (is_some (begin_of x es)) (w == x) (has_ended x es) left in
        let p = made.some x parts.1 in
        (p.0, at_one (λ r o. o ≡ Some x → with_one n None f r ≡ Some x) n (Some w) f (λ h. absurd (eqb-false w x parts.0 (let same : w ≡ x = cc in same))) (λ r ne h. other n r None f ne ∙ h) p.0 p.1);
    flies = λ r x h.
        let p = back r x h in
        let apart : (w == x) ≡ false = ne_eqb w x (λ same. p.0 (made.only n r x (here n (Some w) f ∙ ap Some same) p.1)) in
        (λ i. is_some (b x i) && not (d x i)) ∙ ap (λ c. is_some (begin_of x es) && not (c || has_ended x es)) apart ∙ made.flies r x p.1;
    keyed = λ r x h. let p = made.keyed r x (back r x h).1 in (p.0, p.1, p.2, b x ∙ p.3);
  }

-- What stands: it is tracked and within the limits, but for the key of a body whose weight is owed.

abbrev pub IsSettled : Limits → Tracked → List Event → Option ℕ → Option Owed → Type 0
IsSettled limits start es slot None = IsExact start es × IsBounded limits es
IsSettled limits start es slot (Some owed) = (k : ℕ) × (b : Stored) × (slot ≡ Some k) × (complete k es ≡ Some b) × (stored_size b ≡ owed.weight) × IsExact start (E.Purge k ∷ es) × IsBounded limits (E.Purge k ∷ es) × (last_finished k es ≡ Some owed.write)

pub record IsOn (limits : Limits) (start : Tracked) (n : ℕ) (f slots : ℕ → Option ℕ) (es : List Event) (o : Option ℕ) (owed : Option Owed) : Type 0 where
  pub tidy : IsTidy es
  pub made : AreMade (with_one n o f) slots es
  pub settled : IsSettled limits start es (slots n) owed

module _ (limits : Limits) (start : Tracked) (n : ℕ) (f slots : ℕ → Option ℕ) (q : Option Ongoing) (own : slots n ≡ slot_of q) where
  abbrev On : List Event → Option ℕ → Option Owed → Type 0
  On es o owed = IsOn limits start n f slots es o owed

  module _ (es : List Event) (o : Option ℕ) where
    flight : (owed : Option Owed) → On es o owed → (w : ℕ) → o ≡ Some w → in_flight w es ≡ true
    flight owed k w is = k.made.flies n w (here n o f ∙ is)

    mine : (owed : Option Owed) → On es o owed → (w : ℕ) → o ≡ Some w → IsKeyed es w (slots n)
    mine owed k w is = k.made.keyed n w (here n o f ∙ is)

    -- an event that changes none of this
    quiet : (e : Event) (owed : Option Owed) → On es o owed → IsTidy (e ∷ es) → ((w : ℕ) → begin_of w (e ∷ es) ≡ begin_of w es) → ((w : ℕ) → has_ended w (e ∷ es) ≡ has_ended w es) → IsSettled limits start (e ∷ es) (slots n) owed → On (e ∷ es) o owed
    quiet e owed k tidy b d settled = record { tidy = tidy; made = made-on e es (with_one n o f) slots b d k.made; settled = settled }

    ended : (e : Event) (w : ℕ) → o ≡ Some w → On es o None → IsTidy (e ∷ es) → ((x : ℕ) → begin_of x (e ∷ es) ≡ begin_of x es) → ((x : ℕ) → has_ended x (e ∷ es) ≡ (w == x || has_ended x es)) → AreMade (with_one n None f) slots (e ∷ es)
    ended e w is k tidy b d = made-ended e es n w f slots b d (subst (λ p. AreMade (with_one n p f) slots es) is k.made)

    come : (e : Event) → On es o None → IsNext limits (tracked start es) es q o None e → On (e ∷ es) (makes e o) (owes es e None)
    come (E.Look j a) k due = quiet (E.Look j a) None k (tidy-look es j a k.tidy) (λ w. refl) (λ w. refl) (k.settled.0, record { bytes = k.settled.1.bytes; count = k.settled.1.count })
    come (E.Ask j l x) k due = quiet (E.Ask j l x) None k (tidy-ask es j l x k.tidy) (λ w. refl) (λ w. refl) (k.settled.0, record { bytes = k.settled.1.bytes; count = k.settled.1.count })
    come (E.Access x c) k due = quiet (E.Access x c) None k (tidy-access es x c k.tidy) (λ w. refl) (λ w. refl) (exact-access start es x c k.settled.0, record { bytes = k.settled.1.bytes; count = k.settled.1.count })
    come (E.Begin w j m) k due =
        subst (λ x. On (E.Begin x j m ∷ es) (Some x) None) (sym due.0)
        (record {
          tidy = tidy-begin es j m k.tidy;
          made = made-begun es n j m f slots k.tidy (own ∙ due.2) (subst (λ p. AreMade (with_one n p f) slots es) due.1 k.made);
          settled = (exact-begin start es j m k.tidy k.settled.0, bound-begin limits es j m k.tidy k.settled.1);
        })
    come (E.Wrote w bytes eof) k due =
        let fly = flight None k w due in
        quiet (E.Wrote w bytes eof) None k (tidy-wrote es w bytes eof fly k.tidy) (λ w. refl) (λ w. refl) (exact-wrote start es w bytes eof k.tidy fly k.settled.0, bound-wrote limits es w bytes eof k.tidy fly k.settled.1)
    come (E.Finish w true) k due =
        let fly = flight None k w due.0 in
        let b = mine None k w due.0 in
        let tidy = tidy-finish es w b.0 b.1 b.3 due.1 fly k.tidy in
        record {
          tidy = tidy;
          made = ended (E.Finish w true) w due.0 k tidy (λ x. refl) (λ x. refl);
          settled = (
            b.0,
            body_with b.1 (body_of w es),
            b.2,
            complete-finish es w b.0 b.1 k.tidy fly b.3 due.1 b.0 ∙ ap (λ a. if a then Some (body_with b.1 (body_of w es)) else complete b.0 es) (same-number b.0),
            refl,
            exact-undone start es w b.0 b.1 k.tidy fly b.3 due.1 k.settled.0,
            bound-undone limits es w b.0 b.1 k.tidy fly b.3 due.1 k.settled.1,
            ap (λ o. if option_any (λ (a : ℕ × Meta). a.0 == b.0) o then Some w else last_finished b.0 es) b.3 ∙ ap (λ a. if a then Some w else last_finished b.0 es) (same-number b.0),
          );
        }
    come (E.Finish w false) k due =
        let tidy = tidy-refused es w (flight None k w due.0) k.tidy in
        record { tidy = tidy; made = ended (E.Finish w false) w due.0 k tidy (λ x. refl) (λ x. refl); settled = (k.settled.0, record { bytes = k.settled.1.bytes; count = k.settled.1.count }) }
    come (E.Dropped w) k due =
        let tidy = tidy-dropped es w (flight None k w due) k.tidy in
        record { tidy = tidy; made = ended (E.Dropped w) w due k tidy (λ x. refl) (λ x. refl); settled = (k.settled.0, record { bytes = k.settled.1.bytes; count = k.settled.1.count }) }
    come (E.Release l) k due = quiet (E.Release l) None k (tidy-release es l k.tidy) (λ w. refl) (λ w. refl) (k.settled.0, record { bytes = k.settled.1.bytes; count = k.settled.1.count })
    come (E.LetGo l) k due = quiet (E.LetGo l) None k (tidy-let_go es l k.tidy) (λ w. refl) (λ w. refl) (k.settled.0, record { bytes = k.settled.1.bytes; count = k.settled.1.count })
    come (E.Aged l) k due = quiet (E.Aged l) None k (tidy-aged es l k.tidy) (λ w. refl) (λ w. refl) (k.settled.0, record { bytes = k.settled.1.bytes; count = k.settled.1.count })
    come (E.Admit x c out) k due = absurd due
    come (E.Purge j) k due = quiet (E.Purge j) None k (tidy-purge es j k.tidy) (λ w. refl) (λ w. refl) (exact-purge start es j k.tidy k.settled.0, bound-purge limits es j k.tidy k.settled.1)
    come (E.Expire j t) k due = quiet (E.Expire j t) None k (tidy-expire es j t k.tidy) (λ w. refl) (λ w. refl) (exact-expire start es j t k.tidy k.settled.0, bound-expire limits es j t k.tidy k.settled.1)
    come (E.Renew j m) k due = quiet (E.Renew j m) None k (tidy-renew es j m k.tidy) (λ w. refl) (λ w. refl) (exact-renew start es j m k.tidy k.settled.0, bound-renew limits es j m k.tidy k.settled.1)
    come (E.Untrack x) k due = quiet (E.Untrack x) None k (tidy-untrack es x k.tidy) (λ w. refl) (λ w. refl) (exact-untrack start es x due k.settled.0, record { bytes = k.settled.1.bytes; count = k.settled.1.count })
    come (E.Read a) k due = quiet (E.Read a) None k (tidy-read es a k.tidy) (λ w. refl) (λ w. refl) (k.settled.0, record { bytes = k.settled.1.bytes; count = k.settled.1.count })

    -- the slot whose body's weight is owed is the request's
    same-slot : (j k : ℕ) → slot_of q ≡ Some j → slots n ≡ Some k → j ≡ k
    same-slot j k a b = let is : ◌≡◌ {A = Option ℕ} (Some j) (Some k) = sym a ∙ sym own ∙ b in cc

    settle : (owed : Owed) (e : Event) → On es o (Some owed) → IsNext limits (tracked start es) es q o (Some owed) e → On (e ∷ es) (makes e o) (owes es e (Some owed))
    settle owed (E.Release l) k due =
        let p = k.settled in
        quiet (E.Release l) (Some owed) k (tidy-release es l k.tidy) (λ w. refl) (λ w. refl) (p.0, p.1, p.2, p.3, p.4, p.5, record { bytes = p.6.bytes; count = p.6.count }, p.7)
    settle owed (E.Admit x c out) k due =
        let p = k.settled in
        let own-slot = due.1 in
        let same = same-slot own-slot.0 p.0 own-slot.1 p.2 in
        let ex : IsExact start (E.Admit x c out ∷ es) = subst (λ y. IsExact start (E.Admit x y out ∷ es)) (p.4 ∙ sym due.0) (exact-admit start es p.0 p.1 x out k.tidy p.3 (subst (λ y. names_slot y x ≡ true) same own-slot.2) (due.2 ∙ sym p.7) p.5) in
        record { tidy = tidy-admit es x c out k.tidy; made = made-on (E.Admit x c out) es (with_one n o f) slots (λ w. refl) (λ w. refl) k.made; settled = (ex, bound-within limits start (E.Admit x c out ∷ es) ex due.3.enough) }
    settle owed (E.Purge j) k due =
        let p = k.settled in
        let same = same-slot j p.0 due p.2 in
        record { tidy = tidy-purge es j k.tidy; made = made-on (E.Purge j) es (with_one n o f) slots (λ w. refl) (λ w. refl) k.made; settled = subst (λ y. IsExact start (E.Purge y ∷ es) × IsBounded limits (E.Purge y ∷ es)) (sym same) (p.5, p.6) }
    settle owed e k due = absurd due

    one-due : (owed : Option Owed) (e : Event) → On es o owed → IsNext limits (tracked start es) es q o owed e → On (e ∷ es) (makes e o) (owes es e owed)
    one-due None e k due = come e k due
    one-due (Some n) e k due = settle n e k due

  pub due-keeps : (events es : List Event) (o o' : Option ℕ) (owed : Option Owed) → IsOn limits start n f slots es o owed → AreDue limits start es q o owed events o' → IsOn limits start n f slots (reverse events ++ es) o' None
  due-keeps [] es o o' owed k due = subst (λ p. On es p None) (sym due.0) (subst (On es o) due.1 k)
  due-keeps (e ∷ events) es o o' owed k due =
      subst (λ xs. On xs o' None) (sym (turned e events es)) (due-keeps events (e ∷ es) (makes e o) o' (owes es e owed) (one-due es o owed e k due.0) due.1)
