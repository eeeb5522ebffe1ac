-- In a legal history a call has the reply WrongCall exactly when its condition fails.
use Rattle.pcache_history.specs.Facts.{Says}
use Rattle.pcache_history.specs.Headline.{IsWrongExactly}
use Rattle.pcache_history.proofs.Words.{◌≡◌, ℕ, ◌↔◌, false, Option, None, Some, IsSome, List, refl, sym, subst, ◌∙◌, inl, inr, Request, Act, Reply, Entry, Event, Deed, deeds_of, Facts, request_in, IsEarly, Ongoing, request_of, events_of, FindsKind, MayBe, MayTake, FollowsRule, IsOther, IsCopy, Replies}
use Rattle.pcache_history.specs.declared.call.Act.TheVariants as C
use Rattle.pcache_history.specs.declared.call.FilesAct.TheVariants as F
use Rattle.pcache_history.specs.declared.call.RequestAct.TheVariants as Q
use Rattle.pcache_history.specs.declared.call.Reply.TheVariants as R
use Rattle.pcache_history.proofs.Copied.{other-copied, wrong-copied}

-- facts that one history gives make the same conditions
same-told : (age : ℕ) (es : List Event) (ds : List Deed) (r : ℕ) (x : Request) (f g : Facts) → Says age es ds r x f → Says age es ds r x g → IsSome x.write → f.told ≡ false → g.told ≡ false
same-told age es ds r x f g a b some told = elim x.write as (λ o. x.write ≡ o → IsSome o → g.told ≡ false) [
  | None ↦ λ _ none. absurd (cc)
  | Some w ↦ λ is _. b.told w is ∙ sym (a.told w is) ∙ told
] refl some

same-may : (age : ℕ) (es : List Event) (ds : List Deed) (r : ℕ) (f g : Facts) (h : List Entry) (act : Act) (q : Option Ongoing) → Says age es ds r (request_in q) f → Says age es ds r (request_in q) g → g.taker ≡ f.taker → IsEarly act f h → IsEarly act g h → MayBe f act q → MayBe g act q
same-may age es ds n f g h (C.Files F.Load) q a b same early first may = first ∙ sym early ∙ may
same-may age es ds n f g h (C.Files F.Save) q a b same early first may = tt
same-may age es ds n f g h (C.Open options) None a b same early first may = tt
same-may age es ds n f g h (C.Put k limit) None a b same early first may = tt
same-may age es ds r f g h act None a b same early first may = absurd may
same-may age es ds n f g h (C.Request (Q.Write bytes eof)) (Some x) a b same early first may = (may.0, may.1, same-told age es ds n x.request f g a b may.1 may.2)
same-may age es ds n f g h (C.Give to) (Some x) a b same early first may = (may.0, subst MayTake (sym same) may.1)
same-may age es ds r f g h act (Some x) a b same early first may = may

-- if the condition holds the reply is another, and if it fails it is that
exact : (age : ℕ) (es : List Event) (ds : List Deed) (r : ℕ) (f g : Facts) (h : List Entry) (act : Act) (q : Option Ongoing) (reply told : Reply) (events : List Event) → Says age es ds r (request_in q) f → Says age es ds r (request_in q) g → g.taker ≡ f.taker → IsEarly act f h → IsEarly act g h → FollowsRule g act q reply events → IsCopy reply told
    → (told ≡ R.WrongCall) ↔ (MayBe f act q → ⊥)
exact age es ds r f g h act q reply told events a b same early first (inl (may, other, does)) copy = (λ wrong. absurd (subst IsOther wrong (other-copied reply told copy other)), λ no-way. absurd (no-way (same-may age es ds r g f h act q b a (sym same) first early may)))
exact age es ds r f g h act q reply told events a b same early first (inr (fails, idle)) copy = (λ _ may. fails (same-may age es ds r f g h act q a b same early first may), λ _. wrong-copied reply told copy idle.0)

-- and if it is of the kind of what is open under its number
exact-kind : (age : ℕ) (es : List Event) (ds : List Deed) (r : ℕ) (f g : Facts) (h : List Entry) (act : Act) (q : Option Ongoing) (reply told : Reply) (events : List Event) → Says age es ds r (request_in q) f → Says age es ds r (request_in q) g → g.taker ≡ f.taker → IsEarly act f h → IsEarly act g h → Replies g act q reply events → IsCopy reply told
    → (told ≡ R.WrongCall) ↔ (FindsKind act q × MayBe f act q → ⊥)
exact-kind age es ds r f g h act q reply told events a b same early first (inl (finds, answers)) copy = let e = exact age es ds r f g h act q reply told events a b same early first answers copy in (λ wrong p. e.0 wrong p.1, λ no. e.1 (λ may. no (finds, may)))
exact-kind age es ds r f g h act q reply told events a b same early first (inr (other, idle)) copy = (λ _ p. other p.0, λ _. wrong-copied reply told copy idle.0)

pub is_wrong_exactly : IsWrongExactly
is_wrong_exactly age limits start before entry f l says taker early =
    let g = l.0 in
    exact-kind age (events_of before) (deeds_of before) entry.call.request f g.facts before entry.call.act (request_of entry.call.request before) g.reply_made entry.reply entry.events says g.says (l.2 ∙ sym taker) early l.3 g.answers g.copy
