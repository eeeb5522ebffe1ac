-- The bytes that, by a legal history, an open put has written are the body of its write.
use Rattle.pcache_history.specs.Headline.{PutsAreWritten}
use Rattle.pcache_history.specs.PutHistory.{filled_by, filled_noted, filled_of}
use Rattle.pcache_history.proofs.Words.{◌≡◌, ◌≢◌, ℕ, ◌<◌, ◌≤◌, ◌==◌, Bool, true, false, if◌then◌else◌, cond, Option, None, Some, IfSome, IsSome, List, [], ◌∷◌, ◌++◌, refl, ap, sym, subst, ◌∙◌, arith, reverse, inl, inr, and_parts, both_ways, eqb-true, eqb-false, ne_eqb, Key, Tracked, Limits, Filled, numbered, Act, Reply, Entry, Event, Owed, makes, makes_of, owes, AreDue, IsNext, begun, begin_of, body_of, tracked, Facts, Ongoing, change_of, is_done, is_wrong, ongoing_put, kind_of_reply, request_of, row, row_by, events_of, IsLegal, filled_after, IsIdle, IsOther, Replies, new_put}
use Rattle.pcache_history.specs.declared.call.Act.TheVariants as C
use Rattle.pcache_history.specs.declared.call.Reply.TheVariants as R
use Rattle.pcache_history.specs.declared.entry.Event.TheVariants as E
use Rattle.pcache_history.proofs.Copied.{kind-copied, row-copied}
use Rattle.pcache_history.proofs.WriteLaws.{legal_kept}
use Rattle.pcache_history.proofs.PutShape.{HasPut, no-push, plain-kept, wrong-filled, wrong-row}
use Rattle.pcache_history.proofs.Runs.{turned}
use Rattle.pcache_history.proofs.Steps.{below}
use Rattle.pcache_history.proofs.Sums.{same-number}
use Rattle.pcache_history.proofs.Taken.{taken_keeps}

-- what a write was given is its body, and it began with this meta
abbrev Gave : Option Filled → Option ℕ → List Event → Type 0
Gave f None es = Unit {0}
Gave f (Some w) es = (g : Filled) × (f ≡ Some g) × (g.body ≡ body_of w es) × ((k : ℕ) × (begin_of w es ≡ Some (k, numbered w g.meta)))

-- no number that is free has bytes, and a write has a number that was given
abbrev AreUnwritten : List Event → Type 0
AreUnwritten es = (w : ℕ) → begun es ≤ w → body_of w es ≡ []

abbrev pub IsBelow : Option ℕ → List Event → Type 0
IsBelow None es = Unit {0}
IsBelow (Some w) es = w < begun es

unwritten-next : (limits : Limits) (m : Tracked) (es : List Event) (q : Option Ongoing) (o : Option ℕ) (owed : Option Owed) (e : Event) → IsNext limits m es q o owed e → AreUnwritten es → IsBelow o es → AreUnwritten (e ∷ es)
unwritten-next limits m es q o None (E.Begin w k n) due unwritten low = λ x h. unwritten x (omega (arith, h))
unwritten-next limits m es q o (Some n) (E.Begin w k y) due unwritten low = absurd due
unwritten-next limits m es q o None (E.Wrote w bytes eof) due unwritten low = λ x h.
    let lt : w < begun es = subst (λ z. IsBelow z es) due low in
    ap (λ b. if b then body_of x es ++ bytes else body_of x es) (ne_eqb w x (λ same. omega arith)) ∙ unwritten x h
unwritten-next limits m es q o (Some n) (E.Wrote w bytes eof) due unwritten low = absurd due
unwritten-next limits m es q o owed e due unwritten low = unwritten

pub below-next : (limits : Limits) (m : Tracked) (es : List Event) (q : Option Ongoing) (o : Option ℕ) (owed : Option Owed) (e : Event) → IsNext limits m es q o owed e → IsBelow o es → IsBelow (makes e o) (e ∷ es)
below-next limits m es q o None (E.Begin w k n) due low = let is : w ≡ begun es = due.0 in omega (arith, is)
below-next limits m es q o (Some n) (E.Begin w k y) due low = absurd due
below-next limits m es q o owed (E.Finish w kept) due low = tt
below-next limits m es q o owed (E.Dropped w) due low = tt
below-next limits m es q None owed e due low = tt
below-next limits m es q (Some w) owed e due low = low

wrote-more : (es : List Event) (w : ℕ) (bytes : List ℕ) (eof : Bool) (f : Option Filled) → Gave f (Some w) es → Gave (filled_noted (E.Wrote w bytes eof) f) (Some w) (E.Wrote w bytes eof ∷ es)
wrote-more es w bytes eof f h = (
  record { meta = h.0.meta; body = h.0.body ++ bytes },
  ap (filled_noted (E.Wrote w bytes eof)) h.1,
  ap (λ (xs : List ℕ). xs ++ bytes) h.2 ∙ sym (ap (λ b. if b then body_of w es ++ bytes else body_of w es) (same-number w)),
  h.3,
)

gave-next : (limits : Limits) (m : Tracked) (es : List Event) (q : Option Ongoing) (o : Option ℕ) (owed : Option Owed) (e : Event) (f : Option Filled) → IsNext limits m es q o owed e → AreUnwritten es → Gave f o es → Gave (filled_noted e f) (makes e o) (e ∷ es)
gave-next limits m es q o None (E.Begin w k n) f due unwritten h =
    let is : w ≡ begun es = due.0 in
    (record { meta = n; body = [] }, refl, sym (unwritten w (omega (arith, is))), (k, ap (λ b. if b then Some (k, numbered w n) else begin_of w es) (same-number w)))
gave-next limits m es q o (Some x) (E.Begin w k n) f due unwritten h = absurd due
gave-next limits m es q o None (E.Wrote w bytes eof) f due unwritten h = subst (λ z. Gave (filled_noted (E.Wrote w bytes eof) f) z (E.Wrote w bytes eof ∷ es)) (sym due) (wrote-more es w bytes eof f (subst (λ z. Gave f z es) due h))
gave-next limits m es q o (Some x) (E.Wrote w bytes eof) f due unwritten h = absurd due
gave-next limits m es q o owed (E.Finish w kept) f due unwritten h = tt
gave-next limits m es q o owed (E.Dropped w) f due unwritten h = tt
gave-next limits m es q None owed e f due unwritten h = tt
gave-next limits m es q (Some w) owed e f due unwritten h = h

-- the events of a call of the put
run-own : (limits : Limits) (start : Tracked) (q : Option Ongoing) (events es : List Event) (o : Option ℕ) (owed : Option Owed) (o' : Option ℕ) (f : Option Filled) → AreDue limits start es q o owed events o' → AreUnwritten es → IsBelow o es → Gave f o es → Gave (filled_by events f) o' (reverse events ++ es)
run-own limits start q [] es o owed o' f due unwritten low h = subst (λ z. Gave f z es) (sym due.0) h
run-own limits start q (e ∷ events) es o owed o' f due unwritten low h =
    subst (Gave (filled_by events (filled_noted e f)) o') (sym (turned e events es))
    (run-own limits start q events (e ∷ es) (makes e o) (owes es e owed) o' (filled_noted e f) due.1
    (unwritten-next limits (tracked start es) es q o owed e due.0 unwritten low)
    (below-next limits (tracked start es) es q o owed e due.0 low)
    (gave-next limits (tracked start es) es q o owed e f due.0 unwritten h))

-- an event of a call of another
gave-away : (limits : Limits) (m : Tracked) (es : List Event) (q : Option Ongoing) (o : Option ℕ) (owed : Option Owed) (e : Event) (f : Option Filled) (w : ℕ) → IsNext limits m es q o owed e → w < begun es → (o ≡ Some w → ⊥) → Gave f (Some w) es → Gave f (Some w) (e ∷ es)
gave-away limits m es q o None (E.Begin x k n) f w due low other h =
    let is : x ≡ begun es = due.0 in
    let apart : x ≢ w = λ same. omega (arith, is, same, low) in
    (h.0, h.1, h.2, (h.3.0, ap (λ b. if b then Some (k, numbered x n) else begin_of w es) (ne_eqb x w apart) ∙ h.3.1))
gave-away limits m es q o (Some y) (E.Begin x k n) f w due low other h = absurd due
gave-away limits m es q o None (E.Wrote x bytes eof) f w due low other h =
    let apart : x ≢ w = λ same. other (due ∙ ap Some same) in
    (h.0, h.1, h.2 ∙ sym (ap (λ b. if b then body_of w es ++ bytes else body_of w es) (ne_eqb x w apart)), h.3)
gave-away limits m es q o (Some y) (E.Wrote x bytes eof) f w due low other h = absurd due
gave-away limits m es q o owed e f w due low other h = h

pub begun-grows : (e : Event) (es : List Event) (w : ℕ) → w < begun es → w < begun (e ∷ es)
begun-grows (E.Begin x k n) es w low = omega (arith, low)
begun-grows e es w low = low

pub other-next : (limits : Limits) (m : Tracked) (es : List Event) (q : Option Ongoing) (o : Option ℕ) (owed : Option Owed) (e : Event) (w : ℕ) → IsNext limits m es q o owed e → w < begun es → (o ≡ Some w → ⊥) → makes e o ≡ Some w → ⊥
other-next limits m es q o None (E.Begin x k n) w due low other same = let is : x ≡ begun es = due.0 in let at : x ≡ w = cc in omega (arith, is, at, low)
other-next limits m es q o (Some y) (E.Begin x k n) w due low other same = absurd due
other-next limits m es q o owed (E.Finish x kept) w due low other same = absurd (cc)
other-next limits m es q o owed (E.Dropped x) w due low other same = absurd (cc)
other-next limits m es q o owed e w due low other same = other same

run-away : (limits : Limits) (start : Tracked) (q : Option Ongoing) (events es : List Event) (o : Option ℕ) (owed : Option Owed) (o' : Option ℕ) (f : Option Filled) (w : ℕ) → AreDue limits start es q o owed events o' → w < begun es → (o ≡ Some w → ⊥) → Gave f (Some w) es → Gave f (Some w) (reverse events ++ es)
run-away limits start q [] es o owed o' f w due low other h = h
run-away limits start q (e ∷ events) es o owed o' f w due low other h =
    subst (Gave f (Some w)) (sym (turned e events es))
    (run-away limits start q events (e ∷ es) (makes e o) (owes es e owed) o' f w due.1 (begun-grows e es w low)
    (other-next limits (tracked start es) es q o owed e w due.0 low other)
    (gave-away limits (tracked start es) es q o owed e f w due.0 low other h))

-- of what is open under a number, if that is a put
abbrev GaveIn : Option Filled → Option Ongoing → List Event → Type 0
GaveIn f None es = Unit {0}
GaveIn f (Some x) es = IfSome x.put (λ p. Gave f x.request.write es)

gave-plain : (f : Option Filled) (q : Option Ongoing) (es : List Event) → HasPut None q → GaveIn f q es
gave-plain f None es plain = tt
gave-plain f (Some x) es plain = subst (λ o. IfSome o (λ p. Gave f x.request.write es)) (sym plain) tt

gave-put : (f : Option Filled) (q : Option Ongoing) (es : List Event) → Gave f (makes_of q) es → GaveIn f q es
gave-put f None es h = tt
gave-put f (Some x) es h = elim x.put as (λ o. IfSome o (λ p. Gave f x.request.write es)) [ None ↦ tt | Some p ↦ h ]

put-gave : (f : Option Filled) (x : Ongoing) (es : List Event) → IsSome x.put → GaveIn f (Some x) es → Gave f x.request.write es
put-gave f x es some h = elim x.put as (λ o. IsSome o → IfSome o (λ p. Gave f x.request.write es) → Gave f x.request.write es) [ None ↦ λ s. absurd (both_ways false refl s) | Some p ↦ λ _ g. g ] some h

pub right-kept : (reply : Reply) → IsOther reply → is_wrong (kind_of_reply reply) ≡ false
right-kept R.WrongCall other = absurd other
right-kept reply other = refl

-- a wrong call
wrong-call : (act : Act) (q : Option Ongoing) (reply : Reply) (events es : List Event) (g : Option Filled) → IsIdle R.WrongCall reply events → GaveIn g q es → GaveIn (filled_after act (kind_of_reply reply) events g) (row act reply events q) (reverse events ++ es)
wrong-call act q reply events es g idle h =
    subst (λ (r : Option Ongoing). GaveIn (filled_after act (kind_of_reply reply) events g) r (reverse events ++ es)) (sym (wrong-row act reply events q idle))
    (subst (λ (z : Option Filled). GaveIn z q (reverse events ++ es)) (sym ((λ i. filled_after act (kind_of_reply (idle.0 i)) (idle.1 i) g) ∙ wrong-filled act g))
    (subst (λ (xs : List Event). GaveIn g q (reverse xs ++ es)) (sym idle.1) h))

begun-put : (b : Bool) (k : Key) (limit : Option ℕ) (g : Option Filled) (es : List Event) → GaveIn (cond b None g) (cond b (Some (ongoing_put (new_put k limit))) None) es
begun-put true k limit g es = tt
begun-put false k limit g es = tt

none-gave : (b : Bool) (g : Option Filled) (es : List Event) → GaveIn g (cond b None None) es
none-gave true g es = tt
none-gave false g es = tt

-- a call of the put itself, by its reply
own-call : (limits : Limits) (start : Tracked) (f : Facts) (act : Act) (q : Option Ongoing) (reply : Reply) (events es : List Event) (g : Option Filled) → Replies f act q reply events → AreDue limits start es q (makes_of q) None events (makes_of (row act reply events q)) → AreUnwritten es → IsBelow (makes_of q) es → GaveIn g q es
    → GaveIn (filled_after act (kind_of_reply reply) events g) (row act reply events q) (reverse events ++ es)
own-call limits start f act q reply events es g (inr (other, idle)) due unwritten low h = wrong-call act q reply events es g idle h
own-call limits start f act q reply events es g (inl (kind, inr (fails, idle))) due unwritten low h = wrong-call act q reply events es g idle h
own-call limits start f (C.Files a) q reply events es g (inl (kind, inl (may, other, does))) due unwritten low h = subst (λ (xs : List Event). GaveIn g q (reverse xs ++ es)) (sym does.1) h
own-call limits start f (C.Put k limit) None reply events es g (inl (kind, inl (may, other, does))) due unwritten low h = begun-put (is_done (kind_of_reply reply)) k limit g (reverse events ++ es)
own-call limits start f (C.Put k limit) (Some x) reply events es g (inl (kind, inl (may, other, does))) due unwritten low h = absurd may
own-call limits start f (C.Feed bytes t) None reply events es g (inl (kind, inl (may, other, does))) due unwritten low h = tt
own-call limits start f (C.Feed bytes t) (Some x) reply events es g (inl (kind, inl (may, other, does))) due unwritten low h =
    gave-put (filled_by events g) (row (C.Feed bytes t) reply events (Some x)) (reverse events ++ es)
    (run-own limits start (Some x) events es x.request.write None (makes_of (row (C.Feed bytes t) reply events (Some x))) g due unwritten low (put-gave g x es kind h))
own-call limits start f C.Drop None reply events es g (inl (kind, inl (may, other, does))) due unwritten low h = none-gave (is_done (kind_of_reply reply)) g (reverse events ++ es)
own-call limits start f C.Drop (Some x) reply events es g (inl (kind, inl (may, other, does))) due unwritten low h = subst (λ (z : Reply). GaveIn g (row C.Drop z events (Some x)) (reverse events ++ es)) (sym does.0) tt
own-call limits start f C.Close None reply events es g (inl (kind, inl (may, other, does))) due unwritten low h = none-gave (is_wrong (kind_of_reply reply)) g (reverse events ++ es)
own-call limits start f C.Close (Some x) reply events es g (inl (kind, inl (may, other, does))) due unwritten low h = subst (λ b. GaveIn g (cond b (Some x) None) (reverse events ++ es)) (sym (right-kept reply other)) tt
own-call limits start f (C.Request a) None reply events es g (inl (kind, inl (may, other, does))) due unwritten low h = gave-plain (filled_after (C.Request a) (kind_of_reply reply) events g) (row (C.Request a) reply events None) (reverse events ++ es) (plain-kept (change_of (C.Request a)) (kind_of_reply reply) events None tt (no-push a))
own-call limits start f (C.Request a) (Some x) reply events es g (inl (kind, inl (may, other, does))) due unwritten low h = gave-plain (filled_after (C.Request a) (kind_of_reply reply) events g) (row (C.Request a) reply events (Some x)) (reverse events ++ es) (plain-kept (change_of (C.Request a)) (kind_of_reply reply) events (Some x) kind (no-push a))
own-call limits start f act None reply events es g (inl (kind, inl (may, other, does))) due unwritten low h = gave-plain (filled_after act (kind_of_reply reply) events g) (row act reply events None) (reverse events ++ es) (plain-kept (change_of act) (kind_of_reply reply) events None tt tt)
own-call limits start f act (Some x) reply events es g (inl (kind, inl (may, other, does))) due unwritten low h = gave-plain (filled_after act (kind_of_reply reply) events g) (row act reply events (Some x)) (reverse events ++ es) (plain-kept (change_of act) (kind_of_reply reply) events (Some x) kind tt)

-- one more write, of another
away-held : (limits : Limits) (start : Tracked) (q : Option Ongoing) (events es : List Event) (o' : Option ℕ) (f : Option Filled) (p : Option Ongoing) → AreDue limits start es q (makes_of q) None events o' → IsBelow (makes_of p) es → ((w : ℕ) → makes_of p ≡ Some w → makes_of q ≡ Some w → ⊥) → GaveIn f p es → GaveIn f p (reverse events ++ es)
away-held limits start q events es o' f None due low other h = tt
away-held limits start q events es o' f (Some x) due low other h = elim x.put as (λ o. IfSome o (λ p. Gave f x.request.write es) → IfSome o (λ p. Gave f x.request.write (reverse events ++ es))) [ None ↦ λ _. tt | Some p ↦ λ g. by x.request.write refl low g ] h
  where
    by : (o : Option ℕ) → x.request.write ≡ o → IsBelow o es → Gave f o es → Gave f o (reverse events ++ es)
    by None is below g = tt
    by (Some w) is below g = run-away limits start q events es (makes_of q) None o' f w due below (other w is) g

legal-gave : (age : ℕ) (limits : Limits) (start : Tracked) (h : List Entry) → IsLegal age limits start h → (r : ℕ) → GaveIn (filled_of r h) (request_of r h) (events_of h)
legal-gave age limits start [] l r = tt
legal-gave age limits start (e ∷ h) l r =
    let es = events_of h in
    let n = e.call.request in
    let q = request_of n h in
    let k = legal_kept age limits start h l.1 in
    let g = l.0 in
    let old = legal-gave age limits start h l.1 in
    let same = kind-copied g.reply_made e.reply g.copy in
    let low : (s : ℕ) → IsBelow (makes_of (request_of s h)) es = λ s. elim (makes_of (request_of s h)) as (λ o. makes_of (request_of s h) ≡ o → IsBelow o es) [ None ↦ λ _. tt | Some w ↦ λ is. below w es k.tidy (and_parts _ _ (k.made.flies s w is)).0 ] refl in
    let due : AreDue limits start es q (makes_of q) None e.events (makes_of (row e.call.act g.reply_made e.events q)) = subst (λ z. AreDue limits start es q (makes_of q) None e.events (makes_of z)) (row-copied e.call.act g.reply_made e.reply e.events q g.copy) g.due in
    let now : GaveIn (filled_after e.call.act (kind_of_reply e.reply) e.events (filled_of n h)) (row e.call.act e.reply e.events q) (reverse e.events ++ es) =
    subst (λ o. GaveIn (filled_after e.call.act o e.events (filled_of n h)) (row_by e.call.act o e.events q) (reverse e.events ++ es)) (sym same)
    (own-call limits start g.facts e.call.act q g.reply_made e.events es (filled_of n h) g.answers due k.tidy.no_body (low n) (old n)) in
    taken_keeps (λ p. GaveIn (filled_of r (e ∷ h)) p (reverse e.events ++ es)) (λ x o is. is) e.call.act (kind_of_reply e.reply) r q (if n == r then row e.call.act e.reply e.events (request_of r h) else request_of r h)
    (elim (n == r) as (λ b. (n == r) ≡ b → GaveIn (if b then filled_after e.call.act (kind_of_reply e.reply) e.events (filled_of r h) else filled_of r h) (if b then row e.call.act e.reply e.events (request_of r h) else request_of r h) (reverse e.events ++ es)) [
      | true ↦ λ is. subst (λ x. GaveIn (filled_after e.call.act (kind_of_reply e.reply) e.events (filled_of x h)) (row e.call.act e.reply e.events (request_of x h)) (reverse e.events ++ es)) (eqb-true n r is) now
      | false ↦ λ no. away-held limits start q e.events es (makes_of (row e.call.act e.reply e.events q)) (filled_of r h) (request_of r h) g.due (low r) (λ w mine its. eqb-false n r no (k.made.only n r w its mine)) (old r)
    ] refl)

pub puts_are_written : PutsAreWritten
puts_are_written age limits start before r w x p l has put write =
    subst (λ o. Gave (filled_of r before) o (events_of before)) write
    (put-gave (filled_of r before) x (events_of before) (subst IsSome (sym put) refl) (subst (λ q. GaveIn (filled_of r before) q (events_of before)) has (legal-gave age limits start before l r)))
