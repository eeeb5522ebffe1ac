-- In a legal history the end of a put's write is announced only with bytes that complete its body.
use Rattle.pcache_base.specs.declared.error.ErrorType.{ErrorType}
use Rattle.pcache_response.specs.Response.{Response, IsResponse, is_whole}
use Rattle.pcache_response.proofs.PartLemmas.{response_more}
use Rattle.pcache_put.specs.Puts.{Says, joined}
use Rattle.pcache_put.proofs.Pieces.{joined_push}
use Rattle.pcache_history.specs.PutHistory.{FollowPolicy, AreWhole, EndsBy, SayEnds, pieces_of}
use Rattle.pcache_history.proofs.Words.{◌≡◌, ◌≢◌, ℕ, ◌<◌, ◌≤◌, ◌==◌, Bool, true, false, if◌then◌else◌, cond, Option, None, Some, IfSome, IsSome, List, [], ◌∷◌, ◌++◌, ◌↔◌, refl, ap, sym, subst, ◌∙◌, arith, reverse, length-append, inl, inr, and_parts, both_ways, eqb-true, eqb-false, ne_eqb, nat_tests, Key, Tracked, Limits, Piece, Act, Reply, Entry, Event, Owed, makes, makes_of, owes, AreDue, IsNext, begun, is_told, tracked, Facts, Ongoing, ReplyKind, change_of, is_done, is_wrong, ongoing_put, kind_of_reply, request_of, row, row_by, events_of, IsLegal, pieces_on, IsIdle, Replies, Taking, new_put}
use Rattle.pcache_history.specs.declared.call.Act.TheVariants as C
use Rattle.pcache_history.specs.declared.call.Reply.TheVariants as R
use Rattle.pcache_history.specs.declared.entry.Event.TheVariants as E
use Rattle.pcache_history.proofs.Copied.{kind-copied, row-copied}
use Rattle.pcache_history.proofs.WriteLaws.{legal_kept}
use Rattle.pcache_history.proofs.PutShape.{HasPut, no-push, plain-kept, wrong-pieces, wrong-row}
use Rattle.pcache_history.proofs.PutWrites.{IsBelow, begun-grows, below-next, other-next, right-kept}
use Rattle.pcache_history.proofs.Runs.{turned}
use Rattle.pcache_history.proofs.Steps.{below}
use Rattle.pcache_history.proofs.Sums.{same-number}
use Rattle.pcache_history.proofs.Taken.{taken_keeps}

-- ---- what is whole stays whole

grows : (size : Option ℕ) (behind more : List ℕ) → is_whole size behind ≡ true → is_whole size (behind ++ more) ≡ true
grows None behind more is = is
grows (Some n) behind more is = grind (arith, nat_tests, is, length-append behind more)

pub whole-more : (pieces : List Piece) (p : Piece) → AreWhole pieces → AreWhole (pieces ++ p ∷ [])
whole-more pieces p w =
    let r : Response = record w.0 { behind = w.0.behind ++ p.bytes } in
    (r, subst (λ xs. IsResponse xs r) (sym (joined_push pieces p)) (response_more (joined pieces) p.bytes w.0 w.1), grows w.0.size w.0.behind p.bytes w.2)

whole-on : (o : ReplyKind) (bytes : List ℕ) (t : ℕ) (pieces : List Piece) → AreWhole pieces → AreWhole (pieces_on (C.Feed bytes t) o pieces)
whole-on o bytes t pieces w =
    let p : Piece = record { bytes = bytes; now = t } in
    elim (is_wrong o) as (λ b. AreWhole (cond b pieces (pieces ++ p ∷ []))) [ true ↦ w | false ↦ whole-more pieces p w ]

-- ---- one event

-- the end of the write was announced only if these pieces are whole
abbrev Tells : List Piece → Option ℕ → List Event → Type 0
Tells pieces None es = Unit {0}
Tells pieces (Some w) es = is_told w es ≡ true → AreWhole pieces

-- the end of no write with a free number was announced
abbrev AreUntold : List Event → Type 0
AreUntold es = (w : ℕ) → begun es ≤ w → is_told w es ≡ false

untold-next : (limits : Limits) (m : Tracked) (es : List Event) (q : Option Ongoing) (o : Option ℕ) (owed : Option Owed) (e : Event) → IsNext limits m es q o owed e → AreUntold es → IsBelow o es → AreUntold (e ∷ es)
untold-next limits m es q o None (E.Begin w k n) due untold low = λ x h. untold x (omega (arith, h))
untold-next limits m es q o (Some n) (E.Begin w k y) due untold low = absurd due
untold-next limits m es q o None (E.Wrote w bytes eof) due untold low = λ x h.
    let lt : w < begun es = subst (λ z. IsBelow z es) due low in
    ap (λ b. if b then eof else is_told x es) (ne_eqb w x (λ same. omega arith)) ∙ untold x h
untold-next limits m es q o (Some n) (E.Wrote w bytes eof) due untold low = absurd due
untold-next limits m es q o None (E.Finish w true) due untold low = λ x h.
    let lt : w < begun es = subst (λ z. IsBelow z es) due.0 low in
    ap (λ b. if b then true else is_told x es) (ne_eqb w x (λ same. omega arith)) ∙ untold x h
untold-next limits m es q o (Some n) (E.Finish w true) due untold low = absurd due
untold-next limits m es q o owed e due untold low = untold

-- what is announced with one event
abbrev SaysEnd : List Piece → Event → Type 0
SaysEnd pieces (E.Wrote w bytes eof) = (eof ≡ true) ↔ AreWhole pieces
SaysEnd pieces _ = Unit {0}

says-first : (pieces : List Piece) (e : Event) (events : List Event) → SayEnds pieces (e ∷ events) → SaysEnd pieces e × SayEnds pieces events
says-first pieces (E.Wrote w bytes eof) events s = s
says-first pieces e events s = (tt, s)

tells-next : (limits : Limits) (m : Tracked) (es : List Event) (q : Option Ongoing) (o : Option ℕ) (owed : Option Owed) (e : Event) (pieces : List Piece) → IsNext limits m es q o owed e → AreUntold es → SaysEnd pieces e → Tells pieces o es → Tells pieces (makes e o) (e ∷ es)
tells-next limits m es q o None (E.Begin w k n) pieces due untold said h =
    let is : w ≡ begun es = due.0 in
    λ told. absurd (both_ways (is_told w es) (untold w (omega (arith, is))) told)
tells-next limits m es q o (Some x) (E.Begin w k n) pieces due untold said h = absurd due
tells-next limits m es q o None (E.Wrote w bytes eof) pieces due untold said h =
    subst (λ z. Tells pieces z (E.Wrote w bytes eof ∷ es)) (sym due) (λ told. said.0 (sym (ap (λ b. if b then eof else is_told w es) (same-number w)) ∙ told))
tells-next limits m es q o (Some x) (E.Wrote w bytes eof) pieces due untold said h = absurd due
tells-next limits m es q o owed (E.Finish w kept) pieces due untold said h = tt
tells-next limits m es q o owed (E.Dropped w) pieces due untold said h = tt
tells-next limits m es q None owed e pieces due untold said h = tt
tells-next limits m es q (Some w) owed e pieces due untold said h = h

-- the events of a call of the put
run-own : (limits : Limits) (start : Tracked) (q : Option Ongoing) (events es : List Event) (o : Option ℕ) (owed : Option Owed) (o' : Option ℕ) (pieces : List Piece) → AreDue limits start es q o owed events o' → AreUntold es → IsBelow o es → SayEnds pieces events → Tells pieces o es → Tells pieces o' (reverse events ++ es)
run-own limits start q [] es o owed o' pieces due untold low says h = subst (λ z. Tells pieces z es) (sym due.0) h
run-own limits start q (e ∷ events) es o owed o' pieces due untold low says h =
    let said = says-first pieces e events says in
    subst (Tells pieces o') (sym (turned e events es))
    (run-own limits start q events (e ∷ es) (makes e o) (owes es e owed) o' pieces due.1
    (untold-next limits (tracked start es) es q o owed e due.0 untold low)
    (below-next limits (tracked start es) es q o owed e due.0 low)
    said.1 (tells-next limits (tracked start es) es q o owed e pieces due.0 untold said.0 h))

-- an event of a call of another
tells-away : (limits : Limits) (m : Tracked) (es : List Event) (q : Option Ongoing) (o : Option ℕ) (owed : Option Owed) (e : Event) (pieces : List Piece) (w : ℕ) → IsNext limits m es q o owed e → (o ≡ Some w → ⊥) → Tells pieces (Some w) es → Tells pieces (Some w) (e ∷ es)
tells-away limits m es q o None (E.Wrote x bytes eof) pieces w due other h =
    let apart : x ≢ w = λ same. other (due ∙ ap Some same) in
    λ told. h (sym (ap (λ b. if b then eof else is_told w es) (ne_eqb x w apart)) ∙ told)
tells-away limits m es q o (Some y) (E.Wrote x bytes eof) pieces w due other h = absurd due
tells-away limits m es q o None (E.Finish x true) pieces w due other h =
    let apart : x ≢ w = λ same. other (due.0 ∙ ap Some same) in
    λ told. h (sym (ap (λ b. if b then true else is_told w es) (ne_eqb x w apart)) ∙ told)
tells-away limits m es q o (Some y) (E.Finish x true) pieces w due other h = absurd due
tells-away limits m es q o owed e pieces w due other h = h

run-away : (limits : Limits) (start : Tracked) (q : Option Ongoing) (events es : List Event) (o : Option ℕ) (owed : Option Owed) (o' : Option ℕ) (pieces : List Piece) (w : ℕ) → AreDue limits start es q o owed events o' → w < begun es → (o ≡ Some w → ⊥) → Tells pieces (Some w) es → Tells pieces (Some w) (reverse events ++ es)
run-away limits start q [] es o owed o' pieces w due low other h = h
run-away limits start q (e ∷ events) es o owed o' pieces w due low other h =
    subst (Tells pieces (Some w)) (sym (turned e events es))
    (run-away limits start q events (e ∷ es) (makes e o) (owes es e owed) o' pieces w due.1 (begun-grows e es w low)
    (other-next limits (tracked start es) es q o owed e w due.0 low other)
    (tells-away limits (tracked start es) es q o owed e pieces w due.0 other h))

-- ---- one call

-- the same for what is open under a number, if it is a put
abbrev TellsIn : List Piece → Option Ongoing → List Event → Type 0
TellsIn pieces None es = Unit {0}
TellsIn pieces (Some x) es = IfSome x.put (λ p. Tells pieces x.request.write es)

tells-plain : (pieces : List Piece) (q : Option Ongoing) (es : List Event) → HasPut None q → TellsIn pieces q es
tells-plain pieces None es plain = tt
tells-plain pieces (Some x) es plain = subst (λ o. IfSome o (λ p. Tells pieces x.request.write es)) (sym plain) tt

tells-put : (pieces : List Piece) (q : Option Ongoing) (es : List Event) → Tells pieces (makes_of q) es → TellsIn pieces q es
tells-put pieces None es h = tt
tells-put pieces (Some x) es h = elim x.put as (λ o. IfSome o (λ p. Tells pieces x.request.write es)) [ None ↦ tt | Some p ↦ h ]

put-tells : (pieces : List Piece) (x : Ongoing) (es : List Event) → IsSome x.put → TellsIn pieces (Some x) es → Tells pieces x.request.write es
put-tells pieces x es some h = elim x.put as (λ o. IsSome o → IfSome o (λ p. Tells pieces x.request.write es) → Tells pieces x.request.write es) [ None ↦ λ s. absurd (both_ways false refl s) | Some p ↦ λ _ g. g ] some h

wrong-call : (act : Act) (q : Option Ongoing) (reply : Reply) (events es : List Event) (pieces : List Piece) → IsIdle R.WrongCall reply events → TellsIn pieces q es → TellsIn (pieces_on act (kind_of_reply reply) pieces) (row act reply events q) (reverse events ++ es)
wrong-call act q reply events es pieces idle h =
    subst (λ (r : Option Ongoing). TellsIn (pieces_on act (kind_of_reply reply) pieces) r (reverse events ++ es)) (sym (wrong-row act reply events q idle))
    (subst (λ (xs : List Piece). TellsIn xs q (reverse events ++ es)) (sym (ap (λ z. pieces_on act (kind_of_reply z) pieces) idle.0 ∙ wrong-pieces act pieces))
    (subst (λ (xs : List Event). TellsIn pieces q (reverse xs ++ es)) (sym idle.1) h))

begun-put : (b : Bool) (k : Key) (limit : Option ℕ) (pieces : List Piece) (es : List Event) → TellsIn (cond b [] pieces) (cond b (Some (ongoing_put (new_put k limit))) None) es
begun-put true k limit pieces es = tt
begun-put false k limit pieces es = tt

none-tells : (b : Bool) (pieces : List Piece) (es : List Event) → TellsIn pieces (cond b None None) es
none-tells true pieces es = tt
none-tells false pieces es = tt

tells-more : (pieces more : List Piece) (o : Option ℕ) (es : List Event) → (AreWhole pieces → AreWhole more) → Tells pieces o es → Tells more o es
tells-more pieces more None es longer h = tt
tells-more pieces more (Some w) es longer h = λ told. longer (h told)

own-feed : (limits : Limits) (start : Tracked) (bytes : List ℕ) (t : ℕ) (x : Ongoing) (o : ReplyKind) (events es : List Event) (pieces : List Piece) → AreDue limits start es (Some x) x.request.write None events (makes_of (row_by (C.Feed bytes t) o events (Some x))) → AreUntold es → IsBelow x.request.write es
    → EndsBy (C.Feed bytes t) (pieces_on (C.Feed bytes t) o pieces) events → Tells pieces x.request.write es → TellsIn (pieces_on (C.Feed bytes t) o pieces) (row_by (C.Feed bytes t) o events (Some x)) (reverse events ++ es)
own-feed limits start bytes t x o events es pieces due untold low ends h =
    let after = pieces_on (C.Feed bytes t) o pieces in
    let q = row_by (C.Feed bytes t) o events (Some x) in
    tells-put after q (reverse events ++ es) (run-own limits start (Some x) events es x.request.write None (makes_of q) after due untold low ends (tells-more pieces after x.request.write es (whole-on o bytes t pieces) h))

-- a call of the put itself, by its reply
own-call : (limits : Limits) (start : Tracked) (f : Facts) (act : Act) (q : Option Ongoing) (reply : Reply) (events es : List Event) (pieces : List Piece) → Replies f act q reply events → AreDue limits start es q (makes_of q) None events (makes_of (row act reply events q)) → AreUntold es → IsBelow (makes_of q) es
    → EndsBy act (pieces_on act (kind_of_reply reply) pieces) events → TellsIn pieces q es → TellsIn (pieces_on act (kind_of_reply reply) pieces) (row act reply events q) (reverse events ++ es)
own-call limits start f act q reply events es pieces (inr (other, idle)) due untold low ends h = wrong-call act q reply events es pieces idle h
own-call limits start f act q reply events es pieces (inl (kind, inr (fails, idle))) due untold low ends h = wrong-call act q reply events es pieces idle h
own-call limits start f (C.Files a) q reply events es pieces (inl (kind, inl (may, other, does))) due untold low ends h = subst (λ (xs : List Event). TellsIn pieces q (reverse xs ++ es)) (sym does.1) h
own-call limits start f (C.Put k limit) None reply events es pieces (inl (kind, inl (may, other, does))) due untold low ends h = begun-put (is_done (kind_of_reply reply)) k limit pieces (reverse events ++ es)
own-call limits start f (C.Put k limit) (Some x) reply events es pieces (inl (kind, inl (may, other, does))) due untold low ends h = absurd may
own-call limits start f (C.Feed bytes t) None reply events es pieces (inl (kind, inl (may, other, does))) due untold low ends h = tt
own-call limits start f (C.Feed bytes t) (Some x) reply events es pieces (inl (kind, inl (may, other, does))) due untold low ends h =
    own-feed limits start bytes t x (kind_of_reply reply) events es pieces due untold low ends (put-tells pieces x es kind h)
own-call limits start f C.Drop None reply events es pieces (inl (kind, inl (may, other, does))) due untold low ends h = none-tells (is_done (kind_of_reply reply)) pieces (reverse events ++ es)
own-call limits start f C.Drop (Some x) reply events es pieces (inl (kind, inl (may, other, does))) due untold low ends h = subst (λ (z : Reply). TellsIn pieces (row C.Drop z events (Some x)) (reverse events ++ es)) (sym does.0) tt
own-call limits start f C.Close None reply events es pieces (inl (kind, inl (may, other, does))) due untold low ends h = none-tells (is_wrong (kind_of_reply reply)) pieces (reverse events ++ es)
own-call limits start f C.Close (Some x) reply events es pieces (inl (kind, inl (may, other, does))) due untold low ends h = subst (λ b. TellsIn pieces (cond b (Some x) None) (reverse events ++ es)) (sym (right-kept reply other)) tt
own-call limits start f (C.Request a) None reply events es pieces (inl (kind, inl (may, other, does))) due untold low ends h = tells-plain pieces (row (C.Request a) reply events None) (reverse events ++ es) (plain-kept (change_of (C.Request a)) (kind_of_reply reply) events None tt (no-push a))
own-call limits start f (C.Request a) (Some x) reply events es pieces (inl (kind, inl (may, other, does))) due untold low ends h = tells-plain pieces (row (C.Request a) reply events (Some x)) (reverse events ++ es) (plain-kept (change_of (C.Request a)) (kind_of_reply reply) events (Some x) kind (no-push a))
own-call limits start f act None reply events es pieces (inl (kind, inl (may, other, does))) due untold low ends h = tells-plain (pieces_on act (kind_of_reply reply) pieces) (row act reply events None) (reverse events ++ es) (plain-kept (change_of act) (kind_of_reply reply) events None tt tt)
own-call limits start f act (Some x) reply events es pieces (inl (kind, inl (may, other, does))) due untold low ends h = tells-plain (pieces_on act (kind_of_reply reply) pieces) (row act reply events (Some x)) (reverse events ++ es) (plain-kept (change_of act) (kind_of_reply reply) events (Some x) kind tt)

-- one more write, of another request
away-held : (limits : Limits) (start : Tracked) (q : Option Ongoing) (events es : List Event) (o' : Option ℕ) (pieces : List Piece) (p : Option Ongoing) → AreDue limits start es q (makes_of q) None events o' → IsBelow (makes_of p) es → ((w : ℕ) → makes_of p ≡ Some w → makes_of q ≡ Some w → ⊥) → TellsIn pieces p es → TellsIn pieces p (reverse events ++ es)
away-held limits start q events es o' pieces None due low other h = tt
away-held limits start q events es o' pieces (Some x) due low other h = elim x.put as (λ o. IfSome o (λ p. Tells pieces x.request.write es) → IfSome o (λ p. Tells pieces x.request.write (reverse events ++ es))) [ None ↦ λ _. tt | Some p ↦ λ g. by x.request.write refl low g ] h
  where
    by : (o : Option ℕ) → x.request.write ≡ o → IsBelow o es → Tells pieces o es → Tells pieces o (reverse events ++ es)
    by None is below g = tt
    by (Some w) is below g = run-away limits start q events es (makes_of q) None o' pieces w due below (other w is) g

-- ---- histories

legal-tells : (age : ℕ) (limits : Limits) (start : Tracked) (says : Says) (h : List Entry) → IsLegal age limits start h → FollowPolicy says h → (r : ℕ) → TellsIn (pieces_of r h) (request_of r h) (events_of h)
legal-tells age limits start says [] l told r = tt
legal-tells age limits start says (e ∷ h) l told r =
    let es = events_of h in
    let n = e.call.request in
    let q = request_of n h in
    let k = legal_kept age limits start h l.1 in
    let g = l.0 in
    let old = legal-tells age limits start says h l.1 told.1 in
    let same = kind-copied g.reply_made e.reply g.copy in
    let low : (s : ℕ) → IsBelow (makes_of (request_of s h)) es = λ s. elim (makes_of (request_of s h)) as (λ o. makes_of (request_of s h) ≡ o → IsBelow o es) [ None ↦ λ _. tt | Some w ↦ λ is. below w es k.tidy (and_parts _ _ (k.made.flies s w is)).0 ] refl in
    let due : AreDue limits start es q (makes_of q) None e.events (makes_of (row e.call.act g.reply_made e.events q)) = subst (λ z. AreDue limits start es q (makes_of q) None e.events (makes_of z)) (row-copied e.call.act g.reply_made e.reply e.events q g.copy) g.due in
    let ends : EndsBy e.call.act (pieces_on e.call.act (kind_of_reply g.reply_made) (pieces_of n h)) e.events = subst (λ o. EndsBy e.call.act (pieces_on e.call.act o (pieces_of n h)) e.events) same told.0.ends in
    let now : TellsIn (pieces_on e.call.act (kind_of_reply e.reply) (pieces_of n h)) (row e.call.act e.reply e.events q) (reverse e.events ++ es) =
    subst (λ o. TellsIn (pieces_on e.call.act o (pieces_of n h)) (row_by e.call.act o e.events q) (reverse e.events ++ es)) (sym same)
    (own-call limits start g.facts e.call.act q g.reply_made e.events es (pieces_of n h) g.answers due k.tidy.not_told (low n) ends (old n)) in
    taken_keeps (λ p. TellsIn (pieces_of r (e ∷ h)) p (reverse e.events ++ es)) (λ x o is. is) e.call.act (kind_of_reply e.reply) r q (if n == r then row e.call.act e.reply e.events (request_of r h) else request_of r h)
    (elim (n == r) as (λ b. (n == r) ≡ b → TellsIn (if b then pieces_on e.call.act (kind_of_reply e.reply) (pieces_of r h) else pieces_of r h) (if b then row e.call.act e.reply e.events (request_of r h) else request_of r h) (reverse e.events ++ es)) [
      | true ↦ λ is. subst (λ x. TellsIn (pieces_on e.call.act (kind_of_reply e.reply) (pieces_of x h)) (row e.call.act e.reply e.events (request_of x h)) (reverse e.events ++ es)) (eqb-true n r is) now
      | false ↦ λ no. away-held limits start q e.events es (makes_of (row e.call.act e.reply e.events q)) (pieces_of r h) (request_of r h) g.due (low r) (λ w mine its. eqb-false n r no (k.made.only n r w its mine)) (old r)
    ] refl)

pub told-whole : (age : ℕ) (limits : Limits) (start : Tracked) (says : Says) (h : List Entry) (r w : ℕ) (x : Ongoing) → IsLegal age limits start h → FollowPolicy says h → request_of r h ≡ Some x → IsSome x.put → x.request.write ≡ Some w → is_told w (events_of h) ≡ true → AreWhole (pieces_of r h)
told-whole age limits start says h r w x l told has some write is =
    subst (λ o. Tells (pieces_of r h) o (events_of h)) write (put-tells (pieces_of r h) x (events_of h) some (subst (λ q. TellsIn (pieces_of r h) q (events_of h)) has (legal-tells age limits start says h l told r))) is
