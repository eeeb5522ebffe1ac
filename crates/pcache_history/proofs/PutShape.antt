-- In a legal history a put is as a world keeps it, and a call that is wrong leaves what it names.
use Rattle.std.proofs.Common.{option_map}
use Rattle.pcache_history.specs.declared.call.RequestAct.{RequestAct}
use Rattle.pcache_request.specs.LockUse.{unheld}
use Rattle.pcache_history.specs.Ongoing.{ends}
use Rattle.pcache_history.proofs.Words.{◌≡◌, ℕ, ◌==◌, Bool, true, false, cond, if◌then◌else◌, Option, None, Some, IfSome, List, [], ◌∷◌, refl, ap, sym, subst, ◌∙◌, inl, inr, eqb-true, Tracked, Limits, Decision, Deferred, is_deferral, with_decision, disabled_for, visible, Act, Filled, Piece, filled_after, pieces_on, Reply, Answer, Entry, Event, Facts, Permit, Ongoing, ReplyKind, was_done, was_wrong, handed_by, on_request, permit_held, row_by, taken_over, taker_in, Change, opens, closes, stays, turns, turns_by, shuts, looks, takes, begins, reads_on, seeks, reads_no_more, renews, waits, pushes, feeds, goes, asked, carrying, change_of, changed, decides, fed_in, ongoing_put, is_done, is_taken, is_wrong, looked_by, kind_of_reply, pair_of, request_of, row, after_look, IsLegal, FindsKind, IsIdle, MayBe, MayTake, Replies, Taking, new_put}
use Rattle.pcache_history.specs.declared.call.Act.TheVariants as C
use Rattle.pcache_history.specs.declared.call.RequestAct.TheVariants as Q
use Rattle.pcache_history.specs.declared.call.Reply.TheVariants as R
use Rattle.pcache_history.specs.declared.entry.Event.TheVariants as E
use Rattle.pcache_history.proofs.Copied.{kind-copied, row-copied}
use Rattle.pcache_history.proofs.Taken.{handed-keeps}

-- a request, or a put as it is kept
abbrev pub IsShaped : Option Ongoing → Type 0
IsShaped None = Unit {0}
IsShaped (Some x) = IfSome x.put (λ p. x ≡ ongoing_put p)

-- this put, or none
abbrev pub HasPut : Option Taking → Option Ongoing → Type 0
HasPut p None = Unit {0}
HasPut p (Some y) = y.put ≡ p

one-of : (P : Option Ongoing → Type 0) (b : Bool) (q r : Option Ongoing) → P q → P r → P (cond b q r)
one-of P true q r x y = x
one-of P false q r x y = y

-- a wrong call changes nothing
pub wrong-change : (change : Change) (q : Option Ongoing) → changed change was_wrong [] q ≡ q
wrong-change (opens options) q = refl
wrong-change closes q = refl
wrong-change stays q = refl
wrong-change (turns f leaves_pair) q = refl
wrong-change (turns_by f) q = refl
wrong-change (shuts f) q = refl
wrong-change (looks d) q = refl
wrong-change (takes s) q = refl
wrong-change begins None = refl
wrong-change begins (Some x) = refl
wrong-change ends None = refl
wrong-change ends (Some x) = refl
wrong-change reads_on None = refl
wrong-change reads_on (Some x) = refl
wrong-change (seeks start end) q = refl
wrong-change reads_no_more q = refl
wrong-change (renews m) q = refl
wrong-change (waits now) None = refl
wrong-change (waits now) (Some x) = refl
wrong-change (pushes k limit) q = refl
wrong-change feeds None = refl
wrong-change feeds (Some x) = refl
wrong-change goes q = refl

pub wrong-row : (act : Act) (reply : Reply) (events : List Event) (q : Option Ongoing) → IsIdle R.WrongCall reply events → row act reply events q ≡ q
wrong-row act reply events q idle = (λ i. row act (idle.0 i) (idle.1 i) q) ∙ wrong-change (change_of act) q

-- a request stays none of the puts
abbrev off-held : Option Decision → Ongoing → Ongoing
off-held d x = record { request = disabled_for Deferred (with_decision d x.request); pair = None; carried = None; put = x.put }

abbrev on-held : Option Decision → Answer → List Event → Ongoing → Ongoing
on-held d a es x = record { request = asked false es (with_decision d x.request); pair = visible x.request.valid_after (pair_of a); carried = x.carried; put = x.put }

after_look-put : (d : Option Decision) (a : Answer) (es : List Event) (x : Ongoing) → (after_look d a es x).put ≡ x.put
after_look-put d a es x = elim (is_deferral d) as (λ b. (cond b (off-held d x) (on-held d a es x)).put ≡ x.put) [ true ↦ refl | false ↦ refl ]

looked-put : (es : List Event) (x : Ongoing) → (looked_by es x).put ≡ x.put
looked-put [] x = refl
looked-put (E.Look k a ∷ es) x = after_look-put (decides a x) a es x
looked-put (e ∷ es) x = refl

fed-put : (o : ReplyKind) (events : List Event) (x : Ongoing) (p : Option Taking) → x.put ≡ None → p ≡ None → (fed_in o events x p).put ≡ None
fed-put o events x None plain is = plain
fed-put o events x (Some p) plain is = absurd (cc)

abbrev pub IsNoPush : Change → Type 0
IsNoPush (pushes k limit) = ⊥
IsNoPush change = Unit {0}

-- unless a put is made
pub plain-kept : (change : Change) (o : ReplyKind) (events : List Event) (q : Option Ongoing) → HasPut None q → IsNoPush change → HasPut None (changed change o events q)
plain-kept (opens options) o events q h p = one-of (HasPut None) (is_done o) _ q refl h
plain-kept closes o events q h p = one-of (HasPut None) (is_done o) None q tt h
plain-kept stays o events q h p = h
plain-kept (turns f leaves_pair) o events None h p = one-of (HasPut None) (is_done o) None None tt tt
plain-kept (turns f leaves_pair) o events (Some x) h p = one-of (HasPut None) (is_done o) _ (Some x) h h
plain-kept (turns_by f) o events None h p = one-of (HasPut None) (is_done o) None None tt tt
plain-kept (turns_by f) o events (Some x) h p = one-of (HasPut None) (is_done o) _ (Some x) h h
plain-kept (shuts f) o events None h p = one-of (HasPut None) (is_done o) None None tt tt
plain-kept (shuts f) o events (Some x) h p = one-of (HasPut None) (is_done o) _ (Some x) h h
plain-kept (looks d) o events None h p = one-of (HasPut None) (is_wrong o) None None tt tt
plain-kept (looks d) o events (Some x) h p = one-of (HasPut None) (is_wrong o) (Some x) (Some (looked_by events (carrying d x))) h (looked-put events (carrying d x) ∙ h)
plain-kept (takes s) o events None h p = one-of (HasPut None) (is_taken o) None _ tt (one-of (HasPut None) (is_wrong o) None None tt tt)
plain-kept (takes s) o events (Some x) h p = one-of (HasPut None) (is_taken o) _ _ h (one-of (HasPut None) (is_wrong o) (Some x) _ h h)
plain-kept begins o events None h p = tt
plain-kept begins o events (Some x) h p = h
plain-kept ends o events None h p = tt
plain-kept ends o events (Some x) h p = h
plain-kept reads_on o events None h p = tt
plain-kept reads_on o events (Some x) h p = h
plain-kept (seeks start end) o events None h p = one-of (HasPut None) (is_done o) None None tt tt
plain-kept (seeks start end) o events (Some x) h p = one-of (HasPut None) (is_done o) _ (Some x) h h
plain-kept reads_no_more o events None h p = one-of (HasPut None) (is_wrong o) None None tt tt
plain-kept reads_no_more o events (Some x) h p = one-of (HasPut None) (is_wrong o) (Some x) _ h h
plain-kept (renews m) o events None h p = one-of (HasPut None) (is_wrong o) None None tt tt
plain-kept (renews m) o events (Some x) h p = one-of (HasPut None) (is_wrong o) (Some x) _ h h
plain-kept (waits now) o events None h p = tt
plain-kept (waits now) o events (Some x) h p = h
plain-kept (pushes k limit) o events q h p = absurd p
plain-kept feeds o events None h p = tt
plain-kept feeds o events (Some x) h p = elim (is_wrong o) as (λ b. (cond b x (fed_in o events x x.put)).put ≡ None) [ true ↦ h | false ↦ fed-put o events x x.put h h ]
plain-kept goes o events q h p = one-of (HasPut None) (is_wrong o) q None h tt

-- what is no put is shaped
shaped-plain : (q : Option Ongoing) → HasPut None q → IsShaped q
shaped-plain None h = tt
shaped-plain (Some x) h = elim x.put as (λ p. p ≡ None → IfSome p (λ y. x ≡ ongoing_put y)) [ None ↦ λ _. tt | Some p ↦ λ is. absurd (cc) ] h

fed-shaped : (o : ReplyKind) (events : List Event) (x : Ongoing) (p : Option Taking) → x.put ≡ p → IsShaped (Some x) → IsShaped (Some (fed_in o events x p))
fed-shaped o events x None is h = h
fed-shaped o events x (Some p) is h = refl

-- what an open request does makes no put
pub no-push : (a : RequestAct) → IsNoPush (change_of (C.Request a))
no-push Q.Phase = tt
no-push a = tt

-- a call of the right kind leaves a shaped one
shaped-change : (act : Act) (o : ReplyKind) (events : List Event) (q : Option Ongoing) → FindsKind act q → IsShaped q → IsShaped (changed (change_of act) o events q)
shaped-change (C.Files a) o events q finds h = h
shaped-change (C.Put k limit) o events q finds h = one-of IsShaped (is_done o) (Some (ongoing_put (new_put k limit))) q refl h
shaped-change (C.Feed bytes t) o events None finds h = tt
shaped-change (C.Feed bytes t) o events (Some x) finds h = elim (is_wrong o) as (λ b. IsShaped (Some (cond b x (fed_in o events x x.put)))) [ true ↦ h | false ↦ fed-shaped o events x x.put refl h ]
shaped-change C.Drop o events q finds h = one-of IsShaped (is_done o) None q tt h
shaped-change C.Close o events q finds h = one-of IsShaped (is_wrong o) q None h tt
shaped-change (C.Request a) o events None finds h = shaped-plain (changed (change_of (C.Request a)) o events None) (plain-kept (change_of (C.Request a)) o events None tt (no-push a))
shaped-change (C.Request a) o events (Some x) finds h = shaped-plain (changed (change_of (C.Request a)) o events (Some x)) (plain-kept (change_of (C.Request a)) o events (Some x) finds (no-push a))
shaped-change act o events None finds h = shaped-plain (changed (change_of act) o events None) (plain-kept (change_of act) o events None tt tt)
shaped-change act o events (Some x) finds h = shaped-plain (changed (change_of act) o events (Some x)) (plain-kept (change_of act) o events (Some x) finds tt)

shaped-row : (f : Facts) (act : Act) (reply : Reply) (events : List Event) (q : Option Ongoing) → Replies f act q reply events → IsShaped q → IsShaped (row act reply events q)
shaped-row f act reply events q (inl (finds, a)) h = shaped-change act (kind_of_reply reply) events q finds h
shaped-row f act reply events q (inr (why, idle)) h = subst IsShaped (sym (wrong-row act reply events q idle)) h

-- who takes a permit is no put
handed-plain : (p : Option Permit) (q : Option Ongoing) → HasPut None q → HasPut None (option_map (handed_by p) q)
handed-plain p None h = tt
handed-plain p (Some x) h = handed-keeps (HasPut None) (λ x l is. is) p x h

abbrev TakesPlain : Act → ReplyKind → ℕ → Option Ongoing → Type 0
TakesPlain (C.Give to) was_done r q = (to == r) ≡ true → HasPut None q
TakesPlain act o r q = Unit {0}

taken-shaped : (act : Act) (o : ReplyKind) (r : ℕ) (giver q : Option Ongoing) → TakesPlain act o r q → IsShaped q → IsShaped (taken_over act o r giver q)
taken-shaped (C.Give to) was_done r giver q plain h =
    elim (to == r) as (λ b. ((to == r) ≡ b) → IsShaped (cond b (option_map (handed_by (permit_held giver)) q) q)) [
      | true ↦ λ is. shaped-plain (option_map (handed_by (permit_held giver)) q) (handed-plain (permit_held giver) q (plain is))
      | false ↦ λ _. h
    ] refl
taken-shaped act o r giver q plain h = h

taker-plain : (b : Bool) (q : Option Ongoing) → MayTake (cond b (option_map (on_request unheld) q) q) → HasPut None q
taker-plain true None may = absurd may
taker-plain true (Some y) may = may.1
taker-plain false None may = absurd may
taker-plain false (Some y) may = may.1

give-plain : (to : ℕ) (o : ReplyKind) (events : List Event) (b : Bool) (q : Option Ongoing) → HasPut None q → HasPut None (if b then row_by (C.Give to) o events q else q)
give-plain to o events true q h = plain-kept (change_of (C.Give to)) o events q h tt
give-plain to o events false q h = h

given-plain : (f : Facts) (from to : ℕ) (h : List Entry) (reply : Reply) (events : List Event) → Replies f (C.Give to) (request_of from h) reply events → f.taker ≡ taker_in from (C.Give to) h → kind_of_reply reply ≡ was_done → HasPut None (request_of to h)
given-plain f from to h reply events (inl (kind, inl (may, other, does))) taker done = by (request_of from h) may
  where
    by : (q : Option Ongoing) → MayBe f (C.Give to) q → HasPut None (request_of to h)
    by None m = absurd m
    by (Some x) m = taker-plain (from == to) (request_of to h) (subst MayTake taker m.1)
given-plain f from to h reply events (inl (kind, inr (fails, idle))) taker done = let no : was_wrong ≡ was_done = sym (ap kind_of_reply idle.0) ∙ done in absurd (cc)
given-plain f from to h reply events (inr (other, idle)) taker done = let no : was_wrong ≡ was_done = sym (ap kind_of_reply idle.0) ∙ done in absurd (cc)

takes-plain : (f : Facts) (n : ℕ) (act : Act) (h : List Entry) (reply : Reply) (events : List Event) (r : ℕ) → Replies f act (request_of n h) reply events → f.taker ≡ taker_in n act h → TakesPlain act (kind_of_reply reply) r (if n == r then row act reply events (request_of r h) else request_of r h)
takes-plain f from (C.Give to) h reply events r replies taker = by (kind_of_reply reply) refl
  where
    by : (o : ReplyKind) → kind_of_reply reply ≡ o → TakesPlain (C.Give to) o r (if from == r then row_by (C.Give to) (kind_of_reply reply) events (request_of r h) else request_of r h)
    by was_done done = λ same. give-plain to (kind_of_reply reply) events (from == r) (request_of r h) (subst (λ n. HasPut None (request_of n h)) (eqb-true to r same) (given-plain f from to h reply events replies taker done))
    by o done = tt
takes-plain f n act h reply events r replies taker = tt

pub legal_shaped : (age : ℕ) (limits : Limits) (start : Tracked) (h : List Entry) → IsLegal age limits start h → (r : ℕ) → IsShaped (request_of r h)
legal_shaped age limits start [] l r = tt
legal_shaped age limits start (e ∷ h) l r =
    let old = legal_shaped age limits start h l.1 in
    let g = l.0 in
    let n = e.call.request in
    let same = kind-copied g.reply_made e.reply g.copy in
    let mid : Option Ongoing = if n == r then row e.call.act e.reply e.events (request_of r h) else request_of r h in
    let now : IsShaped (row e.call.act e.reply e.events (request_of n h)) = subst IsShaped (sym (row-copied e.call.act g.reply_made e.reply e.events (request_of n h) g.copy)) (shaped-row g.facts e.call.act g.reply_made e.events (request_of n h) g.answers (old n)) in
    taken-shaped e.call.act (kind_of_reply e.reply) r (request_of n h) mid
    (subst (λ o. TakesPlain e.call.act o r (if n == r then row_by e.call.act o e.events (request_of r h) else request_of r h)) (sym same) (takes-plain g.facts n e.call.act h g.reply_made e.events r g.answers l.2))
    (elim (n == r) as (λ b. (n == r) ≡ b → IsShaped (if b then row e.call.act e.reply e.events (request_of r h) else request_of r h)) [
      | true ↦ λ is. subst (λ x. IsShaped (row e.call.act e.reply e.events (request_of x h))) (eqb-true n r is) now
      | false ↦ λ _. old r
    ] refl)

pub wrong-filled : (act : Act) (f : Option Filled) → filled_after act was_wrong [] f ≡ f
wrong-filled (C.Put k limit) f = refl
wrong-filled act f = refl

pub wrong-pieces : (act : Act) (pieces : List Piece) → pieces_on act was_wrong pieces ≡ pieces
wrong-pieces (C.Put k limit) pieces = refl
wrong-pieces act pieces = refl
