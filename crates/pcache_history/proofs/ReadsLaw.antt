-- What a reader has given, over every legal history: a beginning of its write's body, or its range once.
use Rattle.std.proofs.Common.{length-drop, take-append-drop, append-nil, slice_range}
use Rattle.std.specs.Option.{option_map}
use Rattle.std.proofs.lemmas.List.{take-append-le}
use Rattle.pcache_lock.specs.declared.lock.permit.Locked.TheVariants.{Read}
use Rattle.pcache_store.specs.Store.{Written, Reader}
use Rattle.pcache_history.specs.Ongoing.{ends, was_taken, was_waited, was_refused, was_declined, was_other, waited_by, with_given}
use Rattle.pcache_history.specs.Rules.{Begins, Reads}
use Rattle.pcache_history.specs.ReadSoFar.{given_in, read_on, HasRead}
use Rattle.pcache_history.specs.Headline.{ReadsABeginning}
use Rattle.pcache_history.specs.Watching.{waited_on}
use Rattle.pcache_history.proofs.Words.{◌≡◌, ℕ, ◌+◌, ◌≤◌, ◌==◌, Bool, true, false, not, ◌&&◌, nat_lt, cond, if◌then◌else◌, Option, None, Some, IsSome, IfSome, List, [], ◌∷◌, ◌++◌, refl, ap, sym, subst, ◌∙◌, length, length-append, take, drop, take_all, reverse, arith, inl, inr, ◌⊎◌, eqb-true, slot, Meta, Poll, Ready, Pending, Tracked, Limits, Locked, Write, Whole, Part, read_part, end_or, is_forward, Deferred, Decision, is_deferral, with_decision, is_treated_as_miss, disabled_for, disabled_in, renewed, is_hidden, visible, CachePhase, Request, without_reader, HitStatus, Act, Reply, Answer, Entry, Event, begin_of, in_flight, body_of, is_told, Ongoing, Change, fed_in, ongoing_put, opens, closes, stays, turns, turns_by, shuts, looks, takes, begins, reads_on, seeks, reads_no_more, renews, waits, pushes, feeds, goes, change_of, changed, turned_by, shut_by, sought_in, with_sought, ReplyKind, kind_of_reply, was_wrong, was_done, is_wrong, is_done, is_taken, opened, asked, pair_of, carrying, decides, looked_by, placed_by, taken_by, without_pair, began, ended, read_past, has_read, on_request, row_by, row, request_of, after_look, Taking, new_put, events_of, reads, Facts, request_in, IsLegal, IsIdle, release_of, FollowsRule, Replies, read_by}
use Rattle.pcache_base.specs.declared.reason.NoCacheReason.TheVariants as reason
use Rattle.pcache_request.specs.declared.phase.CachePhase.TheVariants as phase
use Rattle.pcache_history.specs.declared.call.Act.TheVariants as C
use Rattle.pcache_history.specs.declared.call.RequestAct.TheVariants as Q
use Rattle.pcache_history.specs.declared.call.Reply.TheVariants as R
use Rattle.pcache_history.specs.declared.entry.Answer.TheVariants as A
use Rattle.pcache_history.specs.declared.entry.Event.TheVariants as E
use Rattle.pcache_history.proofs.Taken.{taken_keeps}
use Rattle.pcache_history.proofs.Copied.{kind-copied}

-- a reader that has given nothing
abbrev IsAtStart : Reader → Type 0
IsAtStart (Whole id body start stop done) = done ≡ false
IsAtStart (Part w place) = place ≡ 0

abbrev FollowsIn : List Event → Ongoing → List ℕ → Type 0
FollowsIn es x got = IfSome x.request.reader (λ reader. HasRead es reader got) × IfSome x.pair (λ p. IsAtStart p.1)

-- a request's reader has given these bytes, and that of its pair none
abbrev Follows : List Event → Option Ongoing → List ℕ → Type 0
Follows es None got = Unit {0}
Follows es (Some x) got = FollowsIn es x got

-- A body only grows at its end.

longer : (place : ℕ) (body more got : List ℕ) → (got ≡ take place body) × (place ≤ length body) → (got ≡ take place (body ++ more)) × (place ≤ length (body ++ more))
longer place body more got h = let long = length-append body more in (h.0 ∙ sym (take-append-le place body more h.1), omega (arith, h.1))

part-stays : (e : Event) (es : List Event) (w place : ℕ) (got : List ℕ) → HasRead es (Part w place) got → HasRead (e ∷ es) (Part w place) got
part-stays (E.Wrote x bytes eof) es w place got h =
    elim (x == w) as (λ b. (got ≡ take place (if b then body_of w es ++ bytes else body_of w es)) × (place ≤ length (if b then body_of w es ++ bytes else body_of w es))) [
      | true ↦ longer place (body_of w es) bytes got h
      | false ↦ h
    ]
part-stays e es w place got h = h

reader-stays : (e : Event) (es : List Event) (reader : Reader) (got : List ℕ) → HasRead es reader got → HasRead (e ∷ es) reader got
reader-stays e es (Whole id body start stop done) got h = h
reader-stays e es (Part w place) got h = part-stays e es w place got h

run-stays : (events es : List Event) (reader : Reader) (got : List ℕ) → HasRead es reader got → HasRead (events ++ es) reader got
run-stays [] es reader got h = h
run-stays (e ∷ events) es reader got h = reader-stays e (events ++ es) reader got (run-stays events es reader got h)

still : (events es : List Event) (q : Option Ongoing) (got : List ℕ) → Follows es q got → Follows (events ++ es) q got
still events es None got h = tt
still events es (Some x) got h =
    (elim x.request.reader as (λ o. IfSome o (λ reader. HasRead es reader got) → IfSome o (λ reader. HasRead (events ++ es) reader got)) [ None ↦ λ _. tt | Some reader ↦ λ k. run-stays events es reader got k ] h.0, h.1)

-- A reader that came to be.

starts : (es : List Event) (reader : Reader) → IsAtStart reader → HasRead es reader []
starts es (Whole id body start stop done) h = ap (λ b. cond b (slice_range body start stop) []) (sym h)
starts es (Part w place) h = subst (λ p. HasRead es (Part w p) []) (sym h) (refl, omega arith)

-- a reader that was sent to another range has given nothing of it
sought-follows : (es : List Event) (start : ℕ) (end : Option ℕ) (o : Option Reader) → IfSome (sought_in start end o) (λ reader. HasRead es reader [])
sought-follows es start end None = tt
sought-follows es start end (Some (Part w place)) = tt
sought-follows es start end (Some (Whole id body from to done)) =
    elim (nat_lt start (length body) && is_forward start end) as (λ b. IfSome (cond b (Some (Whole id body start (end_or end (length body)) false)) None) (λ reader. HasRead es reader [])) [ true ↦ refl | false ↦ tt ]

-- A read.

gave-none : (es : List Event) (reader : Reader) (got : List ℕ) → HasRead es reader got → HasRead es reader (got ++ [])
gave-none es reader got h = subst (HasRead es reader) (sym (append-nil got)) h

gave-rest : (place : ℕ) (body got : List ℕ) → (got ≡ take place body) × (place ≤ length body)
    → (got ++ drop place body ≡ take (place + length (drop place body)) body) × (place + length (drop place body) ≤ length body)
gave-rest place body got h =
    let rest = length-drop place body in
    (ap (λ (xs : List ℕ). xs ++ drop place body) h.0 ∙ take-append-drop place body ∙ sym (take_all (place + length (drop place body)) body (omega (arith, h.1))), omega (arith, h.1))

-- how the result of a read changes a reader of a write, and what it has given
abbrev HasReadPast : List Event → ℕ → ℕ → List ℕ → Poll (Option (List ℕ)) → Type 0
HasReadPast es w place got a = HasRead es (read_past a (Part w place)) (got ++ given_in (E.Read a ∷ []))

gave-part : (es : List Event) (w place : ℕ) (got : List ℕ) (more : Bool) → HasRead es (Part w place) got
    → HasReadPast es w place got (cond (nat_lt place (length (body_of w es))) (Ready (Some (drop place (body_of w es)))) (cond more Pending (Ready None)))
gave-part es w place got more h =
    elim (nat_lt place (length (body_of w es))) as (λ b. HasReadPast es w place got (cond b (Ready (Some (drop place (body_of w es)))) (cond more Pending (Ready None)))) [
      | true ↦ gave-rest place (body_of w es) got h
      | false ↦ elim more as (λ b. HasReadPast es w place got (cond b Pending (Ready None))) [ true ↦ gave-none es (Part w place) got h | false ↦ gave-none es (Part w place) got h ]
    ]

abbrev pub written_as : ℕ → List Event → ℕ × Meta → Written
written_as w es b = record { slot = b.0; meta = b.1; bytes = body_of w es; told = is_told w es; flying = in_flight w es; readers = 0 }

gave : (es : List Event) (reader : Reader) (got : List ℕ) → HasRead es reader got → HasRead (E.Read (reads es reader) ∷ es) (read_past (reads es reader) reader) (got ++ given_in (E.Read (reads es reader) ∷ []))
gave es (Whole id body start stop true) got h = gave-none es (Whole id body start stop true) got h
gave es (Whole id body start stop false) got h = ap (λ (xs : List ℕ). xs ++ slice_range body start stop) h
gave es (Part w place) got h =
    elim (begin_of w es) as (λ o. HasReadPast es w place got (read_part place (option_map (written_as w es) o))) [
      | None ↦ gave-none es (Part w place) got h
      | Some b ↦ gave-part es w place got (in_flight w es && not (is_told w es)) h
    ]

-- What events make of a request.

on-done : (es : List Event) (got : List ℕ) (b : Bool) (p q : Option Ongoing) → Follows es p got → Follows es q got → Follows es (cond b p q) got
on-done es got true p q h k = h
on-done es got false p q h k = k

given-reader : (stale : Bool) (e : Event) (x : Request) → (with_given stale e x).reader ≡ x.reader
given-reader stale (E.Ask k n b) x = refl
given-reader stale e x = refl

pub asked-reader : (stale : Bool) (events : List Event) (x : Request) → (asked stale events x).reader ≡ x.reader
asked-reader stale [] x = refl
asked-reader stale (e ∷ events) x = asked-reader stale events (with_given stale e x) ∙ given-reader stale e x

pair-starts : (a : Answer) → IfSome (pair_of a) (λ p. IsAtStart p.1)
pair-starts A.Nothing = tt
pair-starts (A.Complete m body) = refl
pair-starts (A.Streaming m w) = refl

-- what is handed on has given nothing
seen-starts : (from : Option ℕ) (o : Option (Meta × Reader)) → IfSome o (λ p. IsAtStart p.1) → IfSome (visible from o) (λ p. IsAtStart p.1)
seen-starts from None h = tt
seen-starts from (Some p) h = elim (is_hidden from p.0.created) as (λ b. IfSome (cond b None (Some p)) (λ q. IsAtStart q.1)) [ true ↦ tt | false ↦ h ]

pub decided-reader : (d : Option Decision) (x : Request) → (with_decision d x).reader ≡ x.reader
decided-reader None x = refl
decided-reader (Some d) x = refl

pub decided-held : (d : Option Decision) (x : Request) → (with_decision d x).held ≡ x.held
decided-held None x = refl
decided-held (Some d) x = refl

-- caching that is turned off leaves no reader, or if it was never on all as it was
off-follows : (es : List Event) (got : List ℕ) (x : Request) (p : CachePhase) → IfSome x.reader (λ reader. HasRead es reader got) → IfSome (disabled_in p Deferred x).reader (λ reader. HasRead es reader got)
off-follows es got x (phase.Disabled reason.NeverEnabled) h = h
off-follows es got x p h = tt

looked-on : (es : List Event) (d : Option Decision) (a : Answer) (events : List Event) (got : List ℕ) (x : Ongoing) → FollowsIn es x got → FollowsIn es (after_look d a events x) got
looked-on es d a events got x h =
    let old : IfSome (with_decision d x.request).reader (λ reader. HasRead es reader got) = subst (λ o. IfSome o (λ reader. HasRead es reader got)) (sym (decided-reader d x.request)) h.0 in
    elim (is_deferral d) as (λ b. FollowsIn es (cond b (record { request = disabled_for Deferred (with_decision d x.request); pair = None; carried = None; put = x.put }) (record { request = asked false events (with_decision d x.request); pair = visible x.request.valid_after (pair_of a); carried = x.carried; put = x.put })) got) [
      | true ↦ (off-follows es got (with_decision d x.request) (with_decision d x.request).phase old, tt)
      | false ↦ (subst (λ o. IfSome o (λ reader. HasRead es reader got)) (sym (asked-reader false events (with_decision d x.request))) old, seen-starts x.request.valid_after (pair_of a) (pair-starts a))
    ]

looked-follows : (es events : List Event) (got : List ℕ) (x : Ongoing) → FollowsIn es x got → FollowsIn es (looked_by events x) got
looked-follows es [] got x h = h
looked-follows es (E.Look k a ∷ events) got x h = looked-on es (decides a x) a events got x h
looked-follows es (e ∷ events) got x h = h

placed-follows : (es events : List Event) (s : HitStatus) (x : Request) (p : Option (Meta × Reader)) → IsSome p → IfSome p (λ q. IsAtStart q.1) → IfSome (placed_by s events x p).reader (λ reader. HasRead es reader [])
placed-follows es events s x None some h = cc
placed-follows es events s x (Some p) some h =
    elim (is_treated_as_miss s) as (λ b. IfSome (cond b None (Some p.1)) (λ reader. HasRead es reader [])) [ true ↦ tt | false ↦ starts es p.1 h ]

found-follows : (es events : List Event) (s : HitStatus) (x : Ongoing) (got : List ℕ) (o : ReplyKind) → (is_taken o ≡ true → IsSome x.pair) → FollowsIn es x got
    → Follows es (cond (is_taken o) (Some (taken_by s events x)) (cond (is_wrong o) (Some x) (Some (without_pair x)))) (cond (is_taken o) [] got)
found-follows es events s x got o some h =
    elim (is_taken o) as (λ b. (b ≡ true → IsSome x.pair) → Follows es (cond b (Some (taken_by s events x)) (cond (is_wrong o) (Some x) (Some (without_pair x)))) (cond b [] got)) [
      | true ↦ λ k. (placed-follows es events s x.request x.pair (k refl) h.1, tt)
      | false ↦ λ _. on-done es got (is_wrong o) (Some x) (Some (without_pair x)) h (h.0, tt)
    ] some

-- a reader follows its write from its first byte
began-follows : (es events : List Event) (x : Ongoing) (got : List ℕ) (next k : ℕ) (m : Meta) (joined : Bool) → FollowsIn es x got
    → FollowsIn es (on_request (began joined (E.Begin next k m ∷ events)) x) (cond joined [] got)
began-follows es events x got next k m true h = (starts es (Part next 0) refl, h.1)
began-follows es events x got next k m false h = h

ended-follows : (es events : List Event) (got : List ℕ) (x : Ongoing) → FollowsIn es x got → FollowsIn es (on_request (ended events) x) got
ended-follows es [] got x h = h
ended-follows es (e ∷ events) got x h = h

-- One call.

begin-idle : (es events : List Event) (x : Ongoing) (got : List ℕ) (reply told : Reply) → is_done (kind_of_reply told) ≡ false → FollowsIn es x got → IsIdle told reply events
    → FollowsIn es (on_request (began (is_done (kind_of_reply reply)) events) x) (cond (is_done (kind_of_reply reply)) [] got)
begin-idle es events x got reply told other h a =
    subst (λ y. FollowsIn es (on_request (began (is_done (kind_of_reply y)) events) x) (cond (is_done (kind_of_reply y)) [] got)) (sym a.0)
    (subst (λ xs. FollowsIn es (on_request (began (is_done (kind_of_reply told)) xs) x) (cond (is_done (kind_of_reply told)) [] got)) (sym a.1)
    (subst (λ b. FollowsIn es x (cond b [] got)) (sym other) h))

begin-follows : (f : Facts) (es : List Event) (x : Ongoing) (got : List ℕ) (reply : Reply) (events : List Event) → FollowsIn (reverse events ++ es) x got → Begins f x.request reply events
    → FollowsIn (reverse events ++ es) (on_request (began (is_done (kind_of_reply reply)) events) x) (cond (is_done (kind_of_reply reply)) [] got)
begin-follows f es x got reply events h (inl (e, why, a)) = begin-idle (reverse events ++ es) events x got reply (R.Refused e) refl h a
begin-follows f es x got reply events h (inr (k, m, key, meta, is, told)) =
    subst (λ xs. FollowsIn (reverse events ++ es) (on_request (began (is_done (kind_of_reply reply)) xs) x) (cond (is_done (kind_of_reply reply)) [] got)) (sym is)
    (began-follows (reverse events ++ es) (release_of x.request.held) x got f.next (slot k) m (is_done (kind_of_reply reply)) h)

-- a request after these events of a read
abbrev FollowsRead : List Event → Ongoing → List ℕ → List Event → Type 0
FollowsRead es x got events = FollowsIn (reverse events ++ es) (on_request (has_read events) x) (got ++ given_in events)

none-read : (es : List Event) (x : Ongoing) (got : List ℕ) → FollowsIn es x got → FollowsRead es x got []
none-read es x got h = subst (FollowsIn es x) (sym (append-nil got)) h

-- what the reader of a request gives, by the facts
abbrev GivesRead : List Event → Request → Facts → Type 0
GivesRead es x f = (rd : Reader) → x.reader ≡ Some rd → f.given ≡ reads es rd

read-follows : (f : Facts) (es : List Event) (x : Ongoing) (got : List ℕ) (reply : Reply) (events : List Event) → GivesRead es x.request f → IsSome x.request.reader → FollowsIn es x got → Reads f reply events → FollowsRead es x got events
read-follows f es x got reply events says some h (inl a) = subst (FollowsRead es x got) (sym a.1.1) (none-read es x got h)
read-follows f es x got reply events says some h (inr (done, told)) = by x.request.reader refl some
  where
    by : (o : Option Reader) → x.request.reader ≡ o → IsSome o → FollowsRead es x got events
    by None is none = absurd (cc)
    by (Some reader) is _ =
        let a = reads es reader in
        let had : HasRead es reader got = subst (λ o. IfSome o (λ y. HasRead es y got)) is h.0 in
        subst (FollowsRead es x got) (sym (done ∙ ap (λ g. E.Read g ∷ []) (says reader is)))
        (subst (λ o. IfSome (option_map (read_past a) o) (λ y. HasRead (E.Read a ∷ es) y (got ++ given_in (E.Read a ∷ [])))) (sym is) (gave es reader got had), h.1)

-- a wait leaves the reader of the body
pub waited-reader : (o : ReplyKind) (now : ℕ) (x : Request) → (waited_by o now x).reader ≡ x.reader
waited-reader was_wrong now x = refl
waited-reader was_done now x = refl
waited-reader was_taken now x = refl
waited-reader was_other now x = refl
waited-reader (was_declined reason) now x = refl
waited-reader (was_refused kind) now x = refl
waited-reader (was_waited a) now x = by x.held
  where
    by : (h : Option Locked) → (waited_on a now h x).reader ≡ x.reader
    by None = refl
    by (Some (Write p)) = refl
    by (Some (Read rd)) = refl

-- What a clause promises of a change that is more than a turn of the request.

abbrev Promises : Facts → Change → Ongoing → Reply → List Event → Type 0
Promises f (takes s) x reply events = is_taken (kind_of_reply reply) ≡ true → IsSome x.pair
Promises f begins x reply events = IsIdle R.WrongCall reply events ⊎ Begins f x.request reply events
Promises f reads_on x reply events = (events ≡ []) ⊎ (IsSome x.request.reader × Reads f reply events)
Promises f _ x reply events = Unit {0}

promised : (f : Facts) (act : Act) (x : Ongoing) (reply : Reply) (events : List Event) → FollowsRule f act (Some x) reply events → Promises f (change_of act) x reply events
promised f (C.Request (Q.Found s t)) x reply events (inl a) = λ _. a.0.1
promised f (C.Request (Q.Found s t)) x reply events (inr a) = λ is. absurd (subst (λ y. is_taken (kind_of_reply y) ≡ true → ⊥) (sym a.1.0) (λ e. cc) is)
promised f (C.Request Q.Begin) x reply events (inl a) = inr a.2
promised f (C.Request Q.Begin) x reply events (inr a) = inl a.1
promised f (C.Request Q.Read) x reply events (inl a) = inr (a.0, a.2)
promised f (C.Request Q.Read) x reply events (inr a) = inl a.1.1
promised f act x reply events a = tt

-- of a wrong call
promised-idle : (f : Facts) (act : Act) (x : Ongoing) (reply : Reply) (events : List Event) → IsIdle R.WrongCall reply events → Promises f (change_of act) x reply events
promised-idle f (C.Request (Q.Found s t)) x reply events a = λ is. absurd (subst (λ y. is_taken (kind_of_reply y) ≡ true → ⊥) (sym a.0) (λ e. cc) is)
promised-idle f (C.Request Q.Begin) x reply events a = inl a
promised-idle f (C.Request Q.Read) x reply events a = inl a.1
promised-idle f act x reply events a = tt

promised-of : (f : Facts) (act : Act) (x : Ongoing) (reply : Reply) (events : List Event) → Replies f act (Some x) reply events → Promises f (change_of act) x reply events
promised-of f act x reply events (inl a) = promised f act x reply events a.1
promised-of f act x reply events (inr a) = promised-idle f act x reply events a.1

module _ (f : Facts) (es events : List Event) (reply : Reply) (got : List ℕ) where
  abbrev after : List Event
  after = reverse events ++ es

  abbrev o : ReplyKind
  o = kind_of_reply reply

  abbrev FollowsTo : Change → Option Ongoing → Type 0
  FollowsTo change q = Follows after (changed change o events q) (read_on change o events got)

  follow : (change : Change) (x : Ongoing) → GivesRead es x.request f → Promises f change x reply events → FollowsIn es x got → FollowsIn after x got → FollowsTo change (Some x)
  follow (opens options) x says a old h = elim (is_done o) as (λ b. Follows after (cond b (Some (opened options)) (Some x)) (cond b [] got)) [ true ↦ (tt, tt) | false ↦ h ]
  follow closes x says a old h = on-done after got (is_done o) None (Some x) tt h
  follow stays x says a old h = h
  follow (turns g leaves_pair) x says a old h =
      on-done after got (is_done o) (Some (turned_by g leaves_pair x)) (Some x) (h.0, elim leaves_pair as (λ b. IfSome (cond b None x.pair) (λ p. IsAtStart p.1)) [ true ↦ tt | false ↦ h.1 ]) h
  follow (turns_by g) x says a old h = on-done after got (is_done o) (Some (turned_by (g x.pair) false x)) (Some x) (h.0, h.1) h
  follow (shuts g) x says a old h = on-done after got (is_done o) (Some (shut_by g x)) (Some x) (tt, tt) h
  follow (looks d) x says a old h = on-done after got (is_wrong o) (Some x) (Some (looked_by events (carrying d x))) h (looked-follows after events got (carrying d x) h)
  follow (takes s) x says a old h = found-follows after events s x got o a h
  follow begins x says (inl a) old h = begin-idle after events x got reply R.WrongCall refl h a
  follow begins x says (inr a) old h = begin-follows f es x got reply events h a
  follow ends x says a old h = ended-follows after events got x h
  follow reads_on x says (inl a) old h = subst (FollowsRead es x got) (sym a) (none-read es x got old)
  follow reads_on x says (inr a) old h = read-follows f es x got reply events says a.0 old a.1
  follow (seeks start end) x says a old h =
      elim (is_done o) as (λ b. Follows after (cond b (Some (on_request (with_sought start end) x)) (Some x)) (cond b [] got)) [ true ↦ (sought-follows after start end x.request.reader, h.1) | false ↦ h ]
  follow reads_no_more x says a old h = on-done after got (is_wrong o) (Some x) (Some (on_request without_reader x)) h (tt, h.1)
  follow (renews m) x says a old h = on-done after got (is_wrong o) (Some x) (Some (on_request (renewed m) x)) h (h.0, h.1)
  follow (waits now) x says a old h = (subst (λ r. IfSome r (λ y. HasRead after y got)) (sym (waited-reader o now x.request)) h.0, h.1)
  follow (pushes k limit) x says a old h = on-done after got (is_done o) (Some (ongoing_put (new_put k limit))) (Some x) (tt, tt) h
  follow feeds x says a old h = fed-follows x.put
    where
      fed-on : (p : Option Taking) → Follows after (Some (fed_in o events x p)) got
      fed-on None = h
      fed-on (Some p) = (tt, tt)

      fed-follows : (p : Option Taking) → Follows after (Some (cond (is_wrong o) x (fed_in o events x p))) got
      fed-follows p = elim (is_wrong o) as (λ b. Follows after (Some (cond b x (fed_in o events x p))) got) [ true ↦ h | false ↦ fed-on p ]
  follow goes x says a old h = on-done after got (is_wrong o) (Some x) None h tt

  -- if no request is open
  follow-none : (change : Change) → FollowsTo change None
  follow-none (opens options) = elim (is_done o) as (λ b. Follows after (cond b (Some (opened options)) None) (cond b [] got)) [ true ↦ (tt, tt) | false ↦ tt ]
  follow-none closes = on-done after got (is_done o) None None tt tt
  follow-none stays = tt
  follow-none (turns g leaves_pair) = on-done after got (is_done o) None None tt tt
  follow-none (turns_by g) = on-done after got (is_done o) None None tt tt
  follow-none (shuts g) = on-done after got (is_done o) None None tt tt
  follow-none (looks d) = on-done after got (is_wrong o) None None tt tt
  follow-none (takes s) = let got = cond (is_taken o) [] got in on-done after got (is_taken o) None (cond (is_wrong o) None None) tt (on-done after got (is_wrong o) None None tt tt)
  follow-none begins = tt
  follow-none ends = tt
  follow-none reads_on = tt
  follow-none (seeks start end) = elim (is_done o) as (λ b. Follows after (cond b None None) (cond b [] got)) [ true ↦ tt | false ↦ tt ]
  follow-none reads_no_more = on-done after got (is_wrong o) None None tt tt
  follow-none (renews m) = on-done after got (is_wrong o) None None tt tt
  follow-none (waits now) = tt
  follow-none (pushes k limit) = on-done after got (is_done o) (Some (ongoing_put (new_put k limit))) None (tt, tt) tt
  follow-none feeds = tt
  follow-none goes = on-done after got (is_wrong o) None None tt tt

-- one call
follow-call : (f : Facts) (es : List Event) (act : Act) (q : Option Ongoing) (reply : Reply) (events : List Event) (got : List ℕ) → GivesRead es (request_in q) f → Replies f act q reply events → Follows es q got → Follows (reverse events ++ es) q got
    → Follows (reverse events ++ es) (row act reply events q) (read_on (change_of act) (kind_of_reply reply) events got)
follow-call f es act None reply events got k a old h = follow-none f es events reply got (change_of act)
follow-call f es act (Some x) reply events got k a old h = follow f es events reply got (change_of act) x k (promised-of f act x reply events a) old h

-- Histories.

follows-at : (age : ℕ) (limits : Limits) (start : Tracked) (r : ℕ) (h : List Entry) → IsLegal age limits start h → Follows (events_of h) (request_of r h) (read_by r h)
follows-at age limits start r [] l = tt
follows-at age limits start r (e ∷ h) l =
    let es = events_of h in
    let g = l.0 in
    let old = follows-at age limits start r h l.1 in
    let now = still (reverse e.events) es (request_of r h) (read_by r h) old in
    taken_keeps (λ q. Follows (reverse e.events ++ es) q (read_by r (e ∷ h))) (λ x l is. is) e.call.act (kind_of_reply e.reply) r (request_of e.call.request h) (if e.call.request == r then row e.call.act e.reply e.events (request_of r h) else request_of r h) (elim (e.call.request == r) as (λ b. (e.call.request == r) ≡ b
    → Follows (reverse e.events ++ es) (if b then row e.call.act e.reply e.events (request_of r h) else request_of r h) (if b then read_on (change_of e.call.act) (kind_of_reply e.reply) e.events (read_by r h) else read_by r h)) [
      | true ↦ λ is.
          let named : request_of e.call.request h ≡ request_of r h = ap (λ n. request_of n h) (eqb-true e.call.request r is) in
          subst (λ o. Follows (reverse e.events ++ es) (row_by e.call.act o e.events (request_of r h)) (read_on (change_of e.call.act) o e.events (read_by r h))) (sym (kind-copied g.reply_made e.reply g.copy))
          (follow-call g.facts es e.call.act (request_of r h) g.reply_made e.events (read_by r h) (subst (λ q. GivesRead es (request_in q) g.facts) named g.says.given) (subst (λ q. Replies g.facts e.call.act q g.reply_made e.events) named g.answers) old now)
      | false ↦ λ _. now
    ] refl)

pub reads_a_beginning : ReadsABeginning
reads_a_beginning age limits start before r x reader l is has =
    let h = subst (λ q. Follows (events_of before) q (read_by r before)) is (follows-at age limits start r before l) in
    subst (λ o. IfSome o (λ y. HasRead (events_of before) y (read_by r before))) has h.0
