-- What is read through a hit is the body that a look-up of its request found, or a write that was begun.
use Rattle.std.specs.Option.{option_map}
use Rattle.pcache_store.specs.Store.{Reader}
use Rattle.pcache_history.specs.Headline.{FollowsAWrite, IsFoundBy, ReadsWhatWasFound, is_opening, opens_under}
use Rattle.pcache_history.specs.Ongoing.{ends, pair_reader}
use Rattle.pcache_history.proofs.Words.{◌≡◌, ℕ, ◌==◌, ◌&&◌, ◌||◌, nat_lt, length, Bool, true, false, cond, if◌then◌else◌, Option, None, Some, IsSome, List, [], ◌∷◌, ◌++◌, reverse, refl, ap, sym, subst, ◌∙◌, list_any, and_parts, eqb-true, Tracked, Limits, Meta, numbered, Poll, Ready, Pending, Deferred, Decision, is_deferral, with_decision, is_treated_as_miss, disabled_for, disabled_in, renewed, is_hidden, visible, CachePhase, Request, without_reader, HitStatus, Whole, Part, end_or, is_forward, Act, Answer, Entry, Event, begin_of, is_open, option_any, Ongoing, Change, fed_in, ongoing_put, opens, closes, stays, turns, turns_by, shuts, looks, takes, begins, reads_on, seeks, reads_no_more, renews, waits, pushes, feeds, goes, change_of, changed, turned_by, shut_by, sought_in, with_sought, ReplyKind, kind_of_reply, is_wrong, is_done, is_taken, opened, asked, carrying, decides, looked_by, pair_of, placed_by, taken_by, without_pair, began, ended, read_past, has_read, on_request, row, row_by, request_of, after_look, Finds, events_of, Taking, new_put, IsLegal}
use Rattle.pcache_base.specs.declared.reason.NoCacheReason.TheVariants as reason
use Rattle.pcache_request.specs.declared.phase.CachePhase.TheVariants as phase
use Rattle.pcache_history.specs.declared.call.Act.TheVariants as C
use Rattle.pcache_history.specs.declared.entry.Answer.TheVariants as A
use Rattle.pcache_history.specs.declared.entry.Event.TheVariants as E
use Rattle.pcache_history.proofs.Taken.{taken_keeps}
use Rattle.pcache_history.proofs.AnswersLaw.{legal-part, looks_are_true}
use Rattle.pcache_history.proofs.WriteLaws.{reads_the_last}
use Rattle.pcache_history.proofs.Runs.{turned}
use Rattle.pcache_history.proofs.Sums.{same-number}
use Rattle.pcache_history.proofs.ReadsLaw.{asked-reader, decided-reader, waited-reader}

-- what may be read: a complete body, or a write
data Source : Type 0 where
  of_body : (body : List ℕ) → Source
  of_write : (w : ℕ) → Source

-- what a reader reads is one of these
abbrev IsOf : (Source → Type 0) → Option Reader → Type 0
IsOf P None = Unit {0}
IsOf P (Some (Whole id body start stop done)) = P (of_body body)
IsOf P (Some (Part w place)) = P (of_write w)

abbrev AreOf : (Source → Type 0) → Option Ongoing → Type 0
AreOf P None = Unit {0}
AreOf P (Some x) = IsOf P x.request.reader × IsOf P (pair_reader x.pair)

is-of-more : (P Q : Source → Type 0) (o : Option Reader) → ((from : Source) → P from → Q from) → IsOf P o → IsOf Q o
is-of-more P Q None more h = tt
is-of-more P Q (Some (Whole id body start stop done)) more h = more (of_body body) h
is-of-more P Q (Some (Part w place)) more h = more (of_write w) h

are-of-more : (P Q : Source → Type 0) (q : Option Ongoing) → ((from : Source) → P from → Q from) → AreOf P q → AreOf Q q
are-of-more P Q None more h = tt
are-of-more P Q (Some x) more h = (is-of-more P Q x.request.reader more h.0, is-of-more P Q (pair_reader x.pair) more h.1)

either : (P : Source → Type 0) (b : Bool) (p q : Option Ongoing) → AreOf P p → AreOf P q → AreOf P (cond b p q)
either P true p q h k = h
either P false p q h k = k

-- what a look-up's result reads
abbrev FoundOf : (Source → Type 0) → Answer → Type 0
FoundOf P a = IsOf P (pair_reader (pair_of a))

-- one change, after which what a look-up of it found is one of these, and so is the write that it began
module _ (P : Source → Type 0) (events : List Event) (answered : (k : ℕ) (a : Answer) (rest : List Event) → events ≡ E.Look k a ∷ rest → FoundOf P a)
    (joined : (w k : ℕ) (m : Meta) (rest : List Event) → events ≡ E.Begin w k m ∷ rest → P (of_write w)) (o : ReplyKind) where
  seen-of : (from : Option ℕ) (p : Option (Meta × Reader)) → IsOf P (pair_reader p) → IsOf P (pair_reader (visible from p))
  seen-of from None h = tt
  seen-of from (Some p) h = elim (is_hidden from p.0.created) as (λ b. IsOf P (pair_reader (cond b None (Some p)))) [ true ↦ tt | false ↦ h ]

  off-of : (x : Request) (p : CachePhase) → IsOf P x.reader → IsOf P (disabled_in p Deferred x).reader
  off-of x (phase.Disabled reason.NeverEnabled) h = h
  off-of x p h = tt

  looked-on : (d : Option Decision) (a : Answer) (es : List Event) (x : Ongoing) → AreOf P (Some x) → IsOf P (pair_reader (pair_of a)) → AreOf P (Some (after_look d a es x))
  looked-on d a es x h k =
      let old : IsOf P (with_decision d x.request).reader = subst (IsOf P) (sym (decided-reader d x.request)) h.0 in
      elim (is_deferral d) as (λ b. AreOf P (Some (cond b (record { request = disabled_for Deferred (with_decision d x.request); pair = None; carried = None; put = x.put }) (record { request = asked false es (with_decision d x.request); pair = visible x.request.valid_after (pair_of a); carried = x.carried; put = x.put })))) [
        | true ↦ (off-of (with_decision d x.request) (with_decision d x.request).phase old, tt)
        | false ↦ (subst (IsOf P) (sym (asked-reader false es (with_decision d x.request))) old, seen-of x.request.valid_after (pair_of a) k)
      ]

  looked : (x : Ongoing) (es : List Event) → events ≡ es → AreOf P (Some x) → AreOf P (Some (looked_by es x))
  looked x [] is h = h
  looked x (E.Look k a ∷ es) is h = looked-on (decides a x) a es x h (answered k a es is)
  looked x (e ∷ es) is h = h

  placed-of : (s : HitStatus) (x : Request) (p : Option (Meta × Reader)) → IsOf P x.reader → IsOf P (pair_reader p) → IsOf P (placed_by s events x p).reader
  placed-of s x None h k = h
  placed-of s x (Some p) h k = elim (is_treated_as_miss s) as (λ b. IsOf P (cond b None (Some p.1))) [ true ↦ tt | false ↦ k ]

  began-of : (follows : Bool) (x : Request) (es : List Event) → events ≡ es → IsOf P x.reader → IsOf P (began follows es x).reader
  began-of follows x [] is h = h
  began-of true x (E.Begin w k m ∷ es) is h = joined w k m es is
  began-of false x (E.Begin w k m ∷ es) is h = h
  began-of follows x (e ∷ es) is h = h

  ended-of : (x : Request) (es : List Event) → IsOf P x.reader → IsOf P (ended es x).reader
  ended-of x [] h = h
  ended-of x (e ∷ es) h = h

  past-of : (a : Poll (Option (List ℕ))) (r : Option Reader) → IsOf P r → IsOf P (option_map (read_past a) r)
  past-of a None h = tt
  past-of a (Some (Whole id body start stop done)) h = h
  past-of (Ready (Some bs)) (Some (Part w place)) h = h
  past-of (Ready None) (Some (Part w place)) h = h
  past-of Pending (Some (Part w place)) h = h

  read-of : (x : Request) (es : List Event) → IsOf P x.reader → IsOf P (has_read es x).reader
  read-of x [] h = h
  read-of x (E.Read a ∷ es) h = past-of a x.reader h
  read-of x (e ∷ es) h = h

  -- another range of the same body
  sought-of : (start : ℕ) (end : Option ℕ) (r : Option Reader) → IsOf P r → IsOf P (sought_in start end r)
  sought-of start end None h = tt
  sought-of start end (Some (Part w place)) h = tt
  sought-of start end (Some (Whole id body from to done)) h =
      elim (nat_lt start (length body) && is_forward start end) as (λ b. IsOf P (cond b (Some (Whole id body start (end_or end (length body)) false)) None)) [ true ↦ h | false ↦ tt ]

  change-of : (change : Change) (q : Option Ongoing) → AreOf P q → AreOf P (changed change o events q)
  change-of (opens options) q h = either P (is_done o) (Some (opened options)) q (tt, tt) h
  change-of closes q h = either P (is_done o) None q tt h
  change-of stays q h = h
  change-of (turns f leaves_pair) None h = either P (is_done o) None None tt tt
  change-of (turns f leaves_pair) (Some x) h =
      either P (is_done o) (Some (turned_by f leaves_pair x)) (Some x) (h.0, elim leaves_pair as (λ b. IsOf P (pair_reader (cond b None x.pair))) [ true ↦ tt | false ↦ h.1 ]) h
  change-of (turns_by f) None h = either P (is_done o) None None tt tt
  change-of (turns_by f) (Some x) h = either P (is_done o) (Some (turned_by (f x.pair) false x)) (Some x) (h.0, h.1) h
  change-of (shuts f) None h = either P (is_done o) None None tt tt
  change-of (shuts f) (Some x) h = either P (is_done o) (Some (shut_by f x)) (Some x) (tt, tt) h
  change-of (looks d) None h = either P (is_wrong o) None None tt tt
  change-of (looks d) (Some x) h = either P (is_wrong o) (Some x) (Some (looked_by events (carrying d x))) h (looked (carrying d x) events refl h)
  change-of (takes s) None h = either P (is_taken o) None (cond (is_wrong o) None None) tt (either P (is_wrong o) None None tt tt)
  change-of (takes s) (Some x) h =
      either P (is_taken o) (Some (taken_by s events x)) (cond (is_wrong o) (Some x) (Some (without_pair x))) (placed-of s x.request x.pair h.0 h.1, tt) (either P (is_wrong o) (Some x) (Some (without_pair x)) h (h.0, tt))
  change-of begins None h = tt
  change-of begins (Some x) h = (began-of (is_done o) x.request events refl h.0, h.1)
  change-of ends None h = tt
  change-of ends (Some x) h = (ended-of x.request events h.0, h.1)
  change-of reads_on None h = tt
  change-of reads_on (Some x) h = (read-of x.request events h.0, h.1)
  change-of (seeks start end) None h = either P (is_done o) None None tt tt
  change-of (seeks start end) (Some x) h = either P (is_done o) (Some (on_request (with_sought start end) x)) (Some x) (sought-of start end x.request.reader h.0, h.1) h
  change-of reads_no_more None h = either P (is_wrong o) None None tt tt
  change-of reads_no_more (Some x) h = either P (is_wrong o) (Some x) (Some (on_request without_reader x)) h (tt, h.1)
  change-of (renews m) None h = either P (is_wrong o) None None tt tt
  change-of (renews m) (Some x) h = either P (is_wrong o) (Some x) (Some (on_request (renewed m) x)) h (h.0, h.1)
  change-of (waits now) None h = tt
  change-of (waits now) (Some x) h = (subst (IsOf P) (sym (waited-reader o now x.request)) h.0, h.1)
  change-of (pushes k limit) q h = either P (is_done o) (Some (ongoing_put (new_put k limit))) q (tt, tt) h
  change-of feeds None h = tt
  change-of feeds (Some x) h = fed-of x.put
    where
      fed-on : (p : Option Taking) → AreOf P (Some (fed_in o events x p))
      fed-on None = h
      fed-on (Some p) = (tt, tt)

      fed-of : (p : Option Taking) → AreOf P (Some (cond (is_wrong o) x (fed_in o events x p)))
      fed-of p = elim (is_wrong o) as (λ b. AreOf P (Some (cond b x (fed_in o events x p)))) [ true ↦ h | false ↦ fed-on p ]
  change-of goes q h = either P (is_wrong o) q None h tt

  -- a request that was opened reads nothing
  opened-of : (act : Act) (q : Option Ongoing) → is_opening act && is_done o ≡ true → AreOf P (row_by act o events q)
  opened-of (C.Open options) q is = subst (λ b. AreOf P (cond b (Some (opened options)) q)) (sym is) (tt, tt)
  opened-of act q is = absurd (cc)

-- ---- what was found

-- a body that is read was found by a look-up of the open request
abbrev IsFoundIn : List Entry → ℕ → Source → Type 0
IsFoundIn h r (of_body body) = IsFoundBy h r body
IsFoundIn h r (of_write w) = Unit {0}

-- an older look-up stands in a longer history
found-more : (e : Entry) (h : List Entry) (r : ℕ) → opens_under r e ≡ false → (from : Source) → IsFoundIn h r from → IsFoundIn (e ∷ h) r from
found-more e h r closed (of_body body) f = (e ∷ f.0, f.1, f.2, f.3, f.4, f.5, ap (λ xs. e ∷ xs) f.6, ap (λ b. b || list_any (opens_under r) f.0) closed ∙ f.7, f.8, f.9)
found-more e h r closed (of_write w) f = tt

now-found : (e : Entry) (h : List Entry) (r : ℕ) → e.call.request ≡ r → (k : ℕ) (a : Answer) (rest : List Event) → e.events ≡ E.Look k a ∷ rest → FoundOf (IsFoundIn (e ∷ h) r) a
now-found e h r at k A.Nothing rest is = tt
now-found e h r at k (A.Complete m body) rest is = ([], e, h, k, m, rest, refl, refl, at, is)
now-found e h r at k (A.Streaming m w) rest is = tt

held-found : (r : ℕ) (h : List Entry) → AreOf (IsFoundIn h r) (request_of r h)
held-found r [] = tt
held-found r (e ∷ h) =
    let q = request_of r h in
    let P = IsFoundIn (e ∷ h) r in
    let o = kind_of_reply e.reply in
    let old : opens_under r e ≡ false → AreOf P q = λ closed. are-of-more (IsFoundIn h r) P q (found-more e h r closed) (held-found r h) in
    taken_keeps (AreOf P) (λ x l is. is) e.call.act o r (request_of e.call.request h) (if e.call.request == r then row e.call.act e.reply e.events q else q) (elim (e.call.request == r) as (λ b. (e.call.request == r) ≡ b → AreOf P (if b then row e.call.act e.reply e.events q else q)) [
      | true ↦ λ is.
          let found = now-found e h r (eqb-true e.call.request r is) in
          elim (is_opening e.call.act && is_done o) as (λ b. (is_opening e.call.act && is_done o) ≡ b → AreOf P (row e.call.act e.reply e.events q)) [
            | true ↦ λ opening. opened-of P e.events found (λ w k m rest all. tt) o e.call.act q opening
            | false ↦ λ no. change-of P e.events found (λ w k m rest all. tt) o (change_of e.call.act) q (old (ap (λ b. b && (is_opening e.call.act && is_done o)) is ∙ no))
          ] refl
      | false ↦ λ no. old (ap (λ b. b && (is_opening e.call.act && is_done o)) no)
    ] refl)

pub reads_what_was_found : ReadsWhatWasFound
reads_what_was_found age limits start h r x id body from to done l is has =
    let all : AreOf (IsFoundIn h r) (Some x) = subst (AreOf (IsFoundIn h r)) is (held-found r h) in
    let f : IsFoundBy h r body = subst (IsOf (IsFoundIn h r)) has all.0 in
    let at = legal-part age limits start f.0 f.1 f.2 (subst (IsLegal age limits start) f.6 l) in
    let last = reads_the_last age limits start f.2 f.3 f.4 body at.1 (looks_are_true age limits start f.2 f.1 f.3 (A.Complete f.4 body) f.5 at f.9) in
    (f, last.0, last.1, last.2, last.3)

-- ---- what was begun

-- a write that is read was begun
abbrev IsBegunIn : List Event → Source → Type 0
IsBegunIn es (of_body body) = Unit {0}
IsBegunIn es (of_write w) = IsSome (begin_of w es)

begun-next : (w : ℕ) (e : Event) (es : List Event) → IsSome (begin_of w es) → IsSome (begin_of w (e ∷ es))
begun-next w (E.Begin x k m) es some = elim (x == w) as (λ b. IsSome (if b then Some (k, numbered x m) else begin_of w es)) [ true ↦ refl | false ↦ some ]
begun-next w e es some = some

begun-more : (events es : List Event) (from : Source) → IsBegunIn es from → IsBegunIn (events ++ es) from
begun-more events es (of_body body) b = tt
begun-more [] es (of_write w) b = b
begun-more (e ∷ events) es (of_write w) b = begun-next w e (events ++ es) (begun-more events es (of_write w) b)

now-begun : (w k : ℕ) (m : Meta) (rest es : List Event) → IsSome (begin_of w (reverse (E.Begin w k m ∷ rest) ++ es))
now-begun w k m rest es =
    subst (λ xs. IsSome (begin_of w xs)) (sym (turned (E.Begin w k m) rest es))
    (begun-more (reverse rest) (E.Begin w k m ∷ es) (of_write w) (subst (λ b. IsSome (if b then Some (k, numbered w m) else begin_of w es)) (sym (same-number w)) refl))

-- what was found in flight was begun
open-begun : (k w : ℕ) (es : List Event) → is_open k w es ≡ true → IsSome (begin_of w es)
open-begun k w es flies = elim (begin_of w es) as (λ o. option_any (λ b. b.0 == k) o ≡ true → IsSome o) [ None ↦ λ no. absurd (cc) | Some b ↦ λ _. refl ] (and_parts _ _ flies).0

found-begun : (k : ℕ) (a : Answer) (es : List Event) → Finds es k a → FoundOf (IsBegunIn es) a
found-begun k A.Nothing es finds = tt
found-begun k (A.Complete m body) es finds = tt
found-begun k (A.Streaming m w) es finds = open-begun k w es finds.0

found-of-more : (P Q : Source → Type 0) (a : Answer) → ((from : Source) → P from → Q from) → FoundOf P a → FoundOf Q a
found-of-more P Q a more f = is-of-more P Q (pair_reader (pair_of a)) more f

held-begun : (age : ℕ) (limits : Limits) (start : Tracked) (r : ℕ) (h : List Entry) → IsLegal age limits start h → AreOf (IsBegunIn (events_of h)) (request_of r h)
held-begun age limits start r [] l = tt
held-begun age limits start r (e ∷ h) l =
    let q = request_of r h in
    let es = events_of h in
    let P = IsBegunIn (reverse e.events ++ es) in
    let old : AreOf P q = are-of-more (IsBegunIn es) P q (begun-more (reverse e.events) es) (held-begun age limits start r h l.1) in
    taken_keeps (AreOf P) (λ x l is. is) e.call.act (kind_of_reply e.reply) r (request_of e.call.request h) (if e.call.request == r then row e.call.act e.reply e.events q else q) (elim (e.call.request == r) as (λ b. AreOf P (if b then row e.call.act e.reply e.events q else q)) [
      | true ↦ change-of P e.events
          (λ k a rest is. found-of-more (IsBegunIn es) P a (begun-more (reverse e.events) es) (found-begun k a es (looks_are_true age limits start h e k a rest l is)))
          (λ w k m rest is. subst (λ xs. IsSome (begin_of w (reverse xs ++ es))) (sym is) (now-begun w k m rest es))
          (kind_of_reply e.reply) (change_of e.call.act) q old
      | false ↦ old
    ])

pub follows_a_write : FollowsAWrite
follows_a_write age limits start h r x w place l is has =
    let all : AreOf (IsBegunIn (events_of h)) (Some x) = subst (AreOf (IsBegunIn (events_of h))) is (held-begun age limits start r h l) in
    subst (IsOf (IsBegunIn (events_of h))) has all.0
