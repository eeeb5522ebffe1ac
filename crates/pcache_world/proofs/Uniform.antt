-- One call over a sound world, whatever call it is: its reply by the facts of the parts, and its effect on them by its events,
-- keep the invariant of a world's parts, and its entry is one that the history gives.
use Rattle.std.proofs.Common.{option_map}
use Rattle.pcache_request.specs.Requests.{Request}
use Rattle.pcache_lock.specs.declared.lock.permit.Locked.TheVariants.{Read}
use Rattle.pcache_history.specs.declared.call.Act.{Act}
use Rattle.pcache_history.specs.Due.{MayCome}
use Rattle.pcache_history.specs.Facts.{Says}
use Rattle.pcache_world.specs.PartFacts.{given_by, told_of, untouched_for, size_for}
use Rattle.pcache_history.proofs.Taken.{no_taker, not_taken}
use Rattle.pcache_world.proofs.Words.{◌≡◌, ℕ, ◌+◌, ◌^◌, ◌<◌, ◌==◌, true, false, cond, Option, None, Some, is_some, List, [], ◌∷◌, ◌++◌, refl, ap, sym, subst, ◌∙◌, reverse, both_ways, eq-eqb, eqb-true, nat_cmp, FinMap, get, remove, slot, Tracked, Limits, found_for, Locks, Locked, Write, too_old_for, unusable_in, wait_result, Store, number_of_body, Call, Reply, Entry, Event, Deed, deeds_in, deeds_of, held_in, makes, makes_of, owes, AreDue, IsNext, KeepsKey, MaySettle, Owed, in_flight, tracked, Facts, request_in, IsEarly, facts_for, there_for, complete_for, number_for, Ongoing, kind_of_reply, request_of, row, taken_over, taker_in, IsOfOne, untold, untold_lock, untold_read_lock, untold_request, events_of, HasAny, Gives, IsLegal, Holds, IsTable, locks_read, read_locks, Moves, at_call, reads_of, IsCopy, Replies, readers, AllHold, IsSound, AreOngoing, Turn, finds_too_old, wait_of, kind-copied, row-copied}
use Rattle.pcache_lock.specs.Permits as permits
use Rattle.pcache_history.specs.declared.call.Act.TheVariants as C
use Rattle.pcache_history.specs.declared.entry.Event.TheVariants as E
use Rattle.pcache_world.proofs.Counts.{reader-follows, write-flies}
use Rattle.pcache_world.proofs.MovedState.{Flies, Done, set_to, readers-split, readers-set, moved-kept}
use Rattle.pcache_world.proofs.LockKept.{age-kept, holds-kept, holds-none, others-hold, table-kept}
use Rattle.pcache_world.proofs.LockWatch.{too-old-is, too-old-untold, wait-is, wait-untold}
use Rattle.pcache_world.proofs.Opened.{get-set_to, open-after}
use Rattle.pcache_world.proofs.ReadLocks.{lock-counted, locks-moved}
use Rattle.pcache_world.proofs.SoundOf.{sound-of}
use Rattle.pcache_world.proofs.StateAnswers.{finds-is, any-is, reads-is, stands-is, told-is, size-is}
use Rattle.pcache_world.proofs.States.{state-same}
use Rattle.pcache_world.proofs.Untold.{replies-untold, deeds-untold, keeps-untold, makes-untold, row-at}
use Rattle.pcache_world.proofs.Waiting.{call-steps, given-after, locked-after}

-- the write that an open request makes is in flight
pub held-flies : (es : List Event) (all : FinMap nat_cmp Ongoing) → AreOngoing es all → (r : ℕ) (q : Option Ongoing) → get all r ≡ q → Flies es (makes_of q)
held-flies es all held r None is = tt
held-flies es all held r (Some x) is = inner x.request.write refl
  where
    inner : (o : Option ℕ) → x.request.write ≡ o → Flies es o
    inner None e = tt
    inner (Some w) e = write-flies all r x is es held w e

-- what a wait finds in the table is what the deeds say
pub wait-agrees : (ds : List Deed) (n : ℕ → ℕ) (t : Locks) (r : ℕ) (x : Request) (held : Option Locked) → x.held ≡ held → IsTable ds n t → Holds r ds t held → ((rd : permits.Reader) → held ≡ Some (Read rd) → 0 < n rd.number)
    → (rd : permits.Reader) (now : ℕ) → option_map untold_lock held ≡ Some (Read rd) → (wait_result t now held x ≡ wait_of t.age_timeout now r rd (untold_request x) ds) × (too_old_for t now held (unusable_in x.key) ≡ finds_too_old t.age_timeout now r rd (untold_request x) ds)
wait-agrees ds n t r x None is table holds counted rd now e = absurd (cc)
wait-agrees ds n t r x (Some (Write p)) is table holds counted rd now e = let no : ◌≡◌ {A = Option Locked} (Some (Write p)) (Some (Read rd)) = e in absurd (cc)
wait-agrees ds n t r x (Some (Read own)) is table holds counted rd now e =
    let locks : ◌≡◌ {A = Option Locked} (Some (Read (untold_read_lock own))) (Some (Read rd)) = e in
    let same : untold_read_lock own ≡ rd = cc in (
      wait-is ds n t now r own table holds (counted own refl) x ∙ sym (wait-untold t.age_timeout now r own x ds) ∙ ap (λ z. wait_of t.age_timeout now r z (untold_request x) ds) same,
      too-old-is ds n t now r own table holds (counted own refl) x ∙ sym (too-old-untold t.age_timeout now r own x ds) ∙ ap (λ z. finds_too_old t.age_timeout now r z (untold_request x) ds) same,
    )

module _ (limits : Limits) (start m : Tracked) (s : Store) (t : Locks) (all : FinMap nat_cmp Ongoing) (h : List Entry) (k : IsSound limits start m s t all h) (r : ℕ) where
  -- the facts of the parts are what the history says, whoever is handed a permit
  pub facts-agree : (taker q : Option Ongoing) → get all r ≡ q → Says t.age_timeout (events_of h) (deeds_of h) r (request_in (option_map untold q)) (facts_for s t (request_in q) taker)
  facts-agree taker None is = record {
    next = k.state.next;
    found = λ key a e f. absurd (cc);
    there = λ key e. absurd (cc);
    complete = λ key e. absurd (cc);
    number = λ key e. absurd (cc);
    given = λ rd e. absurd (cc);
    told = λ w e. absurd (cc);
    untouched = λ w e. absurd (cc);
    size = λ w e. absurd (cc);
    asked = ap (λ w. w.asked) k.locks.waiting;
    wait = λ rd now e. absurd (cc);
    too_old = λ rd now e. absurd (cc);
  }
  facts-agree taker (Some x) is =
      let es = events_of h in
      let n = readers all in
      let flies : (w : ℕ) → x.request.write ≡ Some w → in_flight w es ≡ true = λ w e. write-flies all r x is es k.writes w e in
      let waits = wait-agrees (deeds_of h) (read_locks all) t r x.request x.request.held refl k.table (k.holds r x is) (λ rd e. lock-counted all r x rd is e) in
      record {
        next = k.state.next;
        found = λ key a e f. finds-is es n s k.state (slot key) a (f ∙ ap (found_for s) e);
        there = λ key e. subst (λ o. HasAny es (slot key) (there_for s o)) (sym e) (any-is es n s k.state (slot key));
        complete = λ key e. ap (complete_for s) e ∙ ap is_some (k.state.bodies (slot key));
        number = λ key e. ap (number_for s) e ∙ ap number_of_body (k.state.bodies (slot key));
        given = λ rd e. ap (given_by s) e ∙ reads-is es n s k.state rd (λ w. reader-follows all r x is rd e w);
        told = λ w e. ap (told_of s) e ∙ told-is es n s k.state w (flies w e);
        untouched = λ w e. ap (untouched_for s) e ∙ stands-is es n s k.state w (flies w e);
        size = λ w e. ap (size_for s) e ∙ size-is es n s k.state w (flies w e);
        asked = ap (λ w. w.asked) k.locks.waiting;
        wait = λ rd now e. (waits rd now e).0;
        too_old = λ rd now e. (waits rd now e).1;
      }

  -- the parts move
  pub parts-move : (q q' : Option Ongoing) (s' : Store) (m' : Tracked) (events : List Event) → get all r ≡ q → Moves limits q s m events q' s' m' → Done limits start (events_of h) q events (readers (remove all r)) (at_call q s m) (at_call q' s' m')
  parts-move q q' s' m' events is moves =
      moved-kept limits start q (readers (remove all r)) (at_call q' s' m') refl events (events_of h) (at_call q s m) (record {
        tidy = k.tidy;
        flies = held-flies (events_of h) all k.writes r q is;
        state = state-same (events_of h) (readers all) (λ w. readers (remove all r) w + reads_of q w) s (λ w. readers-split all r w ∙ ap (λ x. readers (remove all r) w + reads_of x w) is) k.state;
        tracks = k.tracks;
      }) moves

-- the events of a request are due, whatever its read lock was told

may-come : (es : List Event) (x : Ongoing) (o : Option ℕ) (e : Event) → MayCome es (Some x) o e → MayCome es (Some (untold x)) o e
may-come es x o (E.Look k a) due = due
may-come es x o (E.Begin w k m) due = due
may-come es x o (E.Wrote w bytes eof) due = due
may-come es x o (E.Finish w true) due = due
may-come es x o (E.Finish w false) due = due
may-come es x o (E.Dropped w) due = due
may-come es x o (E.Admit e n out) due = due
may-come es x o (E.Untrack e) due = due
may-come es x o (E.Read a) due = due
may-come es x o e due = due

may-settle : (limits : Limits) (m : Tracked) (x : Ongoing) (n : Owed) (e : Event) → MaySettle limits m (Some x) n e → MaySettle limits m (Some (untold x)) n e
may-settle limits m x n (E.Admit e w out) due = due
may-settle limits m x n (E.Purge k) due = due
may-settle limits m x n (E.Release l) due = due
may-settle limits m x n e due = absurd due

is-next : (limits : Limits) (m : Tracked) (es : List Event) (x : Ongoing) (o : Option ℕ) (owed : Option Owed) (e : Event) → IsNext limits m es (Some x) o owed e → IsNext limits m es (Some (untold x)) o owed e
is-next limits m es x o None e due = may-come es x o e due
is-next limits m es x o (Some n) e due = may-settle limits m x n e due

pub are-due : (limits : Limits) (start : Tracked) (es : List Event) (q : Option Ongoing) (o : Option ℕ) (owed : Option Owed) (events : List Event) (o' : Option ℕ) → AreDue limits start es q o owed events o' → AreDue limits start es (option_map untold q) o owed events o'
are-due limits start es None o owed events o' due = due
are-due limits start es (Some x) o owed [] o' due = due
are-due limits start es (Some x) o owed (e ∷ events) o' due = (is-next limits (tracked start es) es x o owed e due.0, are-due limits start (e ∷ es) (Some x) (makes e o) (owes es e owed) events o' due.1)

-- a call that names one request is no load
early-one : (act : Act) (f : Facts) (h : List Entry) → IsOfOne act → IsEarly act f h
early-one (C.Files a) f h one = absurd one
early-one act f h one = tt

-- a history with one more entry, whose request is named otherwise
pub legal-with : (age : ℕ) (limits : Limits) (start : Tracked) (h : List Entry) (call : Call) (told : Reply) (events : List Event) (b : Option Ongoing) (g : Gives age limits start (events_of h) (deeds_of h) call.request b call.act told events) → IsLegal age limits start h → g.facts.taker ≡ taker_in call.request call.act h
    → IsEarly call.act g.facts h → b ≡ request_of call.request h → IsLegal age limits start (record { call = call; reply = told; events = events } ∷ h)
legal-with age limits start h call told events b g l taker early is =
    let moved : (g : Gives age limits start (events_of h) (deeds_of h) call.request (request_of call.request h) call.act told events) × (g.facts.taker ≡ taker_in call.request call.act h) × IsEarly call.act g.facts h =
    subst (λ x. (g : Gives age limits start (events_of h) (deeds_of h) call.request x call.act told events) × (g.facts.taker ≡ taker_in call.request call.act h) × IsEarly call.act g.facts h) is (g, taker, early) in
    (moved.0, l, moved.1, moved.2)

-- what each request holds after a call
pub all-hold : (ds new : List Deed) (t u : Locks) (all : FinMap nat_cmp Ongoing) (r : ℕ) (q' : Option Ongoing) → AllHold ds t all → Holds r (reverse new ++ ds) u (held_in q') → ((p : ℕ) (x : Ongoing) → (r == p) ≡ false → get all p ≡ Some x → Holds p (reverse new ++ ds) u x.request.held) → AllHold (reverse new ++ ds) u (set_to all r q')
all-hold ds new t u all r q' hold own others p x is =
    elim (r == p) as (λ b. (r == p) ≡ b → cond b q' (get all p) ≡ Some x → Holds p (reverse new ++ ds) u x.request.held) [
      | true ↦ λ same e. subst (λ n. Holds n (reverse new ++ ds) u x.request.held) (eqb-true r p same) (subst (λ o. Holds r (reverse new ++ ds) u (held_in o)) e own)
      | false ↦ λ other e. others p x other e
    ] refl (sym (get-set_to all r q' p) ∙ is)

pub held-at : (ds : List Deed) (t : Locks) (all : FinMap nat_cmp Ongoing) (r : ℕ) (q : Option Ongoing) → AllHold ds t all → get all r ≡ q → Holds r ds t (held_in q)
held-at ds t all r None hold is = holds-none r ds t
held-at ds t all r (Some x) hold is = hold r x is

-- if nothing is handed over
pub each-turn-keeps : (limits : Limits) (start m m' : Tracked) (s s' : Store) (t t' : Locks) (all : FinMap nat_cmp Ongoing) (h : List Entry) (call : Call) (reply told : Reply) (events : List Event) (q' : Option Ongoing)
    → IsSound limits start m s t all h → ((l : ℕ) → read_locks all l + 1 < 2 ^ 128) → Turn limits call.request call.act (get all call.request) s m t reply events q' s' m' t' → IsCopy reply told
    → Replies (facts_for s t (request_in (get all call.request)) (taker_in call.request call.act h)) call.act (get all call.request) reply events → IsEarly call.act (facts_for s t (request_in (get all call.request)) (taker_in call.request call.act h)) h → ((r : ℕ) (giver q : Option Ongoing) → taken_over call.act (kind_of_reply reply) r giver q ≡ q)
    → IsSound limits start m' s' t' (set_to all call.request q') (record { call = call; reply = told; events = events } ∷ h)
each-turn-keeps limits start m m' s s' t t' all h call reply told events q' k few turn copy answers early none =
    let r = call.request in
    let q = get all r in
    let b : Option Ongoing = option_map untold q in
    let es = events_of h in
    let ds = deeds_of h in
    let o = kind_of_reply reply in
    let new = deeds_in call.request call.act o events q in
    let n = read_locks all in
    let after : FinMap nat_cmp Ongoing = set_to all r q' in
    let entry : Entry = record { call = call; reply = told; events = events } in
    let now : option_map untold q' ≡ row call.act told events b = row-at call.act reply events q q' turn.now ∙ sym (row-copied call.act reply told events b copy) in
    let done = parts-move limits start m s t all h k r q q' s' m' events refl turn.moves in
    let steps = call-steps call.request call.act o events q (held_in q) (held_in q') t t' turn.locks in
    let count : (l : ℕ) → read_locks after l + locks_read l (held_in q) ≡ n l + locks_read l (held_in q') = λ l. locks-moved all r q' l in
    let holds = held-at ds t all r q k.holds refl in
    let age : t'.age_timeout ≡ t.age_timeout = age-kept ds n (read_locks after) r (held_in q) (held_in q') t t' new k.table holds turn.locks few count in
    let gives : Gives t.age_timeout limits start es ds call.request b call.act told events = record {
      facts = facts_for s t (request_in q) (taker_in call.request call.act h);
      says = facts-agree limits start m s t all h k r (taker_in call.request call.act h) q refl;
      reply_made = reply;
      answers = replies-untold (facts_for s t (request_in q) (taker_in call.request call.act h)) call.act q reply events answers;
      copy = copy;
      due = subst (λ x. AreDue limits start es b (makes_of b) None events (makes_of x)) now (subst (λ x. AreDue limits start es b x None events (makes_of (option_map untold q'))) (sym (makes-untold q)) (subst (λ x. AreDue limits start es b (makes_of q) None events x) (sym (makes-untold q')) (are-due limits start es q (makes_of q) None events (makes_of q') done.due)));
      keeps = subst (KeepsKey b) now (keeps-untold q q' turn.keeps);
      given = given-after es events t t' k.locks steps;
    } in
    let deeds : reverse new ++ ds ≡ deeds_of (entry ∷ h) = ap (λ xs. reverse xs ++ ds) (sym (ap (λ x. deeds_in call.request call.act x events (request_of r h)) (kind-copied reply told copy) ∙ ap (deeds_in call.request call.act o events) (sym (k.requests r)) ∙ deeds-untold call.request call.act o events q)) in
    let legal : IsLegal t.age_timeout limits start (entry ∷ h) = legal-with t.age_timeout limits start h call told events b gives k.legal refl early (k.requests r) in
    sound-of limits start m' s' t' after (entry ∷ h)
    (subst (λ x. IsLegal x limits start (entry ∷ h)) (sym age) legal)
    done.kept.tracks
    (state-same (reverse events ++ es) (λ w. readers (remove all r) w + reads_of q' w) (readers after) s' (λ w. sym (readers-set all r q' w)) done.kept.state)
    (open-after h all entry q' (λ n giver x. ap (λ y. taken_over call.act y n giver x) (kind-copied reply told copy) ∙ none n giver x) k.requests (now ∙ ap (row call.act told events) (k.requests r)))
    (locked-after es events t t' k.locks steps)
    (subst (λ xs. IsTable xs (read_locks after) t') deeds (table-kept ds n (read_locks after) r (held_in q) (held_in q') t t' new k.table holds turn.locks few count))
    (subst (λ xs. AllHold xs t' after) deeds (all-hold ds new t t' all r q' k.holds (holds-kept ds n (read_locks after) r (held_in q) (held_in q') t t' new k.table holds turn.locks few count)
    (λ p x other is. others-hold ds n (read_locks after) r (held_in q) (held_in q') t t' new k.table holds turn.locks few count p x.request.held (λ same. both_ways (r == p) other (eq-eqb r p (sym same))) (k.holds p x is) (λ rd e. lock-counted all p x rd is e))))

-- a call that names one request alone
pub each-call-keeps : (limits : Limits) (start m m' : Tracked) (s s' : Store) (t t' : Locks) (all : FinMap nat_cmp Ongoing) (h : List Entry) (call : Call) (reply told : Reply) (events : List Event) (q' : Option Ongoing)
    → IsSound limits start m s t all h → ((l : ℕ) → read_locks all l + 1 < 2 ^ 128) → Turn limits call.request call.act (get all call.request) s m t reply events q' s' m' t' → IsCopy reply told → IsOfOne call.act
    → IsSound limits start m' s' t' (set_to all call.request q') (record { call = call; reply = told; events = events } ∷ h)
each-call-keeps limits start m m' s s' t t' all h call reply told events q' k few turn copy one =
    let q = get all call.request in
    each-turn-keeps limits start m m' s s' t t' all h call reply told events q' k few turn copy
    (subst (λ x. Replies (facts_for s t (request_in q) x) call.act q reply events) (sym (no_taker call.request call.act h one)) turn.answers)
    (early-one call.act (facts_for s t (request_in q) (taker_in call.request call.act h)) h one) (λ r giver x. not_taken call.act (kind_of_reply reply) r giver x one)

-- after how long permits are too old stays as it is
pub call-age : (limits : Limits) (start m m' : Tracked) (s s' : Store) (t t' : Locks) (all : FinMap nat_cmp Ongoing) (h : List Entry) (call : Call) (reply : Reply) (events : List Event) (q' : Option Ongoing)
    → IsSound limits start m s t all h → ((l : ℕ) → read_locks all l + 1 < 2 ^ 128) → Turn limits call.request call.act (get all call.request) s m t reply events q' s' m' t' → t'.age_timeout ≡ t.age_timeout
call-age limits start m m' s s' t t' all h call reply events q' k few turn =
    let r = call.request in
    let q = get all r in
    let ds = deeds_of h in
    let after : FinMap nat_cmp Ongoing = set_to all r q' in
    age-kept ds (read_locks all) (read_locks after) r (held_in q) (held_in q') t t' (deeds_in call.request call.act (kind_of_reply reply) events q) k.table (held-at ds t all r q k.holds refl) turn.locks few (λ l. locks-moved all r q' l)
