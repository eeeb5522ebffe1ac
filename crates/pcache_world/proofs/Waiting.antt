-- What calls make of the lock table is what their events say of it, and which locks a legal history gives.
use Rattle.std.proofs.lemmas.List.{append_assoc}
use Rattle.pcache_base.specs.declared.poll.Poll.TheVariants.{Ready}
use Rattle.pcache_lock.specs.Past.{Does}
use Rattle.pcache_lock.specs.PastLaws.{is_unlocking, waits_after}
use Rattle.pcache_lock.specs.Waits.{waiting_slot, waits_under}
use Rattle.pcache_lock.specs.declared.lock.permit.Locked.TheVariants.{Read}
use Rattle.pcache_history.proofs.Waiting.{after-in}
use Rattle.pcache_lock.proofs.Calls.{finds_the_waiting}
use Rattle.pcache_lock.proofs.Ends.{waits_after_each_deed}
use Rattle.pcache_history.specs.declared.call.Act.{Act}
use Rattle.pcache_history.specs.Deeds.{Did, handed_on}
use Rattle.pcache_history.specs.Ongoing.{was_other, was_taken}
use Rattle.pcache_history.specs.Waiting.{then_waiting, waiting_after, IsGiven}
use Rattle.pcache_world.specs.TableWaiting.{waiting_of, IsReached, LocksMoved}
use Rattle.pcache_world.proofs.Words.{◌≡◌, ℕ, Bool, true, false, ◌||◌, cond, Option, None, Some, List, [], ◌∷◌, ◌++◌, refl, ap, sym, subst, ◌∙◌, reverse, list_any, get, get-empty, nat_cmp, UnusableFill, Pending, Locks, no_locks, holder, lock_given, after_request, released, let_go, is_permit, number_of_lock, Core, Permit, IsReason, after_poll, answer_at, is_old, watched, polled, published, permit_state, told_or_pending, watch_at, is_old_at, next-then, next_by, begins, grows, PermitState, Locked, Write, LockStatus, GiveUp, NoCacheReason, published_by, is_old_result, too_old_for, status_for, let_go_by, settled, Event, Deed, deed_of, deeds_by, deeds_in, held_in, moment_of, published_on, said_by, status_left, Ongoing, ReplyKind, was_done, was_waited, was_wrong, LockMove, MayMoveLock, MovesLocks, ages, asks, deeds_moved, each_deed, lets_go, polls, publishes, rests, settles, table_moved, table_polled, each, number_read, permit_of, Waiting, waiting_in, AreGiven, IsOfNoLock, AreOfNoLock, IsLocked}
use Rattle.pcache_lock.specs.Permits as permits
use Rattle.pcache_lock.specs.Deeds as table
use Rattle.pcache_lock.specs.declared.lock.outcome.PermitState.TheVariants as stage
use Rattle.pcache_base.specs.declared.reason.NoCacheReason.TheVariants as reason
use Rattle.pcache_history.specs.declared.call.Act.TheVariants as C
use Rattle.pcache_history.specs.declared.call.RequestAct.TheVariants as Q
use Rattle.pcache_history.specs.declared.entry.Event.TheVariants as E
use Rattle.pcache_world.proofs.LockTable.{flip}

-- a table with no lock is what no events say
pub locked-none : (age : ℕ) (t : Locks) → t ≡ no_locks age → IsLocked [] t
locked-none age t is = subst (IsLocked []) (sym is) (record {
  reached = record { past = []; led = begins 0 age; unlocks = refl };
  waiting = λ i. record { under = λ l. ap waiting_slot (get-empty nat_cmp l) i; asked = 0 };
})

-- ---- two moves, one after the other

-- a table moves as these events say
abbrev Steps : Locks → List Event → Locks → Type 0
Steps t events u = IsReached t → LocksMoved t events u

after-both : (xs ys : List Event) (w : Waiting) → waiting_after (xs ++ ys) w ≡ waiting_after ys (waiting_after xs w)
after-both [] ys w = refl
after-both (e ∷ xs) ys w = after-both xs ys (then_waiting e w)

given-both : (xs ys : List Event) (w : Waiting) → AreGiven w xs → AreGiven (waiting_after xs w) ys → AreGiven w (xs ++ ys)
given-both [] ys w a b = b
given-both (e ∷ xs) ys w a b = (a.0, given-both xs ys (then_waiting e w) a.1 b)

both : (t u v : Locks) (xs ys : List Event) → Steps t xs u → Steps u ys v → Steps t (xs ++ ys) v
both t u v xs ys a b reached =
    let k = a reached in
    let m = b k.reached in
    record {
      reached = m.reached;
      given = given-both xs ys (waiting_of t) k.given (subst (λ w. AreGiven w ys) k.waiting m.given);
      waiting = m.waiting ∙ ap (waiting_after ys) k.waiting ∙ sym (after-both xs ys (waiting_of t));
    }

-- events that say nothing of locks, and a table that stays as it is

quiet-one : (e : Event) (w : Waiting) → IsOfNoLock e → IsGiven w e
quiet-one (E.Ask k n b) w h = absurd h
quiet-one e w h = tt

quiet-then : (e : Event) (w : Waiting) → IsOfNoLock e → then_waiting e w ≡ w
quiet-then (E.Ask k n b) w h = absurd h
quiet-then (E.Release n) w h = absurd h
quiet-then (E.LetGo n) w h = absurd h
quiet-then (E.Aged n) w h = absurd h
quiet-then e w h = refl

quiet-given : (events : List Event) (w : Waiting) → AreOfNoLock events → AreGiven w events
quiet-given [] w h = tt
quiet-given (e ∷ events) w h = (quiet-one e w h.0, quiet-given events (then_waiting e w) h.1)

quiet-after : (events : List Event) (w : Waiting) → AreOfNoLock events → waiting_after events w ≡ w
quiet-after [] w h = refl
quiet-after (e ∷ events) w h = quiet-after events (then_waiting e w) h.1 ∙ quiet-then e w h.0

quiet : (t u : Locks) (events : List Event) → AreOfNoLock events → u ≡ t → Steps t events u
quiet t u events none is = subst (Steps t events) (sym is) (λ reached. record { reached = reached; given = quiet-given events (waiting_of t) none; waiting = sym (quiet-after events (waiting_of t) none) })

-- ---- one deed on the table

by-deed : (deed : table.Deed) (events : List Event) (t u : Locks) → Does deed t u → is_unlocking deed ≡ false → (IsReached t → AreGiven (waiting_of t) events)
    → ((q : ℕ) → waits_after q deed (waits_under t q) ≡ (waiting_after events (waiting_of t)).under q) → next_by deed t.next ≡ (waiting_after events (waiting_of t)).asked → Steps t events u
by-deed deed events t u does locks given under asked reached = record {
  reached = record { past = deed ∷ reached.past; led = grows t u reached.past deed reached.led does; unlocks = ap (λ b. b || list_any is_unlocking reached.past) locks ∙ reached.unlocks };
  given = given reached;
  waiting = λ i. record { under = λ q. (waits_after_each_deed deed t u q does ∙ under q) i; asked = (next-then deed t u does ∙ asked) i };
}

gives-permit : (t : Locks) (k : ℕ) (stale : Bool) (now : ℕ) → holder t k ≡ None → Steps t (E.Ask k t.next true ∷ []) (after_request t k stale now None)
gives-permit t k stale now free =
    by-deed (table.Granted k t.next stale now) (E.Ask k t.next true ∷ []) t (after_request t k stale now None) (free, refl, refl) refl
    (λ reached. (((λ l waits. let held : holder t k ≡ Some l = (finds_the_waiting t reached.past reached.led reached.unlocks k l).1 waits in let no : ◌≡◌ {A = Option ℕ} None (Some l) = sym free ∙ held in absurd (cc)), refl), tt))
    (λ q. ap (λ b. cond b (Some k) (waits_under t q)) (flip q t.next)) refl

gives-read : (t : Locks) (k : ℕ) (stale : Bool) (now l : ℕ) → holder t k ≡ Some l → Steps t (E.Ask k l false ∷ []) (after_request t k stale now (Some l))
gives-read t k stale now l is =
    by-deed (table.Joined k l now) (E.Ask k l false ∷ []) t (after_request t k stale now (Some l)) (is, refl) refl (λ reached. ((finds_the_waiting t reached.past reached.led reached.unlocks k l).0 is, tt)) (λ q. refl) refl

releases : (t : Locks) (l : ℕ) (s : LockStatus) → IsReason s → Steps t (E.Release l ∷ []) (released t l s)
releases t l s reason = by-deed (table.Released l s) (E.Release l ∷ []) t (released t l s) (reason, refl) refl (λ _. (tt, tt)) (λ q. ap (λ b. cond b None (waits_under t q)) (flip q l)) refl

lets-go : (t : Locks) (p : Permit) → Steps t (E.LetGo p.number ∷ []) (let_go t (Write p))
lets-go t p = by-deed (table.LetGo p.number) (E.LetGo p.number ∷ []) t (let_go t (Write p)) refl refl (λ _. (tt, tt)) (λ q. ap (λ b. cond b None (waits_under t q)) (flip q p.number)) refl

leaves : (t : Locks) (r : permits.Reader) → Steps t [] (let_go t (Read r))
leaves t r = by-deed (table.Left r.number) [] t (let_go t (Read r)) refl refl (λ _. tt) (λ q. refl) refl

publishes-one : (t : Locks) (l : ℕ) (tokens : List ℕ) → Steps t [] (published t l tokens)
publishes-one t l tokens = by-deed (table.Published l tokens) [] t (published t l tokens) refl refl (λ _. tt) (λ q. refl) refl

-- a permit is found too old
ages-one : (t : Locks) (l now : ℕ) → is_old_at now (get t.cores l) ≡ true → Steps t (E.Aged l ∷ []) (after_poll t now l (get t.cores l))
ages-one t l now old = by-deed (table.Aged l now) (E.Aged l ∷ []) t (after_poll t now l (get t.cores l)) (old, refl) refl (λ _. (tt, tt)) (λ q. ap (λ b. cond b None (waits_under t q)) (flip q l)) refl

-- ---- the rows of a request

pub let-go-by : (t : Locks) (h : Option Locked) → Steps t (each E.LetGo (permit_of h)) (let_go_by h t)
let-go-by t None = quiet t t [] tt refl
let-go-by t (Some (Write p)) = lets-go t p
let-go-by t (Some (Read r)) = leaves t r

settles-by : (t : Locks) (s : LockStatus) (h : Option Locked) → IsReason s → Steps t (each E.Release (permit_of h)) (settled s h t)
settles-by t s None reason = quiet t t [] tt refl
settles-by t s (Some (Write p)) reason = releases t p.number s reason
settles-by t s (Some (Read r)) reason = leaves t r

published-by : (t : Locks) (tokens : List ℕ) (h : Option Locked) → Steps t [] (published_by tokens h t)
published-by t tokens None = quiet t t [] tt refl
published-by t tokens (Some (Write p)) = publishes-one t p.number tokens
published-by t tokens (Some (Read r)) = quiet t t [] tt refl

-- the status that a reason leaves is one that a permit may be released with
pub status-reason : (why : NoCacheReason) → IsReason (status_for (λ text. GiveUp) why)
status-reason (reason.Custom text) = tt
status-reason why = tt

asks-for : (t : Locks) (k : ℕ) (stale : Bool) (now : ℕ) (o : Option ℕ) → holder t k ≡ o → Steps t (E.Ask k (number_of_lock (lock_given t stale o)) (is_permit (lock_given t stale o)) ∷ []) (after_request t k stale now o)
asks-for t k stale now None is = gives-permit t k stale now is
asks-for t k stale now (Some l) is = gives-read t k stale now l is

-- ---- a move of the request's lock

-- the events that deeds are read off
abbrev spoken_of : Deed → List Event
spoken_of (Did r (table.Granted k n stale t)) = E.Ask k n true ∷ []
spoken_of (Did r (table.Joined k n t)) = E.Ask k n false ∷ []
spoken_of (Did r (table.Released n s)) = E.Release n ∷ []
spoken_of (Did r (table.LetGo n)) = E.LetGo n ∷ []
spoken_of (Did r (table.Aged n t)) = E.Aged n ∷ []
spoken_of _ = []

abbrev spoken : List Deed → List Event
spoken [] = []
spoken (d ∷ ds) = spoken_of d ++ spoken ds

spoken-let-go : (r : ℕ) (o : Option ℕ) → spoken (each_deed (λ n. Did r (table.LetGo n)) o) ≡ each E.LetGo o
spoken-let-go r None = refl
spoken-let-go r (Some n) = refl

spoken-released : (r : ℕ) (s : LockStatus) (o : Option ℕ) → spoken (each_deed (λ n. Did r (table.Released n s)) o) ≡ each E.Release o
spoken-released r s None = refl
spoken-released r s (Some n) = refl

spoken-published : (r : ℕ) (tokens : List ℕ) (h : Option Locked) → spoken (published_on r tokens h) ≡ []
spoken-published r tokens None = refl
spoken-published r tokens (Some (Write p)) = refl
spoken-published r tokens (Some (Read rd)) = refl

spoken-asked : (r k at n : ℕ) (b : Bool) (ds : List Deed) → spoken (Did r (table.asked k false at n b) ∷ ds) ≡ E.Ask k n b ∷ spoken ds
spoken-asked r k at n true ds = refl
spoken-asked r k at n false ds = refl

spoken-handed : (to : ℕ) (h : Option Locked) → spoken (handed_on to h) ≡ []
spoken-handed to None = refl
spoken-handed to (Some (Write p)) = refl
spoken-handed to (Some (Read rd)) = refl

-- a read lock is let go once its permit was found too old
ages-by : (r : ℕ) (t : Locks) (fills : Option (List UnusableFill)) (at : ℕ) (mine : Option Locked) → too_old_for t at mine fills ≡ true → Steps t (spoken (each_deed (λ n. Did r (table.Aged n at)) (number_read mine))) (let_go_by mine (table_polled at mine t))
ages-by r t fills at None old = absurd (cc)
ages-by r t fills at (Some (Write p)) old = absurd (cc)
ages-by r t fills at (Some (Read rd)) old =
    let u = after_poll t at rd.number (get t.cores rd.number) in
    both t u (let_go u (Read rd)) (E.Aged rd.number ∷ []) [] (ages-one t rd.number at (is-old (get t.cores rd.number) old)) (leaves u rd)
  where
    at-stage : (s : PermitState) (w : permits.Watch) → is_old_result (answer_at s w) ≡ true → is_old s ≡ true
    at-stage stage.Over w e = absurd (cc)
    at-stage stage.Old w e = refl
    at-stage stage.Held w e = elim w.told as (λ o. is_old_result (told_or_pending o) ≡ true → false ≡ true) [ None ↦ λ f. f | Some fill ↦ λ f. f ] e

    is-old : (o : Option Core) → is_old_result (polled at fills rd.watch o) ≡ true → is_old_at at o ≡ true
    is-old None e = absurd (cc)
    is-old (Some c) e = at-stage (permit_state at c) (watched c (watch_at c fills rd.watch)) e

steps-by : (move : LockMove) (r : ℕ) (mine : Option Locked) (t : Locks) → MayMoveLock move mine t → Steps t (spoken (deeds_moved move r mine t)) (table_moved move mine t)
steps-by rests r mine t may = quiet t t [] tt refl
steps-by (asks k stale at) r mine t may =
    let u = after_request t k stale at (holder t k) in
    let l = number_of_lock (lock_given t stale (holder t k)) in
    let b = is_permit (lock_given t stale (holder t k)) in
    subst (λ es. Steps t es (let_go_by mine u)) (sym (spoken-asked r k at l b (each_deed (λ n. Did r (table.LetGo n)) (permit_of mine)) ∙ ap (λ es. E.Ask k l b ∷ es) (spoken-let-go r (permit_of mine))))
    (both t u (let_go_by mine u) (E.Ask k l b ∷ []) (each E.LetGo (permit_of mine)) (asks-for t k stale at (holder t k) refl) (let-go-by u mine))
steps-by (settles s) r mine t may = subst (λ es. Steps t es (settled s mine t)) (sym (spoken-released r s (permit_of mine))) (settles-by t s mine may)
steps-by lets_go r mine t may = subst (λ es. Steps t es (let_go_by mine t)) (sym (spoken-let-go r (permit_of mine))) (let-go-by t mine)
steps-by (publishes tokens) r mine t may = subst (λ es. Steps t es (published_by tokens mine t)) (sym (spoken-published r tokens mine)) (published-by t tokens mine)
steps-by (polls fills at) r mine t may = quiet t t [] tt refl
steps-by (ages fills at) r mine t may = ages-by r t fills at mine may

pub steps : (r : ℕ) (ds : List Deed) (mine last : Option Locked) (t u : Locks) → MovesLocks r ds mine t last u → Steps t (spoken ds) u
steps r ds mine last t u k = subst (λ es. Steps t (spoken es) u) (sym k.done) (subst (Steps t (spoken (deeds_moved k.move r mine t))) (sym k.table) (steps-by k.move r mine t k.may))

-- what deeds say of who waits is what their events say

one-spoken : (r at : ℕ) (s : LockStatus) (e : Event) (w : Waiting) → waiting_after (spoken (deed_of r at s e)) w ≡ then_waiting e w
one-spoken r at s (E.Ask k n true) w = refl
one-spoken r at s (E.Ask k n false) w = refl
one-spoken r at s (E.Release n) w = refl
one-spoken r at s (E.LetGo n) w = refl
one-spoken r at s (E.Aged n) w = refl
one-spoken r at s e w = refl

one-given : (r at : ℕ) (s : LockStatus) (e : Event) (w : Waiting) → AreGiven w (spoken (deed_of r at s e)) → IsGiven w e
one-given r at s (E.Ask k n true) w g = g.0
one-given r at s (E.Ask k n false) w g = g.0
one-given r at s (E.Release n) w g = tt
one-given r at s (E.LetGo n) w g = tt
one-given r at s (E.Aged n) w g = tt
one-given r at s e w g = tt

spoken-both : (xs ys : List Deed) → spoken (xs ++ ys) ≡ spoken xs ++ spoken ys
spoken-both [] ys = refl
spoken-both (d ∷ xs) ys = ap (λ es. spoken_of d ++ es) (spoken-both xs ys) ∙ sym (append_assoc (spoken_of d) (spoken xs) (spoken ys))

all-spoken : (r at : ℕ) (s : LockStatus) (events : List Event) (w : Waiting) → waiting_after (spoken (deeds_by r at s events)) w ≡ waiting_after events w
all-spoken r at s [] w = refl
all-spoken r at s (e ∷ events) w =
    ap (λ es. waiting_after es w) (spoken-both (deed_of r at s e) (deeds_by r at s events))
    ∙ after-both (spoken (deed_of r at s e)) (spoken (deeds_by r at s events)) w
    ∙ ap (waiting_after (spoken (deeds_by r at s events))) (one-spoken r at s e w)
    ∙ all-spoken r at s events (then_waiting e w)

given-first : (xs ys : List Event) (w : Waiting) → AreGiven w (xs ++ ys) → AreGiven w xs × AreGiven (waiting_after xs w) ys
given-first [] ys w g = (tt, g)
given-first (e ∷ xs) ys w g = let k = given-first xs ys (then_waiting e w) g.1 in ((g.0, k.0), k.1)

all-given : (r at : ℕ) (s : LockStatus) (events : List Event) (w : Waiting) → AreGiven w (spoken (deeds_by r at s events)) → AreGiven w events
all-given r at s [] w g = tt
all-given r at s (e ∷ events) w g =
    let k = given-first (spoken (deed_of r at s e)) (spoken (deeds_by r at s events)) w (subst (AreGiven w) (spoken-both (deed_of r at s e) (deeds_by r at s events)) g) in
    (one-given r at s e w k.0, all-given r at s events (then_waiting e w) (subst (λ x. AreGiven x (spoken (deeds_by r at s events))) (one-spoken r at s e w) k.1))

-- what a call says beside its events says nothing of who waits
said-spoken : (r : ℕ) (act : Act) (o : ReplyKind) (h : Option Locked) → spoken (said_by r act o h) ≡ []
said-spoken r (C.Request (Q.Publish tokens)) was_done h = spoken-published r tokens h
said-spoken r (C.Wait t) (was_waited Pending) h = refl
said-spoken r (C.Give to) was_done h = spoken-handed to h
said-spoken r (C.Give to) was_wrong h = refl
said-spoken r (C.Give to) was_taken h = refl
said-spoken r (C.Give to) was_other h = refl
said-spoken r (C.Give to) (was_waited a) h = refl
said-spoken r (C.Request (Q.Publish tokens)) was_wrong h = refl
said-spoken r (C.Request (Q.Publish tokens)) was_taken h = refl
said-spoken r (C.Request (Q.Publish tokens)) was_other h = refl
said-spoken r (C.Request (Q.Publish tokens)) (was_waited a) h = refl
said-spoken r (C.Wait t) was_wrong h = refl
said-spoken r (C.Wait t) was_done h = refl
said-spoken r (C.Wait t) was_taken h = refl
said-spoken r (C.Wait t) was_other h = refl
said-spoken r (C.Wait t) (was_waited (Ready a)) h = refl
said-spoken r act o h = refl

-- one call moves the table as its events say
pub call-steps : (r : ℕ) (act : Act) (o : ReplyKind) (events : List Event) (q : Option Ongoing) (mine last : Option Locked) (t u : Locks) → MovesLocks r (deeds_in r act o events q) mine t last u → Steps t events u
call-steps r act o events q mine last t u k reached =
    let at = moment_of act in
    let s = status_left act events in
    let is : spoken (deeds_in r act o events q) ≡ spoken (deeds_by r at s events) = spoken-both (said_by r act o (held_in q)) (deeds_by r at s events) ∙ ap (λ es. es ++ spoken (deeds_by r at s events)) (said-spoken r act o (held_in q)) in
    let m = subst (λ es. Steps t es u) is (steps r (deeds_in r act o events q) mine last t u k) reached in
    record {
      reached = m.reached;
      given = all-given r at s events (waiting_of t) m.given;
      waiting = m.waiting ∙ all-spoken r at s events (waiting_of t);
    }

-- ---- histories

-- a table that changed by the events of a call agrees with the longer history
pub locked-after : (es events : List Event) (t u : Locks) → IsLocked es t → Steps t events u → IsLocked (reverse events ++ es) u
locked-after es events t u k moves =
    let m = moves k.reached in
    record { reached = m.reached; waiting = m.waiting ∙ ap (waiting_after events) k.waiting ∙ after-in events es }

pub given-after : (es events : List Event) (t u : Locks) → IsLocked es t → Steps t events u → AreGiven (waiting_in es) events
given-after es events t u k moves = subst (λ w. AreGiven w events) k.waiting (moves k.reached).given

-- ---- what is promised of locks
