-- No row, condition or clause of a call looks at what a read lock was told: of the lock that is held they look at its kind, at
-- its number, and at the fills that it watches for since it was polled.
use Rattle.std.proofs.Common.{option_map}
use Rattle.pcache_base.specs.declared.poll.Poll.TheVariants.{Ready}
use Rattle.pcache_lock.specs.declared.lock.outcome.PermitState.TheVariants.{Over, Old}
use Rattle.pcache_lock.specs.declared.lock.permit.Locked.TheVariants.{Read}
use Rattle.pcache_request.specs.LockWaits.{after_wait, is_late, since_of}
use Rattle.pcache_request.specs.Phases.{is_fresh}
use Rattle.pcache_request.specs.Requests.{Request}
use Rattle.pcache_request.specs.Variants.{varied}
use Rattle.pcache_store.specs.Store.{Reader}
use Rattle.pcache_history.specs.declared.call.Act.{Act}
use Rattle.pcache_history.specs.Ongoing.{opened, is_done, is_taken, asked, looks_for, placed_by, taken_by, shut_by, without_pair, fed, fed_in, ended, row_by}
use Rattle.pcache_world.specs.Untold.{untold_watch}
use Rattle.pcache_history.specs.Rules.{Does, Finishes, IsStarved, Waits}
use Rattle.pcache_history.specs.Taking.{counted_none}
use Rattle.pcache_history.specs.Watching.{fills_of, lock_watching, waited_on, waited_with}
use Rattle.pcache_world.proofs.Words.{◌≡◌, ℕ, ◌&&◌, ◌⊎◌, ◌++◌, Bool, true, false, not, cond, Option, None, Some, IsSome, List, [], ◌∷◌, refl, ap, sym, subst, ◌∙◌, inl, inr, get, Key, slot, ErrorType, UnusableFill, Poll, Pending, NoCacheReason, Locks, Watch, answer_at, watched, polled, reader_at, reader_polled, permit_state, status_seen, told_or_pending, watch_at, LockWaitOutcome, PermitState, Locked, Write, LockStatus, Meta, Decision, decided, is_deferral, with_decision, result_by, unusable_in, wait_result, waited, disabled_for, disabled_in, asks_as_stale, phase_found, placed, is_unseen, leaves_variant, visible, CachePhase, HitStatus, LockKind, Reply, Answer, Event, deeds_by, deeds_in, held_in, moment_of, said_by, status_left, IsOfWorld, KeepsKey, makes_of, Facts, Ongoing, ReplyKind, was_done, was_waited, is_wrong, kind_of_reply, on_request, pair_of, with_given, carrying, decides, looked_by, turned_by, ongoing_put, began, has_read, waited_by, row, after_look, untold, uncounted, untold_put, untold_lock, untold_read_lock, untold_request, FollowsRule, AsksIf, Closes, Feeds, FindsKind, IsOfKind, Replies, HandsOn, IsLockRefusal, Looks, LooksOn, MayBe, Misses, Takes, accesses, IsRow, Taking, new_put, AtHead, Counted, InHead}
use Rattle.pcache_base.specs.declared.reason.NoCacheReason.TheVariants as reason
use Rattle.pcache_lock.specs.Permits as permits
use Rattle.pcache_lock.specs.declared.lock.outcome.PermitState.TheVariants as stage
use Rattle.pcache_request.specs.declared.phase.CachePhase.TheVariants as phase
use Rattle.pcache_history.specs.declared.call.Act.TheVariants as C
use Rattle.pcache_history.specs.declared.call.RequestAct.TheVariants as Q
use Rattle.pcache_history.specs.declared.call.Reply.TheVariants as R
use Rattle.pcache_history.specs.declared.entry.Event.TheVariants as E

-- a request that holds this
abbrev holding : Option Locked → Request → Request
holding h x = record x { held = h }

-- ---- rows: what a call makes of a request

decision-untold : (d : Option Decision) (x : Request) → untold_request (with_decision d x) ≡ with_decision d (untold_request x)
decision-untold None x = refl
decision-untold (Some d) x = refl

disabled-untold : (p : CachePhase) (why : NoCacheReason) (x : Request) → untold_request (disabled_in p why x) ≡ disabled_in p why (untold_request x)
disabled-untold (phase.Disabled reason.NeverEnabled) why x = refl
disabled-untold p why x = refl

given-untold : (stale : Bool) (e : Event) (x : Request) → untold_request (with_given stale e x) ≡ with_given stale e (untold_request x)
given-untold stale (E.Ask k n true) x = refl
given-untold stale (E.Ask k n false) x = refl
given-untold stale e x = refl

asked-untold : (stale : Bool) (es : List Event) (x : Request) → untold_request (asked stale es x) ≡ asked stale es (untold_request x)
asked-untold stale [] x = refl
asked-untold stale (e ∷ es) x = asked-untold stale es (with_given stale e x) ∙ ap (asked stale es) (given-untold stale e x)

-- if a test decides which it is
either-held : (b : Bool) (x y u v : Ongoing) → untold x ≡ u → untold y ≡ v → untold (cond b x y) ≡ cond b u v
either-held true x y u v e f = e
either-held false x y u v e f = f

-- of the pair and the decision nothing changes
with-request : (x : Ongoing) (p : Option (Meta × Reader)) (y z : Request) → untold_request y ≡ z → untold (record { request = y; pair = p; carried = x.carried; put = x.put }) ≡ record { request = z; pair = p; carried = x.carried; put = option_map untold_put x.put }
with-request x p y z e = ap {A = Request} {B = Ongoing} (λ r. record { request = r; pair = p; carried = x.carried; put = option_map untold_put x.put }) e

deferred-untold : (d : Option Decision) (x : Ongoing) → untold (record { request = disabled_for reason.Deferred (with_decision d x.request); pair = None; carried = None; put = x.put }) ≡ record { request = disabled_for reason.Deferred (with_decision d (untold_request x.request)); pair = None; carried = None; put = option_map untold_put x.put }
deferred-untold None x = ap {A = Request} {B = Ongoing} (λ r. record { request = r; pair = None; carried = None; put = option_map untold_put x.put }) (disabled-untold x.request.phase reason.Deferred x.request)
deferred-untold (Some d) x = ap {A = Request} {B = Ongoing} (λ r. record { request = r; pair = None; carried = None; put = option_map untold_put x.put }) (disabled-untold x.request.phase reason.Deferred (decided d x.request))

after_look-untold : (d : Option Decision) (a : Answer) (es : List Event) (x : Ongoing) → untold (after_look d a es x) ≡ after_look d a es (untold x)
after_look-untold d a es x =
    either-held (is_deferral d) _ _ _ _ (deferred-untold d x)
    (with-request x (visible x.request.valid_after (pair_of a)) _ _ (asked-untold false es (with_decision d x.request) ∙ ap (asked false es) (decision-untold d x.request)))

looked-untold : (es : List Event) (x : Ongoing) → untold (looked_by es x) ≡ looked_by es (untold x)
looked-untold [] x = refl
looked-untold (E.Look k a ∷ es) x = after_look-untold (decides a x) a es x
looked-untold (e ∷ es) x = refl

looks_for-untold : (v : List ℕ) (p : Option (Meta × Reader)) (x : Request) → untold_request (looks_for v p x) ≡ looks_for v p (untold_request x)
looks_for-untold v None x = refl
looks_for-untold v (Some p) x = refl

placed-untold : (s : HitStatus) (es : List Event) (x : Request) (p : Option (Meta × Reader)) → untold_request (placed_by s es x p) ≡ placed_by s es (untold_request x) p
placed-untold s es x None = refl
placed-untold s es x (Some p) = ap (placed s p.0 p.1) (asked-untold (asks_as_stale s x.phase) es x)

began-untold : (joined : Bool) (es : List Event) (x : Request) → untold_request (began joined es x) ≡ began joined es (untold_request x)
began-untold joined [] x = refl
began-untold joined (E.Begin w k m ∷ es) x = refl
began-untold joined (e ∷ es) x = refl

ended-untold : (es : List Event) (x : Request) → untold_request (ended es x) ≡ ended es (untold_request x)
ended-untold [] x = refl
ended-untold (e ∷ es) x = refl

read-untold : (es : List Event) (x : Request) → untold_request (has_read es x) ≡ has_read es (untold_request x)
read-untold [] x = refl
read-untold (E.Read a ∷ es) x = refl
read-untold (e ∷ es) x = refl

-- a lock that may be given up
given_up : (b : Bool) (h : Option Locked) → option_map untold_lock (cond b None h) ≡ cond b None (option_map untold_lock h)
given_up true h = refl
given_up false h = refl

varied-untold : (v : Option (List ℕ)) (x : Request) → untold_request (varied v x) ≡ varied v (untold_request x)
varied-untold v x = ap {A = Option Locked} {B = Request} (λ h. holding h (varied v x)) (given_up (leaves_variant v x.key) x.held)

-- a wait on a read lock with this watch
read-waited : (answer : Poll LockWaitOutcome) (now n : ℕ) (w : Option Watch) (x : Request) → untold_request (waited_on answer now (Some (Read (record { number = n; watch = w }))) x) ≡ waited_on answer now (Some (Read (record { number = n; watch = option_map untold_watch w }))) (untold_request x)
read-waited (Ready o) now n None x = refl
read-waited (Ready o) now n (Some w) x = refl
read-waited Pending now n None x = refl
read-waited Pending now n (Some w) x = refl

wait-untold : (answer : Poll LockWaitOutcome) (now : ℕ) (h : Option Locked) (x : Request) → untold_request (waited_on answer now h x) ≡ waited_on answer now (option_map untold_lock h) (untold_request x)
wait-untold answer now None x = refl
wait-untold answer now (Some (Write p)) x = refl
wait-untold answer now (Some (Read rd)) x = read-waited answer now rd.number rd.watch x

waited_by-untold : (o : ReplyKind) (now : ℕ) (x : Request) → untold_request (waited_by o now x) ≡ waited_by o now (untold_request x)
waited_by-untold (was_waited answer) now x = wait-untold answer now x.held x
waited_by-untold o now x = refl

-- of an open request, and if a reply says that it changes
over : (f : Ongoing → Ongoing) → ((x : Ongoing) → untold (f x) ≡ f (untold x)) → (q : Option Ongoing) → option_map untold (option_map f q) ≡ option_map f (option_map untold q)
over f alike None = refl
over f alike (Some x) = ap Some (alike x)

either : (b : Bool) (p q r s : Option Ongoing) → option_map untold p ≡ r → option_map untold q ≡ s → option_map untold (cond b p q) ≡ cond b r s
either true p q r s e f = e
either false p q r s e f = f

on : (f : Request → Request) → ((x : Request) → untold_request (f x) ≡ f (untold_request x)) → (q : Option Ongoing) → option_map untold (option_map (on_request f) q) ≡ option_map (on_request f) (option_map untold q)
on f alike q = over (on_request f) (λ x. with-request x x.pair _ _ (alike x.request)) q

-- a row that changes the request if the call is done, and one that does if it was no wrong call
where-done : (o : ReplyKind) (f : Ongoing → Ongoing) → ((x : Ongoing) → untold (f x) ≡ f (untold x)) → (q : Option Ongoing) → option_map untold (cond (is_done o) (option_map f q) q) ≡ cond (is_done o) (option_map f (option_map untold q)) (option_map untold q)
where-done o f alike q = either (is_done o) _ _ _ _ (over f alike q) refl

where-right : (o : ReplyKind) (f : Ongoing → Ongoing) → ((x : Ongoing) → untold (f x) ≡ f (untold x)) → (q : Option Ongoing) → option_map untold (cond (is_wrong o) q (option_map f q)) ≡ cond (is_wrong o) (option_map untold q) (option_map f (option_map untold q))
where-right o f alike q = either (is_wrong o) _ _ _ _ refl (over f alike q)

shut-untold : (why : NoCacheReason) (x : Ongoing) → untold (shut_by (disabled_for why) x) ≡ shut_by (disabled_for why) (untold x)
shut-untold why x = ap {A = Request} {B = Ongoing} (λ r. record { request = record r { reader = None }; pair = None; carried = None; put = option_map untold_put x.put }) (disabled-untold x.request.phase why x.request)

turned-untold : (f : Request → Request) (leaves_pair : Bool) (x : Ongoing) → untold_request (f x.request) ≡ f (untold_request x.request) → untold (turned_by f leaves_pair x) ≡ turned_by f leaves_pair (untold x)
turned-untold f leaves_pair x alike = ap {A = Request} {B = Ongoing} (λ r. record { request = record r { reader = x.request.reader }; pair = cond leaves_pair None x.pair; carried = x.carried; put = option_map untold_put x.put }) alike

-- a put that was just made, and one that is fed
none-counted : (limit : Option ℕ) → option_map uncounted (option_map counted_none limit) ≡ option_map counted_none limit
none-counted None = refl
none-counted (Some n) = refl

new-untold : (k : Key) (limit : Option ℕ) → option_map untold (Some (ongoing_put (new_put k limit))) ≡ Some (ongoing_put (new_put k limit))
new-untold k limit = ap {A = Option Counted} {B = Option Ongoing} (λ c. Some (ongoing_put (record { key = k; size = c; parser = AtHead []; stage = InHead }))) (none-counted limit)

fed_in-untold : (o : ReplyKind) (events : List Event) (x : Ongoing) (p : Option Taking) → untold (fed_in o events x p) ≡ fed_in o events (untold x) (option_map untold_put p)
fed_in-untold o events x None = refl
fed_in-untold o events x (Some p) = refl

fed-untold : (o : ReplyKind) (events : List Event) (x : Ongoing) → untold (fed o events x) ≡ fed o events (untold x)
fed-untold o events x = either-held (is_wrong o) _ _ _ _ refl (fed_in-untold o events x x.put)

pub row_by-untold : (act : Act) (o : ReplyKind) (events : List Event) (q : Option Ongoing) → option_map untold (row_by act o events q) ≡ row_by act o events (option_map untold q)
row_by-untold (C.Open options) o events q = either (is_done o) (Some (opened options)) q _ _ refl refl
row_by-untold (C.Request (Q.Enable options)) o events q = where-done o _ (λ x. refl) q
row_by-untold (C.Request (Q.Disable why)) o events q = where-done o _ (shut-untold why) q
row_by-untold (C.Request (Q.Key k)) o events q = where-done o _ (λ x. refl) q
row_by-untold (C.Request (Q.Look t d)) o events q = where-right o _ (λ x. looked-untold events (carrying d x)) q
row_by-untold (C.Request (Q.Vary v)) o events q = where-done o _ (λ x. turned-untold (looks_for v x.pair) false x (looks_for-untold v x.pair x.request)) q
row_by-untold (C.Request (Q.Found s t)) o events q =
    either (is_taken o) _ _ _ _ (over (taken_by s events) (λ x. with-request x None _ _ (placed-untold s events x.request x.pair)) q)
    (where-right o without_pair (λ x. refl) q)
row_by-untold (C.Request Q.Bypass) o events q = where-done o _ (λ x. refl) q
row_by-untold (C.Request Q.Miss) o events q = where-done o _ (λ x. refl) q
row_by-untold (C.Request (Q.Meta m)) o events q = where-done o _ (λ x. refl) q
row_by-untold (C.Request Q.Begin) o events q = on (began (is_done o) events) (began-untold (is_done o) events) q
row_by-untold (C.Request (Q.Write bs eof)) o events q = refl
row_by-untold (C.Request Q.Finish) o events q = on (ended events) (ended-untold events) q
row_by-untold (C.Request Q.Read) o events q = on (has_read events) (read-untold events) q
row_by-untold (C.Request (Q.Seek start end)) o events q = where-done o _ (λ x. refl) q
row_by-untold (C.Request Q.Done) o events q = where-right o _ (λ x. refl) q
row_by-untold (C.Request Q.Purge) o events q = refl
row_by-untold (C.Request (Q.Expire t)) o events q = refl
row_by-untold (C.Request (Q.Lock is_used)) o events q = where-done o _ (λ x. refl) q
row_by-untold (C.Wait t) o events q = on (waited_by o t) (waited_by-untold o t) q
row_by-untold (C.Request (Q.Publish tokens)) o events q = refl
row_by-untold (C.Request (Q.Release why)) o events q = where-done o _ (λ x. refl) q
row_by-untold (C.Give to) o events q = where-done o _ (λ x. refl) q
row_by-untold (C.Request Q.Updating) o events q = where-done o _ (λ x. refl) q
row_by-untold (C.Request (Q.Uncacheable h why)) o events q = where-done o _ (λ x. refl) q
row_by-untold (C.Request (Q.Variance v)) o events q = where-done o _ (λ x. turned-untold (varied v) false x (varied-untold v x.request)) q
row_by-untold (C.Request (Q.Revalidate m)) o events q = where-right o _ (λ x. refl) q
row_by-untold (C.Request Q.Phase) o events q = refl
row_by-untold C.End o events q = either (is_done o) None q _ _ refl refl
row_by-untold (C.Put k limit) o events q = either (is_done o) (Some (ongoing_put (new_put k limit))) q _ _ (new-untold k limit) refl
row_by-untold (C.Feed bs t) o events q = over (fed o events) (fed-untold o events) q
row_by-untold C.Drop o events q = either (is_done o) None q _ _ refl refl
row_by-untold C.Close o events q = either (is_wrong o) q None _ _ refl refl
row_by-untold (C.Files a) o events q = refl

pub row-untold : (act : Act) (reply : Reply) (events : List Event) (q : Option Ongoing) → option_map untold (row act reply events q) ≡ row act reply events (option_map untold q)
row-untold act reply events q = row_by-untold act (kind_of_reply reply) events q

-- a request that a call left as its row has it
pub row-at : (act : Act) (reply : Reply) (events : List Event) (q q' : Option Ongoing) → IsRow act reply events q q' → option_map untold q' ≡ row act reply events (option_map untold q)
row-at act reply events q q' now = now ∙ row-untold act reply events q

-- ---- conditions and clauses

none-told : (rd : permits.Reader) → Some (Read rd) ≡ None → ⊥
none-told rd e = absurd (cc)

-- a request that is open, and holds this
abbrev open_with : Option Locked → Ongoing → Ongoing
open_with h x = record { request = holding h x.request; pair = x.pair; carried = x.carried; put = x.put }

-- but for what its read lock was told
abbrev unlocked : Ongoing → Ongoing
unlocked x = record { request = untold_request x.request; pair = x.pair; carried = x.carried; put = x.put }

-- but for what a put's bytes left in it
abbrev unfed : Ongoing → Ongoing
unfed x = record { request = x.request; pair = x.pair; carried = x.carried; put = option_map untold_put x.put }

may-put : (f : Facts) (act : Act) (x : Ongoing) → MayBe f act (Some (unfed x)) ≡ MayBe f act (Some x)
may-put f (C.Open options) x = refl
may-put f (C.Request Q.Phase) x = refl
may-put f act x = refl

feeds-put : (f : Facts) (p : Option Taking) (reply : Reply) (events : List Event) → Feeds f (option_map untold_put p) reply events ≡ Feeds f p reply events
feeds-put f None reply events = refl
feeds-put f (Some p) reply events = refl

closes-put : (f : Facts) (p : Option Taking) (reply : Reply) (events : List Event) → Closes f (option_map untold_put p) reply events ≡ Closes f p reply events
closes-put f None reply events = refl
closes-put f (Some p) reply events = refl

does-put : (f : Facts) (act : Act) (x : Ongoing) (reply : Reply) (events : List Event) → Does f act (Some (unfed x)) reply events ≡ Does f act (Some x) reply events
does-put f (C.Request Q.Phase) x reply events = refl
does-put f (C.Feed bs t) x reply events = feeds-put f x.put reply events
does-put f C.Close x reply events = closes-put f x.put reply events
does-put f act x reply events = refl

some-put : (p : Option Taking) → IsSome p → IsSome (option_map untold_put p)
some-put None s = s
some-put (Some p) s = refl

some-told : (p : Option Taking) → IsSome (option_map untold_put p) → IsSome p
some-told None s = s
some-told (Some p) s = refl

no-put : (p : Option Taking) → option_map untold_put p ≡ None → p ≡ None
no-put None is = refl
no-put (Some p) is = absurd (cc)

kind-put : (act : Act) (x : Ongoing) → IsOfKind act x → IsOfKind act (untold x)
kind-put (C.Feed bs t) x is = some-put x.put is
kind-put C.Drop x is = some-put x.put is
kind-put C.Close x is = some-put x.put is
kind-put (C.Files a) x is = tt
kind-put act x is = ap (option_map untold_put) is

kind-told : (act : Act) (x : Ongoing) → IsOfKind act (untold x) → IsOfKind act x
kind-told (C.Feed bs t) x is = some-told x.put is
kind-told C.Drop x is = some-told x.put is
kind-told C.Close x is = some-told x.put is
kind-told (C.Files a) x is = tt
kind-told act x is = no-put x.put is

pub finds-untold : (act : Act) (q : Option Ongoing) → FindsKind act q → FindsKind act (option_map untold q)
finds-untold act None is = is
finds-untold act (Some x) is = kind-put act x is

pub finds-told : (act : Act) (q : Option Ongoing) → FindsKind act (option_map untold q) → FindsKind act q
finds-told act None is = is
finds-told act (Some x) is = kind-told act x is

may-alike : (f : Facts) (act : Act) (h : Option Locked) (x : Ongoing) → MayBe f act (Some (open_with h x)) → MayBe f act (Some (unlocked (open_with h x)))
may-alike f act None x m = m
may-alike f act (Some (Write p)) x m = m
may-alike f (C.Open options) (Some (Read rd)) x m = m
may-alike f (C.Request (Q.Lock is_used)) (Some (Read rd)) x m = absurd (none-told rd m.1)
may-alike f act (Some (Read rd)) x m = m

may-back : (f : Facts) (act : Act) (h : Option Locked) (x : Ongoing) → MayBe f act (Some (unlocked (open_with h x))) → MayBe f act (Some (open_with h x))
may-back f act None x m = m
may-back f act (Some (Write p)) x m = m
may-back f (C.Open options) (Some (Read rd)) x m = m
may-back f (C.Request (Q.Lock is_used)) (Some (Read rd)) x m = absurd (none-told (untold_read_lock rd) m.1)
may-back f act (Some (Read rd)) x m = m

pub may-untold : (f : Facts) (act : Act) (q : Option Ongoing) → MayBe f act q → MayBe f act (option_map untold q)
may-untold f act None m = m
may-untold f act (Some x) m = subst (λ (T : Type 0). T) (sym (may-put f act (unlocked x))) (may-alike f act x.request.held x m)

pub may-told : (f : Facts) (act : Act) (q : Option Ongoing) → MayBe f act (option_map untold q) → MayBe f act q
may-told f act None m = m
may-told f act (Some x) m = may-back f act x.request.held x (subst (λ (T : Type 0). T) (may-put f act (unlocked x)) m)

-- a look-up asks alike: a read lock goes without an event
asks-alike : (b : Bool) (k : ℕ) (rd : permits.Reader) (events : List Event) (l : Option LockKind) → AsksIf b k (Some (Read (untold_read_lock rd))) events l ≡ AsksIf b k (Some (Read rd)) events l
asks-alike true k rd events l = refl
asks-alike false k rd events l = refl

misses-alike : (f : Facts) (k : ℕ) (a : Answer) (rd : permits.Reader) (x : Request) (reply : Reply) (events : List Event) → Misses f k a (untold_request (holding (Some (Read rd)) x)) reply events ≡ Misses f k a (holding (Some (Read rd)) x) reply events
misses-alike f k a rd x reply events = λ i.
    ((e : ErrorType) × (x.uses.lock ≡ true) × IsLockRefusal f true e × (events ≡ E.Look k a ∷ []) × (reply ≡ R.Refused e))
    ⊎ ((more : List Event) × (l : Option LockKind) × asks-alike x.uses.lock k rd more l i × (events ≡ E.Look k a ∷ more) × (reply ≡ R.NotFound l))

hands-alike : (unseen : Bool) (f : Facts) (k : ℕ) (a : Answer) (rd : permits.Reader) (x : Request) (reply : Reply) (events : List Event) → HandsOn unseen f k a (untold_request (holding (Some (Read rd)) x)) reply events ≡ HandsOn unseen f k a (holding (Some (Read rd)) x) reply events
hands-alike true f k a rd x reply events = misses-alike f k a rd x reply events
hands-alike false f k a rd x reply events = refl

looks_on-alike : (defers : Bool) (f : Facts) (k : ℕ) (a : Answer) (rd : permits.Reader) (x : Request) (reply : Reply) (events : List Event) → LooksOn defers f k a (untold_request (holding (Some (Read rd)) x)) reply events ≡ LooksOn defers f k a (holding (Some (Read rd)) x) reply events
looks_on-alike true f k a rd x reply events = refl
looks_on-alike false f k a rd x reply events = hands-alike (is_unseen x.valid_after (pair_of a)) f k a rd x reply events

looks-alike : (f : Facts) (rd : permits.Reader) (x : Ongoing) (reply : Reply) (events : List Event) → Looks f (unlocked (open_with (Some (Read rd)) x)) reply events ≡ Looks f (open_with (Some (Read rd)) x) reply events
looks-alike f rd x reply events = λ i.
    (IsSome f.found × IsStarved reply events)
    ⊎ ((k : Key) × (a : Answer) × (x.request.key ≡ Some k) × (pair_of a ≡ f.found) × looks_on-alike (is_deferral (decides a x)) f (slot k) a rd x.request reply events i)

takes-alike : (f : Facts) (s : HitStatus) (rd : permits.Reader) (x : Request) (p : Option (Meta × Reader)) (reply : Reply) (events : List Event) → Takes f s (untold_request (holding (Some (Read rd)) x)) p reply events ≡ Takes f s (holding (Some (Read rd)) x) p reply events
takes-alike f s rd x None reply events = refl
takes-alike f s rd x (Some p) reply events = λ i.
    IsStarved reply events
    ⊎ ((k : Key) × (x.key ≡ Some k) × (((e : ErrorType) × IsLockRefusal f (x.uses.lock && not (is_fresh s)) e × (reply ≡ R.Refused e) × (events ≡ accesses s k p.1 x))
    ⊎ ((more : List Event) × (l : Option LockKind) × asks-alike (x.uses.lock && not (is_fresh s)) (slot k) rd more l i
    × (events ≡ accesses s k p.1 x ++ more) × (reply ≡ R.Taken (phase_found s x.phase) l))))

finishes-alike : (f : Facts) (rd : permits.Reader) (x : Request) (w : Option ℕ) (reply : Reply) (events : List Event) → Finishes f (untold_request (holding (Some (Read rd)) x)) w reply events ≡ Finishes f (holding (Some (Read rd)) x) w reply events
finishes-alike f rd x None reply events = refl
finishes-alike f rd x (Some w) reply events = refl

-- whether a read lock was polled stays known
waits-alike : (f : Facts) (t n : ℕ) (w : Option Watch) (x : Request) (reply : Reply) (events : List Event) → Waits f t (holding (Some (Read (record { number = n; watch = option_map untold_watch w }))) x) reply events ≡ Waits f t (holding (Some (Read (record { number = n; watch = w }))) x) reply events
waits-alike f t n None x reply events = refl
waits-alike f t n (Some w) x reply events = refl

does-read : (f : Facts) (act : Act) (rd : permits.Reader) (x : Ongoing) (reply : Reply) (events : List Event) → Does f act (Some (unlocked (open_with (Some (Read rd)) x))) reply events ≡ Does f act (Some (open_with (Some (Read rd)) x)) reply events
does-read f (C.Request (Q.Look t d)) rd x reply events = looks-alike f rd (carrying d x) reply events
does-read f (C.Request (Q.Found s t)) rd x reply events = takes-alike f s rd x.request x.pair reply events
does-read f (C.Request Q.Finish) rd x reply events = finishes-alike f rd x.request x.request.write reply events
does-read f (C.Wait t) rd x reply events = waits-alike f t rd.number rd.watch x.request reply events
does-read f act rd x reply events = refl

does-alike : (f : Facts) (act : Act) (h : Option Locked) (x : Ongoing) (reply : Reply) (events : List Event) → Does f act (Some (unlocked (open_with h x))) reply events ≡ Does f act (Some (open_with h x)) reply events
does-alike f act None x reply events = refl
does-alike f act (Some (Write p)) x reply events = refl
does-alike f act (Some (Read rd)) x reply events = does-read f act rd x reply events

pub does-untold : (f : Facts) (act : Act) (q : Option Ongoing) (reply : Reply) (events : List Event) → Does f act (option_map untold q) reply events ≡ Does f act q reply events
does-untold f act None reply events = refl
does-untold f act (Some x) reply events = does-put f act (unlocked x) reply events ∙ does-alike f act x.request.held x reply events

pub answers-untold : (f : Facts) (act : Act) (q : Option Ongoing) (reply : Reply) (events : List Event) → FollowsRule f act q reply events → FollowsRule f act (option_map untold q) reply events
answers-untold f act q reply events (inl (may, other, does)) = inl (may-untold f act q may, other, subst (λ (T : Type 0). T) (sym (does-untold f act q reply events)) does)
answers-untold f act q reply events (inr (may_not, is)) = inr ((λ m. may_not (may-told f act q m)), is)

pub replies-untold : (f : Facts) (act : Act) (q : Option Ongoing) (reply : Reply) (events : List Event) → Replies f act q reply events → Replies f act (option_map untold q) reply events
replies-untold f act q reply events (inl (finds, answers)) = inl (finds-untold act q finds, answers-untold f act q reply events answers)
replies-untold f act q reply events (inr (finds_not, is)) = inr ((λ m. finds_not (finds-told act q m)), is)

-- ---- what is made, named, read and said

pub world-untold : (x : Request) → IsOfWorld x → IsOfWorld (untold_request x)
world-untold x is = record { eviction = is.eviction; fills = is.fills }

pub world-told : (x : Request) → IsOfWorld (untold_request x) → IsOfWorld x
world-told x is = record { eviction = is.eviction; fills = is.fills }

pub keeps-untold : (q q' : Option Ongoing) → KeepsKey q q' → KeepsKey (option_map untold q) (option_map untold q')
keeps-untold None None keeps = keeps
keeps-untold (Some x) None keeps = keeps
keeps-untold None (Some y) keeps = (world-untold y.request keeps.0, keeps.1)
keeps-untold (Some x) (Some y) keeps = λ is. (world-untold y.request (keeps (world-told x.request is)).0, (keeps (world-told x.request is)).1)

pub makes-untold : (q : Option Ongoing) → makes_of (option_map untold q) ≡ makes_of q
makes-untold None = refl
makes-untold (Some x) = refl

-- if tokens are published or a wait goes on
said-alike : (r : ℕ) (act : Act) (o : ReplyKind) (h : Option Locked) → said_by r act o (option_map untold_lock h) ≡ said_by r act o h
said-alike r act o None = refl
said-alike r act o (Some (Write p)) = refl
said-alike r (C.Request (Q.Publish tokens)) was_done (Some (Read rd)) = refl
said-alike r (C.Wait t) (was_waited Pending) (Some (Read rd)) = refl
said-alike r (C.Give to) was_done (Some (Read rd)) = refl
said-alike r act o (Some (Read rd)) = refl

held-untold : (q : Option Ongoing) → held_in (option_map untold q) ≡ option_map untold_lock (held_in q)
held-untold None = refl
held-untold (Some x) = refl

pub deeds-untold : (r : ℕ) (act : Act) (o : ReplyKind) (events : List Event) (q : Option Ongoing) → deeds_in r act o events (option_map untold q) ≡ deeds_in r act o events q
deeds-untold r act o events q = ap (λ said. said ++ deeds_by r (moment_of act) (status_left act events) events) (ap (said_by r act o) (held-untold q) ∙ said-alike r act o (held_in q))

-- ---- waits: what a poll leaves of the read lock is, but for what it was told, what the row of a wait has

told-alike : (s : LockStatus) (late : Bool) (since now : ℕ) (rd : permits.Reader) (fills : Option (List UnusableFill)) (w : Watch) (told : Option UnusableFill) (x : Request) → w.fills ≡ fills_of rd.watch fills →
    untold_request (after_wait (result_by s late (told_or_pending told)) since now (record { number = rd.number; watch = Some w }) x) ≡ untold_request (after_wait (result_by s late (told_or_pending told)) since now (lock_watching rd fills) x)
told-alike s late since now rd fills w (Some fill) x same = refl
told-alike s true since now rd fills w None x same = refl
told-alike s false since now rd fills w None x same = ap {A = List UnusableFill} {B = Request} (λ b. untold_request (after_wait Pending since now (record { number = rd.number; watch = Some (record { fills = b; seen = 0; told = None }) }) x)) same

stage-alike : (s : LockStatus) (late : Bool) (since now : ℕ) (rd : permits.Reader) (fills : Option (List UnusableFill)) (w : Watch) (stage : PermitState) (x : Request) → w.fills ≡ fills_of rd.watch fills →
    untold_request (after_wait (result_by s late (answer_at stage w)) since now (reader_at stage rd w) x) ≡ untold_request (after_wait (result_by s late (answer_at stage w)) since now (lock_watching rd fills) x)
stage-alike s late since now rd fills w Over x same = refl
stage-alike s late since now rd fills w Old x same = refl
stage-alike s late since now rd fills w stage.Held x same = told-alike s late since now rd fills w w.told x same

watches-alike : (c : permits.Core) (fills : Option (List UnusableFill)) (w : Option Watch) → (watched c (watch_at c fills w)).fills ≡ fills_of w fills
watches-alike c fills None = refl
watches-alike c fills (Some w) = refl

polled-alike : (s : LockStatus) (late : Bool) (since now : ℕ) (rd : permits.Reader) (fills : Option (List UnusableFill)) (c : Option permits.Core) (x : Request) →
    untold_request (after_wait (result_by s late (polled now fills rd.watch c)) since now (reader_polled now fills rd c) x) ≡ untold_request (after_wait (result_by s late (polled now fills rd.watch c)) since now (lock_watching rd fills) x)
polled-alike s late since now rd fills None x = refl
polled-alike s late since now rd fills (Some c) x = stage-alike s late since now rd fills (watched c (watch_at c fills rd.watch)) (permit_state now c) x (watches-alike c fills rd.watch)

-- of a request that holds this read lock
pub waited-on-untold : (t : Locks) (now : ℕ) (rd : permits.Reader) (x : Request) → untold_request (waited t now (Some (Read rd)) x) ≡ untold_request (waited_on (wait_result t now (Some (Read rd)) x) now (Some (Read rd)) x)
waited-on-untold t now rd x =
    polled-alike (status_seen now (get t.cores rd.number)) (is_late now rd x.wait_timeout x.digest.waits x.waits_since) (since_of now rd.watch x.waits_since) now rd (unusable_in x.key) (get t.cores rd.number) x

pub waited-untold : (t : Locks) (now : ℕ) (rd : permits.Reader) (x : Request) → x.held ≡ Some (Read rd) → untold_request (waited t now (Some (Read rd)) x) ≡ untold_request (waited_with (wait_result t now (Some (Read rd)) x) now x)
waited-untold t now rd x holds = waited-on-untold t now rd x ∙ ap {A = Option Locked} {B = Request} (λ h. untold_request (waited_on (wait_result t now (Some (Read rd)) x) now h x)) (sym holds)
