-- What a look-up reports is what its rule requires, and its change of the request is its row.
use Rattle.std.proofs.Common.{IsTrue, option_map}
use Rattle.pcache_predict.specs.declared.admission.Decision.TheVariants.{Defer, Ready}
use Rattle.pcache_request.specs.Admissions.{Decides, asks_policy, kept_if, looked_with, observes, store_looked_with, table_looked_with}
use Rattle.pcache_base.specs.declared.reason.NoCacheReason.TheVariants.{Deferred}
use Rattle.pcache_request.specs.LookUps.{OnLooked, OnUnlocked, Tells, handed_on}
use Rattle.pcache_request.specs.Releasing.{switched_off}
use Rattle.pcache_request.specs.Requests.{Request}
use Rattle.pcache_request.specs.Variants.{asks_unseen, is_hidden, is_unseen_for, searched, seen_for, table_looked_for, without_hidden}
use Rattle.pcache_request.specs.Witnesses.{HasHeard, passed_over}
use Rattle.pcache_store.specs.Store.{Reader, find}
use Rattle.pcache_history.specs.Ongoing.{asked, policy_in}
use Rattle.pcache_history.specs.Rules.{look_reply}
use Rattle.pcache_world.specs.Moved.{Act, RunsActs, Did}
use Rattle.pcache_world.specs.Step.{asked_answer, asking_if, held_after_look, look_answer, permit_in}
use Rattle.pcache_history.proofs.ReadsLaw.{asked-reader, decided-reader, decided-held}
use Rattle.pcache_world.proofs.Words.{◌≡◌, ℕ, ◌&&◌, Bool, true, false, cond, Option, None, Some, IsSome, is_none, List, [], ◌∷◌, ◌++◌, refl, ap, sym, subst, ◌∙◌, inl, inr, ◌≤◌, ◌^◌, ◌⊎◌, Result, Ok, Err, IfOk, IfErr, Key, slot, ErrorType, Locks, MayFailLock, TransientError, Meta, Decision, decided, decision_taken, is_deferral, with_decision, IsDisabled, MayLookUp, disabled_for, disabled_in, found_for, left_by, dropped_by, reader_in, settled, asked_for_key, is_unseen, table_key_locked, visible, with_key_lock, AskedLock, LookUp, CachePhase, reader_of, Store, followed, left, MemHitHandler, Reply, Answer, Nothing, Event, deeds_by, KeepsIn, KeepsKey, Owed, Facts, Ongoing, after_look, carrying, decides, looked_by, pair_of, pair_reader, HandsOn, Looks, LooksOn, Misses, drop_of, each, Limits, At, Joins, Leaves, IsNextAt, MovesStore, after_event, after_join, after_leave, at_call, Moves, asking, noted_look, MovesLocks, facts_in, LookNote}
use Rattle.pcache_request.specs.declared.cache.report.LookUp.TheVariants as look
use Rattle.pcache_request.specs.declared.phase.CachePhase.TheVariants as phase
use Rattle.pcache_history.specs.declared.call.Reply.TheVariants as R
use Rattle.pcache_history.specs.declared.entry.Event.TheVariants as E
use Rattle.pcache_world.proofs.Keeps.{asked-write, keeps-decided, keeps-off}
use Rattle.pcache_world.proofs.MovesOf.{AreQuiet, defers, hidden, noted, quiet-asking, unnoted}
use Rattle.pcache_world.proofs.LockSteps.{deferred-locks, look-noted, missed-locks}
use Rattle.pcache_world.proofs.Noted.{key-asked, misses-asked, misses-refused, permit-named}

pub find-at : (s : Store) (o : Option Key) (k : Key) (p : Option (Meta × Reader)) → o ≡ Some k → found_for s o ≡ p → p ≡ find s (slot k)
find-at s o k p key found = sym found ∙ ap (found_for s) key

-- ---- what is reported before anything else is done

-- the note has a copy of what the store has
pub heard : (p : Option (Meta × Reader)) (n m : LookNote) → HasHeard (λ (before : LookNote) (q : Meta × Reader) (after : LookNote). (after.slot ≡ before.slot) × (after.write ≡ before.write) × (before.kept ≡ Some q.0 → pair_of after.answer ≡ Some q)) n p m → n.answer ≡ Nothing → n.kept ≡ option_map (λ q. q.0) p
    → (m.slot ≡ n.slot) × (m.write ≡ n.write) × (pair_of m.answer ≡ p)
heard None n m h none kept = (ap (λ (z : LookNote). z.slot) h, ap (λ (z : LookNote). z.write) h, ap (λ (z : LookNote). pair_of z.answer) h ∙ ap pair_of none)
heard (Some p) n m h none kept = (h.0, h.1, h.2 kept)

-- a look-up that fails: the store is unchanged, or the pair that it has was let go
still-moves : (s u : Store) (x y : Ongoing) (events : List Event) → events ≡ [] → y ≡ x → u ≡ s → MovesStore (Some x) s events (Some y) u
still-moves s u x y events none now to limits m =
    subst (λ (z : Ongoing). Moves limits (Some x) s m events (Some z) u m) (sym now) (subst (λ (v : Store). Moves limits (Some x) s m events (Some x) v m) (sym to)
    (subst (λ es. Moves limits (Some x) s m es (Some x) s m) (sym none) ([], refl, record { count = λ w. refl; write = refl; owed = refl; store = refl; tracked = refl })))

pub refused-moves : {A B : Type 0} (s u : Store) (x y : Ongoing) (k : Key) (e f : ErrorType) (events : List Event) → x.request.key ≡ Some k → events ≡ [] → y ≡ x → ((e ≡ f) × (u ≡ s) × A) ⊎ ((e ≡ f) × (u ≡ passed_over s x.request.key) × B) → MovesStore (Some x) s events (Some y) u
refused-moves s u x y k e f events named none now (inl p) = still-moves s u x y events none now p.1
refused-moves s u x y k e f events named none now (inr p) = by (found_for s x.request.key) refl
  where
    by : (o : Option (Meta × Reader)) → found_for s x.request.key ≡ o → MovesStore (Some x) s events (Some y) u
    by None found = still-moves s u x y events none now (p.1 ∙ ap (λ o. left_by (reader_in o) (followed s o)) found)
    by (Some q) found = unnoted x y s u (slot k) q events (find-at s x.request.key k (Some q) named found) none (ap (λ (z : Ongoing). z.pair) now) (ap (λ (z : Ongoing). z.request.reader) now) (ap (λ (z : Ongoing). z.request.write) now)
        (p.1 ∙ ap (λ o. left_by (reader_in o) (followed s o)) found)

-- ---- what was decided

decided-as : (may : Key → Decision → Type 0) (p : Decision) → ((k : Key) (d : Decision) → may k d → d ≡ p) → (o : Option Key) (d : Option Decision) → Decides may o d → d ≡ Some p
decided-as may p is (Some k) (Some d) m = ap Some (is k d m)
decided-as may p is (Some k) None m = absurd m
decided-as may p is None d m = absurd m

kept-as : (may : Key → Decision → Type 0) (p : Decision) → ((k : Key) (d : Decision) → may k d → d ≡ p) → (b : Bool) (o : Option Key) (d : Option Decision) → (IsTrue b → Decides may o d) → kept_if b d ≡ kept_if b (Some p)
kept-as may p is true o d h = decided-as may p is o d (h refl)
kept-as may p is false o d h = refl

-- it is what the decision that is carried says, if the policy that was passed is that one
pub taken-decision : (s : Store) (x : Ongoing) (y : Request) (a : Answer) (policy after : Decision) → pair_of a ≡ found_for s x.request.key → policy ≡ policy_in x.carried
    → (IsTrue (asks_policy s x.request) → Decides (λ (k : Key) (d : Decision). (d ≡ policy) × (after ≡ policy)) x.request.key y.digest.admission)
    → decision_taken s x.request y ≡ decides a x
taken-decision s x y a policy after is lent h =
    kept-as (λ (k : Key) (d : Decision). (d ≡ policy) × (after ≡ policy)) policy (λ k d m. m.0) (asks_policy s x.request) x.request.key y.digest.admission h
    ∙ ap (λ p. kept_if (asks_policy s x.request) (Some p)) lent
    ∙ ap (λ o. kept_if (is_none o && observes x.request) (Some (policy_in x.carried))) (sym is)

-- a policy that defers was asked, so nothing was found
none-deferred : (o : Option (Meta × Reader)) (b : Bool) (d : Option Decision) → is_deferral (kept_if (is_none o && b) d) ≡ true → o ≡ None
none-deferred None b d h = refl
none-deferred (Some p) b d h = absurd (cc)

-- ---- what is seen

seen : (from : Option ℕ) (o : Option (Meta × Reader)) (p : Meta × Reader) → visible from o ≡ Some p → (o ≡ Some p) × (is_unseen from o ≡ false)
seen from None p h = absurd (cc)
seen from (Some q) p h = elim (is_hidden from q.0.created) as (λ b. cond b None (Some q) ≡ Some p → (Some q ≡ Some p) × (b ≡ false)) [ true ↦ λ g. absurd (cc) | false ↦ λ g. (g, refl) ] h

unseen : (from : Option ℕ) (o : Option (Meta × Reader)) → visible from o ≡ None → is_unseen from o ≡ true
unseen from None h = refl
unseen from (Some q) h = elim (is_hidden from q.0.created) as (λ b. ◌≡◌ {A = Option (Meta × Reader)} (cond b None (Some q)) None → b ≡ true) [ true ↦ λ g. refl | false ↦ λ g. absurd (cc) ] h

second-of : (b c : Bool) → IsTrue (b && c) → IsTrue c
second-of true c h = h
second-of false c h = absurd (cc)

decided-write : (d : Option Decision) (x : Request) → (with_decision d x).write ≡ x.write
decided-write None x = refl
decided-write (Some d) x = refl

off-at : (p : CachePhase) (x : Request) → MayLookUp p → disabled_in p Deferred x ≡ switched_off Deferred x
off-at phase.CacheKey x may = refl
off-at phase.Stale x may = refl
off-at _ x may = absurd may

decided-off : (d : Option Decision) (x : Request) → MayLookUp x.phase → disabled_for Deferred (with_decision d x) ≡ switched_off Deferred (with_decision d x)
decided-off None x may = off-at x.phase x may
decided-off (Some d) x may = off-at x.phase (decided d x) may

quiet-asked : (k : ℕ) (a : Result (Option AskedLock) ErrorType) → AreQuiet (asking_if k a)
quiet-asked k (Ok a) = quiet-asking k a
quiet-asked k (Err e) = tt

pub held-after : (l : LookUp MemHitHandler) (z : Ongoing) → (held_after_look l z).request.held ≡ z.request.held
held-after (look.Found m h) z = refl
held-after (look.NotFound b) z = refl
held-after (look.Deferred q) z = refl

-- the pair that a world is handed
abbrev pub pair_handed : LookUp MemHitHandler → Option (Meta × Reader)
pair_handed l = option_map (λ p. (p.0, reader_of p.1)) (handed_on l)

abbrev pub missed_with : Result (Option AskedLock) ErrorType → LookUp MemHitHandler
missed_with b = look.NotFound b

-- ---- a look-up of a request x, whose key is k, of which the note has the copy a, and with the decision d

module _ (s : Store) (t : Locks) (x : Ongoing) (k : Key) (a : Answer) (d : Option Decision) (named : x.request.key ≡ Some k) (is : pair_of a ≡ found_for s x.request.key) (own : d ≡ decides a x) where
  abbrev pub facts : Facts
  facts = facts_in s t x.request

  abbrev pub had : Option (Meta × Reader)
  had = found_for s x.request.key

  abbrev pub from : Option ℕ
  from = x.request.valid_after

  abbrev pub with_own : Request
  with_own = with_decision d x.request

  -- its reply
  misses-told : (b : Result (Option AskedLock) ErrorType) → IfOk b (λ q. q ≡ asked_for_key t x.request) → IfErr b (λ e. IsTrue (asks_unseen s x.request) × MayFailLock t e) → Misses facts (slot k) a x.request (asked_answer b) (E.Look (slot k) a ∷ asking_if (slot k) b)
  misses-told (Ok q) ok err = misses-asked s t x.request k a q named ok
  misses-told (Err e) ok err = misses-refused s t x.request k a e (second-of (is_unseen_for s x.request) x.request.uses.lock err.0) err.1

  told-by : (l : LookUp MemHitHandler) → pair_handed l ≡ seen_for s x.request → Tells d s t x.request l → LooksOn (is_deferral d) facts (slot k) a x.request (look_answer a l) (noted_look (slot k) a x.request.write l)
  told-by (look.Found m h) handed tells =
      let hands : is_unseen from (pair_of a) ≡ false = ap (is_unseen from) is ∙ (seen from had (m, reader_of h) (sym handed)).1 in
      subst (λ b. LooksOn b facts (slot k) a x.request (look_reply a None) (E.Look (slot k) a ∷ [])) (sym tells) (subst (λ b. HandsOn b facts (slot k) a x.request (look_reply a None) (E.Look (slot k) a ∷ [])) (sym hands) (refl, refl))
  told-by (look.NotFound b) handed tells =
      let hides : is_unseen from (pair_of a) ≡ true = ap (is_unseen from) is ∙ unseen from had (sym handed) in
      subst (λ c. LooksOn c facts (slot k) a x.request (asked_answer b) (E.Look (slot k) a ∷ asking_if (slot k) b)) (sym tells.0) (subst (λ c. HandsOn c facts (slot k) a x.request (asked_answer b) (E.Look (slot k) a ∷ asking_if (slot k) b)) (sym hides) (misses-told b tells.1 tells.2))
  told-by (look.Deferred q) handed tells =
      subst (λ b. LooksOn b facts (slot k) a x.request (R.NotFound None) (E.Look (slot k) a ∷ (each E.Release (permit_in q) ++ drop_of x.request.write))) (sym tells.0)
      (ap (λ o. E.Look (slot k) a ∷ (each E.Release o ++ drop_of x.request.write)) (ap permit_in tells.1 ∙ permit-named x.request.held), refl)

  pub look-answers : (l : LookUp MemHitHandler) (reply : Reply) (events : List Event) → pair_handed l ≡ seen_for s x.request → Tells d s t x.request l → reply ≡ look_answer a l → events ≡ noted_look (slot k) a x.request.write l → Looks facts x reply events
  look-answers l reply events handed tells told all =
      subst (λ z. Looks facts x z events) (sym told) (subst (λ es. Looks facts x (look_answer a l) es) (sym all)
      (inr (k, a, named, is, subst (λ o. LooksOn (is_deferral o) facts (slot k) a x.request (look_answer a l) (noted_look (slot k) a x.request.write l)) own (told-by l handed tells))))

  -- the request after it
  going : (o : Option Decision) → is_deferral o ≡ false → looked_with o s t x.request ≡ cond (is_unseen_for s x.request) (with_key_lock t (with_decision o x.request)) (with_decision o x.request)
  going None h = refl
  going (Some (Ready n)) h = refl
  going (Some (Defer n)) h = absurd (cc)

  asked-alike : (o : Option Decision) → asked_for_key t (with_decision o x.request) ≡ asked_for_key t x.request
  asked-alike None = refl
  asked-alike (Some e) = refl

  request-seen : (y : Request) → is_deferral d ≡ false → is_unseen from had ≡ false → y ≡ looked_with d s t x.request → y ≡ with_own
  request-seen y goes sees now = now ∙ going d goes ∙ ap (λ b. cond b (with_key_lock t with_own) with_own) sees

  request-locked : (y : Request) → is_deferral d ≡ false → is_unseen from had ≡ true → y ≡ looked_with d s t x.request → y ≡ with_key_lock t with_own
  request-locked y goes hides now = now ∙ going d goes ∙ ap (λ b. cond b (with_key_lock t with_own) with_own) hides

  request-asked : (y : Request) (q : Option AskedLock) → is_deferral d ≡ false → is_unseen from had ≡ true → q ≡ asked_for_key t x.request → y ≡ looked_with d s t x.request → y ≡ asked false (asking (slot k) q) with_own
  request-asked y q goes hides ok now = request-locked y goes hides now ∙ key-asked t with_own (slot k) ∙ ap (λ z. asked false (asking (slot k) z) with_own) (asked-alike d ∙ sym ok)

  request-missed : (y : Request) (b : Result (Option AskedLock) ErrorType) → None ≡ seen_for s x.request → Tells d s t x.request (missed_with b) → OnLooked (missed_with b) (y ≡ looked_with d s t x.request) → OnUnlocked (missed_with b) (y ≡ with_own) → y ≡ asked false (asking_if (slot k) b) with_own
  request-missed y (Ok q) handed tells ok err = request-asked y q tells.0 (unseen from had (sym handed)) tells.1 ok
  request-missed y (Err e) handed tells ok err = err

  request-off : (y : Request) → is_deferral d ≡ true → y ≡ looked_with d s t x.request → y ≡ switched_off Deferred with_own
  request-off y goes now = now ∙ ap (λ b. cond b (switched_off Deferred with_own) (looked_on d)) goes
    where
      looked_on : Option Decision → Request
      looked_on o = cond (is_unseen_for s (with_decision o x.request)) (with_key_lock t (with_decision o x.request)) (with_decision o x.request)

  -- by its row
  abbrev pub on_with : List Event → Request → Option (Meta × Reader) → Ongoing
  on_with es y p = record { request = y; pair = p; carried = x.carried; put = x.put }

  abbrev pub off_with : Request → Ongoing
  off_with y = record { request = y; pair = None; carried = None; put = x.put }

  row-on : (rest : List Event) (y : Request) (p : Option (Meta × Reader)) → is_deferral d ≡ false → y ≡ asked false rest with_own → p ≡ visible from had → on_with rest y p ≡ looked_by (E.Look (slot k) a ∷ rest) x
  row-on rest y p goes now handed =
      (λ i. on_with rest (now i) ((handed ∙ ap (visible from) (sym is)) i))
      ∙ sym (ap (λ b. cond b (off_with (disabled_for Deferred with_own)) (on_with rest (asked false rest with_own) (visible from (pair_of a)))) goes)
      ∙ ap (λ o. after_look o a rest x) own

  row-off : (rest : List Event) (y : Request) → is_deferral d ≡ true → MayLookUp x.request.phase → y ≡ switched_off Deferred with_own → off_with y ≡ looked_by (E.Look (slot k) a ∷ rest) x
  row-off rest y goes may now =
      ap off_with (now ∙ sym (decided-off d x.request may))
      ∙ sym (ap (λ b. cond b (off_with (disabled_for Deferred with_own)) (on_with rest (asked false rest with_own) (visible from (pair_of a)))) goes)
      ∙ ap (λ o. after_look o a rest x) own

  row-by : (l : LookUp MemHitHandler) (y : Request) → MayLookUp x.request.phase → pair_handed l ≡ seen_for s x.request → Tells d s t x.request l → OnLooked l (y ≡ looked_with d s t x.request) → OnUnlocked l (y ≡ with_own)
      → held_after_look l (record { request = y; pair = x.pair; carried = x.carried; put = x.put }) ≡ looked_by (noted_look (slot k) a x.request.write l) x
  row-by (look.Found m h) y may handed tells ok err = row-on [] y (Some (m, reader_of h)) tells (request-seen y tells (seen from had (m, reader_of h) (sym handed)).1 ok) handed
  row-by (look.NotFound b) y may handed tells ok err = row-on (asking_if (slot k) b) y None tells.0 (request-missed y b handed tells ok err) handed
  row-by (look.Deferred q) y may handed tells ok err = row-off (each E.Release (permit_in q) ++ drop_of x.request.write) y tells.0 may (request-off y tells.0 ok)

  pub look-row : (l : LookUp MemHitHandler) (y : Request) (z : Ongoing) (events : List Event) → MayLookUp x.request.phase → pair_handed l ≡ seen_for s x.request → Tells d s t x.request l → OnLooked l (y ≡ looked_with d s t x.request) → OnUnlocked l (y ≡ with_own)
      → z ≡ held_after_look l (record { request = y; pair = x.pair; carried = x.carried; put = x.put }) → events ≡ noted_look (slot k) a x.request.write l → z ≡ looked_by events x
  look-row l y z events may handed tells ok err now all = now ∙ row-by l y may handed tells ok err ∙ ap (λ es. looked_by es x) (sym all)

  -- what moves
  moves-on : (p : Option (Meta × Reader)) (rest events : List Event) (y : Request) (z : Ongoing) (u : Store) → AreQuiet rest → y ≡ asked false rest with_own → had ≡ p → events ≡ E.Look (slot k) a ∷ rest → z.request ≡ y → z.pair ≡ p → u ≡ left_by (pair_reader x.pair) (followed s p)
      → MovesStore (Some x) s events (Some z) u
  moves-on p rest events y z u quiet now found all request held to =
      noted x z s u (slot k) a p rest events (is ∙ found) (find-at s x.request.key k p named found) quiet all held
      (ap (λ (v : Request). v.reader) (request ∙ now) ∙ asked-reader false rest with_own ∙ decided-reader d x.request)
      (ap (λ (v : Request). v.write) (request ∙ now) ∙ asked-write false rest with_own ∙ decided-write d x.request) to

  moves-hidden : (p : Meta × Reader) (rest events : List Event) (y : Request) (z : Ongoing) (u : Store) → AreQuiet rest → y ≡ asked false rest with_own → had ≡ Some p → events ≡ E.Look (slot k) a ∷ rest → z.request ≡ y → z.pair ≡ None → u ≡ left_by (pair_reader x.pair) (left (followed s (Some p)) p.1)
      → MovesStore (Some x) s events (Some z) u
  moves-hidden p rest events y z u quiet now found all request held to =
      hidden x z s u (slot k) a p rest events (is ∙ found) (find-at s x.request.key k (Some p) named found) quiet all held
      (ap (λ (v : Request). v.reader) (request ∙ now) ∙ asked-reader false rest with_own ∙ decided-reader d x.request)
      (ap (λ (v : Request). v.write) (request ∙ now) ∙ asked-write false rest with_own ∙ decided-write d x.request) to

  -- the store of a look-up that goes on
  store-on : is_deferral d ≡ false → store_looked_with d x.request s ≡ searched s x.request
  store-on goes = ap (λ b. cond b (left_by x.request.reader (dropped_by x.request.write s)) (searched s x.request)) goes

  searched-at : (p : Option (Meta × Reader)) → had ≡ p → searched s x.request ≡ without_hidden from p (followed s p)
  searched-at p found = ap (λ o. without_hidden from o (followed s o)) found

  moves-missed : (o : Option (Meta × Reader)) → had ≡ o → (rest events : List Event) (y : Request) (z : Ongoing) (u : Store) → AreQuiet rest → y ≡ asked false rest with_own → is_unseen from had ≡ true → events ≡ E.Look (slot k) a ∷ rest → z.request ≡ y → z.pair ≡ None
      → u ≡ left_by (pair_reader x.pair) (searched s x.request) → MovesStore (Some x) s events (Some z) u
  moves-missed None found rest events y z u quiet now hides all request held to =
      moves-on None rest events y z u quiet now found all request held (to ∙ ap (left_by (pair_reader x.pair)) (searched-at None found))
  moves-missed (Some p) found rest events y z u quiet now hides all request held to =
      moves-hidden p rest events y z u quiet now found all request held
      (to ∙ ap (left_by (pair_reader x.pair)) (searched-at (Some p) found ∙ ap (λ b. cond b (left (followed s (Some p)) p.1) (followed s (Some p))) (sym (ap (is_unseen from) found) ∙ hides)))

  moves-by : (l : LookUp MemHitHandler) (y : Request) (z : Ongoing) (v u : Store) (events : List Event) → pair_handed l ≡ seen_for s x.request → Tells d s t x.request l → OnLooked l (y ≡ looked_with d s t x.request) → OnUnlocked l (y ≡ with_own)
      → v ≡ store_looked_with d x.request s → u ≡ left_by (pair_reader x.pair) v → z ≡ held_after_look l (record { request = y; pair = x.pair; carried = x.carried; put = x.put }) → events ≡ noted_look (slot k) a x.request.write l → MovesStore (Some x) s events (Some z) u
  moves-by (look.Found m h) y z v u events handed tells ok err into to now all =
      let q : Meta × Reader = (m, reader_of h) in
      let sees = seen from had q (sym handed) in
      moves-on (Some q) [] events y z u tt (request-seen y tells sees.1 ok) sees.0 all (ap (λ (w : Ongoing). w.request) now) (ap (λ (w : Ongoing). w.pair) now)
      (to ∙ ap (left_by (pair_reader x.pair)) (into ∙ store-on tells ∙ searched-at (Some q) sees.0 ∙ ap (λ b. cond b (left (followed s (Some q)) q.1) (followed s (Some q))) (sym (ap (is_unseen from) sees.0) ∙ sees.1)))
  moves-by (look.NotFound b) y z v u events handed tells ok err into to now all =
      moves-missed had refl (asking_if (slot k) b) events y z u (quiet-asked (slot k) b) (request-missed y b handed tells ok err) (unseen from had (sym handed)) all (ap (λ (w : Ongoing). w.request) now) (ap (λ (w : Ongoing). w.pair) now)
      (to ∙ ap (left_by (pair_reader x.pair)) (into ∙ store-on tells.0))
  moves-by (look.Deferred q) y z v u events handed tells ok err into to now all =
      let none : pair_of a ≡ None = none-deferred (pair_of a) (observes x.request) (Some (policy_in x.carried)) (ap is_deferral (sym own) ∙ tells.0) in
      let off = ap (λ (w : Ongoing). w.request) now ∙ request-off y tells.0 ok in
      defers x z s u (slot k) a (permit_in q) events none (find-at s x.request.key k None named (sym is ∙ none)) all (ap (λ (w : Ongoing). w.pair) now) (ap (λ (r : Request). r.reader) off) (ap (λ (r : Request). r.write) off)
      (to ∙ ap (left_by (pair_reader x.pair)) (into ∙ ap (λ b. cond b (left_by x.request.reader (dropped_by x.request.write s)) (searched s x.request)) tells.0))

  pub look-moves : (l : LookUp MemHitHandler) (y : Request) (z : Ongoing) (v u : Store) (events : List Event) → pair_handed l ≡ seen_for s x.request → Tells d s t x.request l → OnLooked l (y ≡ looked_with d s t x.request) → OnUnlocked l (y ≡ with_own)
      → v ≡ store_looked_with d x.request s → u ≡ left_by (pair_reader x.pair) v → z ≡ held_after_look l (record { request = y; pair = x.pair; carried = x.carried; put = x.put }) → events ≡ noted_look (slot k) a x.request.write l → MovesStore (Some x) s events (Some z) u
  look-moves l y z v u events handed tells ok err into to now all = moves-by l y z v u events handed tells ok err into to now all

  -- what is kept
  keeps-by : (l : LookUp MemHitHandler) (y : Request) → pair_handed l ≡ seen_for s x.request → Tells d s t x.request l → OnLooked l (y ≡ looked_with d s t x.request) → OnUnlocked l (y ≡ with_own) → KeepsIn x.request y
  keeps-by (look.Found m h) y handed tells ok err = subst (KeepsIn x.request) (sym (request-seen y tells (seen from had (m, reader_of h) (sym handed)).1 ok)) (keeps-decided d [] x.request)
  keeps-by (look.NotFound b) y handed tells ok err = subst (KeepsIn x.request) (sym (request-missed y b handed tells ok err)) (keeps-decided d (asking_if (slot k) b) x.request)
  keeps-by (look.Deferred q) y handed tells ok err =
      let off = request-off y tells.0 ok in
      keeps-off x.request y (subst (λ (r : Request). IsDisabled r.phase) (sym off) tt) (ap (λ (r : Request). r.write) off)

  request-after : (l : LookUp MemHitHandler) (z : Ongoing) → (held_after_look l z).request ≡ z.request
  request-after (look.Found m h) z = refl
  request-after (look.NotFound b) z = refl
  request-after (look.Deferred q) z = refl

  pub look-keeps : (l : LookUp MemHitHandler) (y : Request) (z : Ongoing) → pair_handed l ≡ seen_for s x.request → Tells d s t x.request l → OnLooked l (y ≡ looked_with d s t x.request) → OnUnlocked l (y ≡ with_own)
      → z ≡ held_after_look l (record { request = y; pair = x.pair; carried = x.carried; put = x.put }) → KeepsKey (Some x) (Some z)
  look-keeps l y z handed tells ok err now = subst (KeepsIn x.request) (sym (ap (λ (w : Ongoing). w.request) now ∙ request-after l _)) (keeps-by l y handed tells ok err)

  -- the locks after it
  missed-decided : (o : Option Decision) (n at : ℕ) (y : Request) (v : Locks) (q : Option AskedLock) (events : List Event) → q ≡ asked_for_key t x.request → y ≡ with_key_lock t (with_decision o x.request) → v ≡ table_key_locked at x.request t → events ≡ E.Look (slot k) a ∷ asking (slot k) q
      → MovesLocks n (deeds_by n at TransientError events) x.request.held t y.held v
  missed-decided None n at y v q events ok now to all = missed-locks n at TransientError t v x.request y k a (slot k) q [] (E.Look (slot k) a ∷ []) events named refl ok now to refl refl all
  missed-decided (Some e) n at y v q events ok now to all = missed-locks n at TransientError t v (decided e x.request) y k a (slot k) q [] (E.Look (slot k) a ∷ []) events named refl ok now to refl refl all

  table-on : (at : ℕ) (v : Locks) (b : Bool) → is_deferral d ≡ false → is_unseen from had ≡ b → v ≡ table_looked_with d s at x.request t → v ≡ cond b (table_key_locked at x.request t) t
  table-on at v b goes sees to = to ∙ ap (λ c. cond c (settled TransientError x.request.held t) (table_looked_for s at x.request t)) goes ∙ ap (λ c. cond c (table_key_locked at x.request t) t) sees

  pub look-locks : (n at : ℕ) (l : LookUp MemHitHandler) (y : Request) (v : Locks) (events : List Event) → pair_handed l ≡ seen_for s x.request → Tells d s t x.request l → OnLooked l (y ≡ looked_with d s t x.request) → OnUnlocked l (y ≡ with_own)
      → OnLooked l (v ≡ table_looked_with d s at x.request t) → OnUnlocked l (v ≡ t) → events ≡ noted_look (slot k) a x.request.write l → MovesLocks n (deeds_by n at TransientError events) x.request.held t y.held v
  look-locks n at (look.Found m h) y v events handed tells ok err to same all =
      let sees = (seen from had (m, reader_of h) (sym handed)).1 in
      look-noted n at TransientError (slot k) a x.request.held y.held t v [] events refl all (ap (λ (r : Request). r.held) (request-seen y tells sees ok) ∙ decided-held d x.request) (table-on at v false tells sees to)
  look-locks n at (look.NotFound (Ok q)) y v events handed tells ok err to same all =
      let hides = unseen from had (sym handed) in
      missed-decided d n at y v q events tells.1 (request-locked y tells.0 hides ok) (table-on at v true tells.0 hides to) all
  look-locks n at (look.NotFound (Err e)) y v events handed tells ok err to same all =
      look-noted n at TransientError (slot k) a x.request.held y.held t v [] events refl all (ap (λ (r : Request). r.held) err ∙ decided-held d x.request) same
  look-locks n at (look.Deferred q) y v events handed tells ok err to same all =
      deferred-locks n at TransientError t v x.request.held y.held (permit_in q) x.request.write (E.Look (slot k) a) [] (E.Look (slot k) a ∷ []) events tt tt (ap permit_in tells.1 ∙ permit-named x.request.held) refl refl all (ap (λ (r : Request). r.held) (request-off y tells.0 ok))
      (to ∙ ap (λ c. cond c (settled TransientError x.request.held t) (table_looked_for s at x.request t)) tells.0)

-- ---- a decision that is carried plays no part in what moves

next-carried : (limits : Limits) (d : Option Decision) (x : Ongoing) (o : Option Owed) (a : At) (e : Event) → IsNextAt limits o a (Some (carrying d x)) e → IsNextAt limits o a (Some x) e
next-carried limits d x None a (E.Finish w true) due = due
next-carried limits d x None a (E.Finish w false) due = due
next-carried limits d x None a e due = due
next-carried limits d x (Some n) a e due = due

acts-carried : (limits : Limits) (d : Option Decision) (x : Ongoing) (acts : List Act) (a b : At) → RunsActs limits (Some (carrying d x)) acts a b → RunsActs limits (Some x) acts a b
acts-carried limits d x [] a b same = same
acts-carried limits d x (Did e ∷ acts) a b h = (next-carried limits d x a.owed a e h.0, acts-carried limits d x acts (after_event e a) b h.1)
acts-carried limits d x (Joins p ∷ acts) a b h = (h.0, acts-carried limits d x acts (after_join p a) b h.1)
acts-carried limits d x (Leaves r ∷ acts) a b h = (h.0, h.1, acts-carried limits d x acts (after_leave h.0 r a) b h.2)

pub carried-moves : (d : Option Decision) (x z : Ongoing) (q : Option Ongoing) (s u : Store) (events : List Event) → z ≡ carrying d x → MovesStore (Some z) s events q u → MovesStore (Some x) s events q u
carried-moves d x z q s u events is moves limits m =
    let h = subst (λ (z : Ongoing). MovesStore (Some z) s events q u) is moves limits m in
    (h.0, h.1, acts-carried limits d x h.0 (at_call (Some x) s m) (at_call q u m) h.2)

-- a look-up asks only what is found, and how many permits were asked for

misses-by : (f g : Facts) (k : ℕ) (a : Answer) (x : Request) (reply : Reply) (events : List Event) → f.asked ≡ g.asked → Misses f k a x reply events → Misses g k a x reply events
misses-by f g k a x reply events same (inl (e, used, inl oom, is, told)) = inl (e, used, inl oom, is, told)
misses-by f g k a x reply events same (inl (e, used, inr (number, asks, many), is, told)) = inl (e, used, inr (number, asks, subst (λ n. 2 ^ 64 ≤ n) same many), is, told)
misses-by f g k a x reply events same (inr more) = inr more

looks-on-by : (b c : Bool) (f g : Facts) (k : ℕ) (a : Answer) (x : Request) (reply : Reply) (events : List Event) → is_unseen x.valid_after (pair_of a) ≡ c → f.asked ≡ g.asked → LooksOn b f k a x reply events → LooksOn b g k a x reply events
looks-on-by true c f g k a x reply events unseen same h = h
looks-on-by false true f g k a x reply events unseen same h = subst (λ c. HandsOn c g k a x reply events) (sym unseen) (misses-by f g k a x reply events same (subst (λ c. HandsOn c f k a x reply events) unseen h))
looks-on-by false false f g k a x reply events unseen same h = subst (λ c. HandsOn c g k a x reply events) (sym unseen) (subst (λ c. HandsOn c f k a x reply events) unseen h)

pub looks-by : (f g : Facts) (x : Ongoing) (reply : Reply) (events : List Event) → f.found ≡ g.found → f.asked ≡ g.asked → Looks f x reply events → Looks g x reply events
looks-by f g x reply events found same (inl (some, starved)) = inl (subst IsSome found some, starved)
looks-by f g x reply events found same (inr (k, a, key, is, on)) = inr (k, a, key, is ∙ found, looks-on-by (is_deferral (decides a x)) (is_unseen x.request.valid_after (pair_of a)) f g (slot k) a x.request reply events refl same on)
