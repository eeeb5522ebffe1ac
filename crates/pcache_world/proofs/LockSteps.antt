-- What the functions of calls do to the lock table and to the lock that their request holds, as one move.
use Rattle.std.proofs.Common.{option_map}
use Rattle.std.proofs.lemmas.List.{append_assoc}
use Rattle.pcache_lock.specs.declared.lock.status.LockStatus.TheVariants.{Done}
use Rattle.pcache_request.specs.Requests.{Request, table_asked}
use Rattle.pcache_store.specs.Store.{Reader}
use Rattle.pcache_lock.specs.Deeds.{LetGo}
use Rattle.pcache_history.specs.Deeds.{Did, keeps}
use Rattle.pcache_world.specs.Step.{permit_in}
use Rattle.pcache_world.proofs.Words.{◌≡◌, ℕ, Bool, true, false, cond, if◌then◌else◌, Option, None, Some, List, [], ◌∷◌, ◌++◌, refl, ap, sym, subst, ◌∙◌, Result, Ok, Err, list_any, Key, slot, ErrorType, WriteRemoved, CacheEntryKey, Locks, holder, lock_given, is_permit, number_of_lock, IsReason, Locked, LockStatus, TransientError, Meta, published_by, asked_with, asked_by_found, name_of, asks_as_stale, asks_for_hit, counts_found, entry_of, found_row, let_go_by, settled, table_found, with_lock, asked_for_key, table_key_locked, with_key_lock, AskedLock, HitStatus, reader_weight, write_read, Answer, Event, Released, Deed, deed_of, deeds_by, published_on, MovesLocks, asks, each_deed, lets_go, publishes, rests, settles, accesses, drop_of, each, permit_of, asking, refused_end, renewing, untracking, AreOfNoLock, IsOfNoLock}
use Rattle.pcache_history.specs.declared.entry.Event.TheVariants as E
use Rattle.pcache_lock.specs.Deeds as deed
use Rattle.pcache_world.proofs.Noted.{permit-named}

-- ---- deeds of lists of events

quiet-deed : (r at : ℕ) (s : LockStatus) (e : Event) → IsOfNoLock e → deed_of r at s e ≡ []
quiet-deed r at s (E.Ask k n b) h = absurd h
quiet-deed r at s (E.Release n) h = absurd h
quiet-deed r at s (E.LetGo n) h = absurd h
quiet-deed r at s (E.Aged n) h = absurd h
quiet-deed r at s e h = refl

quiet-first : (r at : ℕ) (s : LockStatus) (xs ys : List Event) → AreOfNoLock xs → deeds_by r at s (xs ++ ys) ≡ deeds_by r at s ys
quiet-first r at s [] ys h = refl
quiet-first r at s (e ∷ xs) ys h = ap (λ ds. ds ++ deeds_by r at s (xs ++ ys)) (quiet-deed r at s e h.0) ∙ quiet-first r at s xs ys h.1

pub quiet-deeds : (r at : ℕ) (s : LockStatus) (xs : List Event) → AreOfNoLock xs → deeds_by r at s xs ≡ []
quiet-deeds r at s [] h = refl
quiet-deeds r at s (e ∷ xs) h = ap (λ ds. ds ++ deeds_by r at s xs) (quiet-deed r at s e h.0) ∙ quiet-deeds r at s xs h.1

deeds-both : (r at : ℕ) (s : LockStatus) (xs ys : List Event) → deeds_by r at s (xs ++ ys) ≡ deeds_by r at s xs ++ deeds_by r at s ys
deeds-both r at s [] ys = refl
deeds-both r at s (e ∷ xs) ys = ap (λ ds. deed_of r at s e ++ ds) (deeds-both r at s xs ys) ∙ sym (append_assoc (deed_of r at s e) (deeds_by r at s xs) (deeds_by r at s ys))

no-more : (ds : List Deed) → ds ++ [] ≡ ds
no-more [] = refl
no-more (d ∷ ds) = ap (λ xs. d ∷ xs) (no-more ds)

quiet-last : (r at : ℕ) (s : LockStatus) (xs ys : List Event) → AreOfNoLock ys → deeds_by r at s (xs ++ ys) ≡ deeds_by r at s xs
quiet-last r at s xs ys h = deeds-both r at s xs ys ∙ ap (λ ds. deeds_by r at s xs ++ ds) (quiet-deeds r at s ys h) ∙ no-more (deeds_by r at s xs)

released-deeds : (r at : ℕ) (s : LockStatus) (o : Option ℕ) → deeds_by r at s (each E.Release o) ≡ each_deed (λ n. Did r (Released n s)) o
released-deeds r at s None = refl
released-deeds r at s (Some n) = refl

pub let-go-deeds : (r at : ℕ) (s : LockStatus) (o : Option ℕ) → deeds_by r at s (each E.LetGo o) ≡ each_deed (λ n. Did r (LetGo n)) o
let-go-deeds r at s None = refl
let-go-deeds r at s (Some n) = refl

quiet-drop : (write : Option ℕ) → AreOfNoLock (drop_of write)
quiet-drop None = tt
quiet-drop (Some w) = (tt, tt)

pub quiet-refused : (w : ℕ) (kind : ErrorType) → IsOfNoLock (refused_end w kind)
quiet-refused w WriteRemoved = tt
quiet-refused w kind = tt

quiet-accesses : (s : HitStatus) (k : Key) (h : Reader) (x : Request) → AreOfNoLock (accesses s k h x)
quiet-accesses s k h x = elim (counts_found s h x) as (λ b. AreOfNoLock (if b then E.Access (entry_of k (write_read h)) (reader_weight h) ∷ [] else [])) [ true ↦ (tt, tt) | false ↦ tt ]

quiet-renewing : (j : ℕ) (m : Meta) (r : Result Bool ErrorType) → AreOfNoLock (renewing j m r)
quiet-renewing j m (Ok true) = (tt, tt)
quiet-renewing j m (Ok false) = tt
quiet-renewing j m (Err e) = tt

-- ---- nothing is done to locks

pub no_locks_move : (r : ℕ) (ds : List Deed) (h last : Option Locked) (t u : Locks) → ds ≡ [] → last ≡ h → u ≡ t → MovesLocks r ds h t last u
no_locks_move r ds h last t u none same is = record { move = rests; may = tt; done = none; held = same; table = is }

pub quiet_locks : (r at : ℕ) (s : LockStatus) (events : List Event) (h last : Option Locked) (t u : Locks) → AreOfNoLock events → last ≡ h → u ≡ t → MovesLocks r (deeds_by r at s events) h t last u
quiet_locks r at s events h last t u quiet same is = no_locks_move r (deeds_by r at s events) h last t u (quiet-deeds r at s events quiet) same is

pub none_noted : (r at : ℕ) (s : LockStatus) (events : List Event) (h last : Option Locked) (t u : Locks) → events ≡ [] → last ≡ h → u ≡ t → MovesLocks r (deeds_by r at s events) h t last u
none_noted r at s events h last t u none same is = no_locks_move r (deeds_by r at s events) h last t u (ap (deeds_by r at s) none) same is

-- ---- what is held is released

settles-as : (r : ℕ) (s : LockStatus) (t u : Locks) (h last : Option Locked) (o : Option ℕ) (ds : List Deed) → IsReason s → o ≡ permit_of h → ds ≡ each_deed (λ n. Did r (Released n s)) o → last ≡ None → u ≡ settled s h t → MovesLocks r ds h t last u
settles-as r s t u h last o ds reason permit is none to = record { move = settles s; may = reason; done = is ∙ ap (each_deed (λ n. Did r (Released n s))) permit; held = none; table = to }

-- with these events before it and after it
pub settle-locks : (r at : ℕ) (s : LockStatus) (t u : Locks) (h last : Option Locked) (o : Option ℕ) (first behind events : List Event) → IsReason s → AreOfNoLock first → AreOfNoLock behind → events ≡ (first ++ each E.Release o) ++ behind → o ≡ permit_of h → last ≡ None → u ≡ settled s h t
    → MovesLocks r (deeds_by r at s events) h t last u
settle-locks r at s t u h last o first behind events reason quiet still is permit none to =
    settles-as r s t u h last o (deeds_by r at s events) reason permit
    (ap (deeds_by r at s) is ∙ quiet-last r at s (first ++ each E.Release o) behind still ∙ quiet-first r at s first (each E.Release o) quiet ∙ released-deeds r at s o) none to

no-after : (es : List Event) → es ++ [] ≡ es
no-after [] = refl
no-after (e ∷ es) = ap (λ xs. e ∷ xs) (no-after es)

-- alone; and with the drop of a write after it
pub settle-alone : (r at : ℕ) (s : LockStatus) (t u : Locks) (h last : Option Locked) (o : Option ℕ) (old events : List Event) → IsReason s → o ≡ permit_of h → old ≡ [] → events ≡ old ++ each E.Release o → last ≡ None → u ≡ settled s h t → MovesLocks r (deeds_by r at s events) h t last u
settle-alone r at s t u h last o old events reason permit none is gone to =
    settle-locks r at s t u h last o old [] events reason (subst AreOfNoLock (sym none) tt) tt (is ∙ sym (no-after (old ++ each E.Release o))) permit gone to

pub settle-then : (r at : ℕ) (s : LockStatus) (t u : Locks) (h last : Option Locked) (o write : Option ℕ) (old events : List Event) → IsReason s → o ≡ permit_of h → old ≡ [] → events ≡ old ++ each E.Release o ++ drop_of write → last ≡ None → u ≡ settled s h t → MovesLocks r (deeds_by r at s events) h t last u
settle-then r at s t u h last o write old events reason permit none is gone to = settle-locks r at s t u h last o old (drop_of write) events reason (subst AreOfNoLock (sym none) tt) (quiet-drop write) is permit gone to

-- after one event, and before another
pub release-locks : (r at : ℕ) (s : LockStatus) (t u : Locks) (h last : Option Locked) (o : Option ℕ) (one : Event) (old events : List Event) → IsReason s → IsOfNoLock one → o ≡ permit_of h → old ≡ [] → events ≡ old ++ one ∷ each E.Release o → last ≡ None → u ≡ settled s h t → MovesLocks r (deeds_by r at s events) h t last u
release-locks r at s t u h last o one old events reason quiet permit none is gone to =
    settle-locks r at s t u h last o (one ∷ []) [] events reason (quiet, tt) tt (is ∙ ap (λ es. es ++ one ∷ each E.Release o) none ∙ sym (no-after (one ∷ each E.Release o))) permit gone to

pub release-then : (r at : ℕ) (s : LockStatus) (t u : Locks) (h last : Option Locked) (o : Option ℕ) (one two : Event) (old mid events : List Event) → IsReason s → IsOfNoLock one → IsOfNoLock two → o ≡ permit_of h → old ≡ [] → mid ≡ old ++ one ∷ each E.Release o → events ≡ mid ++ two ∷ [] → last ≡ None → u ≡ settled s h t
    → MovesLocks r (deeds_by r at s events) h t last u
release-then r at s t u h last o one two old mid events reason quiet still permit none is all gone to =
    settle-locks r at s t u h last o (one ∷ []) (two ∷ []) events reason (quiet, tt) (still, tt) (all ∙ ap (λ es. es ++ two ∷ []) (is ∙ ap (λ es. es ++ one ∷ each E.Release o) none)) permit gone to

-- a look-up that turns caching off
pub deferred-locks : (r at : ℕ) (s : LockStatus) (t u : Locks) (h last : Option Locked) (o write : Option ℕ) (one : Event) (old first events : List Event) → IsReason s → IsOfNoLock one → o ≡ permit_of h → old ≡ [] → first ≡ old ++ one ∷ [] → events ≡ first ++ each E.Release o ++ drop_of write → last ≡ None → u ≡ settled s h t
    → MovesLocks r (deeds_by r at s events) h t last u
deferred-locks r at s t u h last o write one old first events reason quiet permit none is all gone to =
    settle-locks r at s t u h last o first (drop_of write) events reason (subst AreOfNoLock (sym (is ∙ ap (λ es. es ++ one ∷ []) none)) (quiet, tt)) (quiet-drop write) all permit gone to

-- a stale body is found good
pub renewed-locks : (r at : ℕ) (s : LockStatus) (t u : Locks) (h last : Option Locked) (o : Option ℕ) (j : ℕ) (m : Meta) (a : Result Bool ErrorType) (old mid events : List Event) → IsReason s → o ≡ permit_of h → old ≡ [] → mid ≡ old ++ renewing j m a → events ≡ mid ++ each E.Release o → last ≡ None → u ≡ settled s h t
    → MovesLocks r (deeds_by r at s events) h t last u
renewed-locks r at s t u h last o j m a old mid events reason permit none is all gone to =
    settle-locks r at s t u h last o mid [] events reason (subst AreOfNoLock (sym (is ∙ ap (λ es. es ++ renewing j m a) none)) (quiet-renewing j m a)) tt (all ∙ sym (no-after (mid ++ each E.Release o))) permit gone to

-- a permit is released if the key gives its variance up
pub varied-locks : (r at : ℕ) (s : LockStatus) (t u : Locks) (b : Bool) (h last : Option Locked) (o : Option ℕ) (old events : List Event) → IsReason s → o ≡ permit_in (cond b (option_map name_of h) None) → old ≡ [] → events ≡ old ++ each E.Release o → last ≡ cond b None h → u ≡ cond b (settled s h t) t
    → MovesLocks r (deeds_by r at s events) h t last u
varied-locks r at s t u b h last o old events reason permit none is gone to =
    elim b as (λ b. o ≡ permit_in (cond b (option_map name_of h) None) → last ≡ cond b None h → u ≡ cond b (settled s h t) t → MovesLocks r (deeds_by r at s events) h t last u) [
      | true ↦ λ p g x. settle-alone r at s t u h last o old events reason (p ∙ permit-named h) none is g x
      | false ↦ λ p g x. none_noted r at s events h last t u (is ∙ (λ i. none i ++ each E.Release (p i))) g x
    ] permit gone to

-- ---- what is held is let go

pub ended-locks : (r at : ℕ) (s : LockStatus) (t u : Locks) (h : Option Locked) (write permit : Option ℕ) (old mid events : List Event) → permit ≡ permit_of h → old ≡ [] → mid ≡ old ++ drop_of write → events ≡ mid ++ each E.LetGo permit → u ≡ let_go_by h t → MovesLocks r (deeds_by r at s events) h t None u
ended-locks r at s t u h write permit old mid events held none one is to = record {
  move = lets_go;
  may = tt;
  done = ap (deeds_by r at s) is ∙ quiet-first r at s mid (each E.LetGo permit) (subst AreOfNoLock (sym (one ∙ ap (λ es. es ++ drop_of write) none)) (quiet-drop write)) ∙ let-go-deeds r at s permit ∙ ap (each_deed (λ n. Did r (LetGo n))) held;
  held = refl;
  table = to;
}

-- ---- tokens are published

pub publish-locks : (r : ℕ) (t u : Locks) (tokens : List ℕ) (h : Option Locked) → u ≡ published_by tokens h t → MovesLocks r (published_on r tokens h ++ []) h t h u
publish-locks r t u tokens h to = record { move = publishes tokens; may = tt; done = no-more (published_on r tokens h); held = refl; table = to }

-- ---- the lock of a key is asked for

-- a lock that is asked for, if it is
abbrev asked_if : Bool → Bool → Locks → Option Key → Option Locked → Option AskedLock
asked_if b stale t o h = cond b (option_map (λ k. asked_with stale t k h) o) None

asked-deeds : (r at : ℕ) (s : LockStatus) (j n : ℕ) (b : Bool) (o : Option ℕ) → deeds_by r at s (E.Ask j n b ∷ each E.LetGo o) ≡ Did r (deed.asked j false at n b) ∷ each_deed (λ n. Did r (LetGo n)) o
asked-deeds r at s j n b o = ap (λ ds. Did r (deed.asked j false at n b) ∷ ds) (let-go-deeds r at s o)

-- of a request that holds h, after these events
asks-locks : (r at : ℕ) (s : LockStatus) (t u : Locks) (b stale : Bool) (j : ℕ) (o : Option Key) (k : Key) (h last : Option Locked) (a : Option AskedLock) (first events : List Event) → o ≡ Some k → j ≡ slot k → a ≡ asked_if b stale t o h → last ≡ cond b (option_map (λ k. lock_given t stale (holder t (slot k))) o) h
    → u ≡ cond b (table_asked stale at o h t) t → AreOfNoLock first → events ≡ first ++ asking j a → MovesLocks r (deeds_by r at s events) h t last u
asks-locks r at s t u b stale j o k h last a first events key is asked now to quiet all =
    elim b as (λ b. a ≡ asked_if b stale t o h → last ≡ cond b (option_map (λ k. lock_given t stale (holder t (slot k))) o) h → u ≡ cond b (table_asked stale at o h t) t → MovesLocks r (deeds_by r at s events) h t last u) [
      | true ↦ λ e f g. record {
        move = asks (slot k) stale at;
        may = tt;
        done = ap (deeds_by r at s) (all ∙ (λ i. first ++ asking (is i) (e i)) ∙ ap (λ q. first ++ asking (slot k) (asked_if true stale t q h)) key) ∙ quiet-first r at s first (asking (slot k) (asked_if true stale t (Some k) h)) quiet
            ∙ asked-deeds r at s (slot k) (number_of_lock (lock_given t stale (holder t (slot k)))) (is_permit (lock_given t stale (holder t (slot k)))) (permit_in (option_map name_of h))
            ∙ ap (λ p. Did r (deed.asked (slot k) false at (number_of_lock (lock_given t stale (holder t (slot k)))) (is_permit (lock_given t stale (holder t (slot k))))) ∷ each_deed (λ n. Did r (LetGo n)) p) (permit-named h);
        held = f ∙ ap (option_map (λ k. lock_given t stale (holder t (slot k)))) key;
        table = g ∙ ap (λ q. table_asked stale at q h t) key;
      }
      | false ↦ λ e f g. quiet_locks r at s events h last t u (subst AreOfNoLock (sym (all ∙ ap (λ x. first ++ asking j x) e ∙ no-after first)) quiet) f g
    ] asked now to

held-asked : (b stale : Bool) (t : Locks) (o : Option Key) (x : Request) (k : Key) → o ≡ Some k → (cond b (with_lock stale t o x) x).held ≡ cond b (option_map (λ k. lock_given t stale (holder t (slot k))) o) x.held
held-asked b stale t o x k key =
    subst (λ o. (cond b (with_lock stale t o x) x).held ≡ cond b (option_map (λ k. lock_given t stale (holder t (slot k))) o) x.held) (sym key)
    (elim b as (λ b. (cond b (with_lock stale t (Some k) x) x).held ≡ cond b (option_map (λ k. lock_given t stale (holder t (slot k))) (Some k)) x.held) [ true ↦ refl | false ↦ refl ])

-- a look-up that hands nothing on
pub missed-locks : (r at : ℕ) (s : LockStatus) (t u : Locks) (x y : Request) (k : Key) (answer : Answer) (j : ℕ) (a : Option AskedLock) (old first events : List Event) → x.key ≡ Some k → j ≡ slot k → a ≡ asked_for_key t x → y ≡ with_key_lock t x → u ≡ table_key_locked at x t
    → old ≡ [] → first ≡ old ++ E.Look j answer ∷ [] → events ≡ first ++ asking j a → MovesLocks r (deeds_by r at s events) x.held t y.held u
missed-locks r at s t u x y k answer j a old first events key is asked now to none one all =
    asks-locks r at s t u x.uses.lock false j x.key k x.held y.held a first events key is asked (ap (λ (z : Request). z.held) now ∙ held-asked x.uses.lock false t x.key x k key) to
    (subst AreOfNoLock (sym (one ∙ ap (λ es. es ++ E.Look j answer ∷ []) none)) (tt, tt)) all

-- what was found is taken
pub taken-locks : (r at : ℕ) (l : LockStatus) (s : HitStatus) (t u : Locks) (x y : Request) (k : Key) (m : Meta) (h : Reader) (j : ℕ) (a : Option AskedLock) (events : List Event) → x.key ≡ Some k → j ≡ slot k → a ≡ asked_by_found s t x → y ≡ found_row s m h t x → u ≡ table_found s at x t
    → events ≡ accesses s k h x ++ asking j a → MovesLocks r (deeds_by r at l events) x.held t y.held u
taken-locks r at l s t u x y k m h j a events key is asked now to all =
    asks-locks r at l t u (asks_for_hit s x) (asks_as_stale s x.phase) j x.key k x.held y.held a (accesses s k h x) events key is asked
    (ap (λ (z : Request). z.held) now ∙ held-asked (asks_for_hit s x) (asks_as_stale s x.phase) t x.key x k key) to (quiet-accesses s k h x) all

pub untaken-locks : (r at : ℕ) (l : LockStatus) (s : HitStatus) (t u : Locks) (x y : Request) (k : Key) (h : Reader) (events : List Event) → u ≡ t → y ≡ x → events ≡ accesses s k h x → MovesLocks r (deeds_by r at l events) x.held t y.held u
untaken-locks r at l s t u x y k h events same is all = quiet_locks r at l events x.held y.held t u (subst AreOfNoLock (sym all) (quiet-accesses s k h x)) (ap (λ (z : Request). z.held) is) same

-- ---- a key is removed

pub purge-locks : (r at : ℕ) (s : LockStatus) (t : Locks) (h : Option Locked) (j : ℕ) (gone : Option CacheEntryKey) (old events : List Event) → old ≡ [] → events ≡ old ++ E.Purge j ∷ untracking gone → MovesLocks r (deeds_by r at s events) h t h t
purge-locks r at s t h j gone old events none is =
    quiet_locks r at s events h h t t (subst AreOfNoLock (sym (is ∙ ap (λ es. es ++ E.Purge j ∷ untracking gone) none)) (tt, elim gone as (λ o. AreOfNoLock (untracking o)) [ None ↦ tt | Some e ↦ (tt, tt) ])) refl refl

-- ---- a look-up is noted

pub look-noted : (r at : ℕ) (s : LockStatus) (j : ℕ) (a : Answer) (h last : Option Locked) (t u : Locks) (old events : List Event) → old ≡ [] → events ≡ old ++ E.Look j a ∷ [] → last ≡ h → u ≡ t → MovesLocks r (deeds_by r at s events) h t last u
look-noted r at s j a h last t u old events none is same to = quiet_locks r at s events h last t u (subst AreOfNoLock (sym (is ∙ ap (λ es. es ++ E.Look j a ∷ []) none)) (tt, tt)) same to

-- ---- a write ends

no-keep : (o : Option ℕ) → list_any keeps (each E.Release o) ≡ false
no-keep None = refl
no-keep (Some n) = refl

refused-keeps : (w : ℕ) (kind : ErrorType) (o : Option ℕ) → list_any keeps (refused_end w kind ∷ each E.Release o) ≡ false
refused-keeps w WriteRemoved o = no-keep o
refused-keeps w kind o = no-keep o

-- a body is stored, and one more event is noted
pub stored-locks : (r at : ℕ) (t u : Locks) (h last : Option Locked) (o : Option ℕ) (w : ℕ) (two : Event) (old mid events : List Event) → IsOfNoLock two → o ≡ permit_of h → old ≡ [] → mid ≡ old ++ E.Finish w true ∷ each E.Release o → events ≡ mid ++ two ∷ [] → last ≡ None → u ≡ settled Done h t
    → MovesLocks r (deeds_by r at (cond (list_any keeps events) Done TransientError) events) h t last u
stored-locks r at t u h last o w two old mid events still permit none is all gone to =
    let kept : list_any keeps events ≡ true = ap (list_any keeps) (all ∙ ap (λ es. es ++ two ∷ []) (is ∙ ap (λ es. es ++ E.Finish w true ∷ each E.Release o) none)) in
    subst (λ s. MovesLocks r (deeds_by r at s events) h t last u) (sym (ap (λ b. cond b Done TransientError) kept)) (release-then r at Done t u h last o (E.Finish w true) two old mid events tt tt still permit none is all gone to)

-- its end fails
pub refused-locks : (r at : ℕ) (t u : Locks) (h last : Option Locked) (o : Option ℕ) (w : ℕ) (kind : ErrorType) (one : Event) (old events : List Event) → one ≡ refused_end w kind → o ≡ permit_of h → old ≡ [] → events ≡ old ++ one ∷ each E.Release o → last ≡ None → u ≡ settled TransientError h t
    → MovesLocks r (deeds_by r at (cond (list_any keeps events) Done TransientError) events) h t last u
refused-locks r at t u h last o w kind one old events named permit none is gone to =
    let dropped : list_any keeps events ≡ false = ap (list_any keeps) (is ∙ (λ i. none i ++ named i ∷ each E.Release o)) ∙ refused-keeps w kind o in
    subst (λ s. MovesLocks r (deeds_by r at s events) h t last u) (sym (ap (λ b. cond b Done TransientError) dropped)) (release-locks r at TransientError t u h last o one old events tt (subst IsOfNoLock (sym named) (quiet-refused w kind)) permit none is gone to)

-- a body expires
pub expire-locks : (r at : ℕ) (s : LockStatus) (t : Locks) (h : Option Locked) (j now : ℕ) (old events : List Event) → old ≡ [] → events ≡ old ++ E.Expire j now ∷ [] → MovesLocks r (deeds_by r at s events) h t h t
expire-locks r at s t h j now old events none is = quiet_locks r at s events h h t t (subst AreOfNoLock (sym (is ∙ ap (λ es. es ++ E.Expire j now ∷ []) none)) (tt, tt)) refl refl
