-- What a world notes of a look-up and of what it takes is what the request became.
use Rattle.std.proofs.Common.{IsTrue, option_map}
use Rattle.pcache_base.specs.CompactKey.{compact_of}
use Rattle.pcache_meta.specs.Meta.{internal_changed}
use Rattle.pcache_lock.specs.declared.lock.permit.Locked.TheVariants.{Read}
use Rattle.pcache_request.specs.declared.cache.finish.WriteEnd.TheVariants.{Stored}
use Rattle.pcache_store.specs.Purge.{purge_outcome, purged_at, expire_outcome, expired_at, slot_outcome}
use Rattle.pcache_store.specs.Store.{Reader, find}
use Rattle.pcache_store.specs.declared.storage.PurgeOutcome.{PurgeOutcome}
use Rattle.pcache_store.specs.declared.storage.PurgeOutcome.TheVariants.{NotFound, Expired}
use Rattle.pcache_request.specs.Reports.{released_as, access_by_found, entry_stored, untracked, untracked_for}
use Rattle.pcache_request.specs.Requests.{Request, is_removed_by, tracked_gone, tracked_gone_for}
use Rattle.pcache_history.specs.Rules.{renew_of, update_reply}
use Rattle.pcache_history.specs.Ongoing.{lock_of, asked}
use Rattle.pcache_world.specs.Step.{renewal_reply, kind_asked, permit_in}
use Rattle.pcache_world.proofs.Words.{◌≡◌, ℕ, Bool, true, false, ◌&&◌, cond, if◌then◌else◌, Option, None, Some, inl, inr, is_some, List, [], ◌∷◌, ◌++◌, refl, ap, sym, subst, ◌∙◌, IfSome, Result, Ok, Err, IfOk, IfErr, OnErr, Key, slot, Meta, ErrorType, OutOfMemory, NumbersExhausted, Locks, MayFailLock, lock_given, holder, is_permit, number_of_lock, Locked, LockStatus, Write, Poll, Tracked, CacheEntryKey, FinishReport, WriteEnd, Store, Part, complete_body, reader_weight, read_of, reader_after, purged, meta_changed, Slot, number_of_body, write_read, HitStatus, LockKind, Reply, Answer, Event, CachePhase, name_of, asked_with, asked_by_found, asked_for_key, with_key_lock, AskedLock, LockName, found_for, found_row, locked_found, phase_found, placed, with_lock, asks_for_hit, asks_as_stale, counts_found, entry_of, reader_in, writing, begun_for, followed_for, facts_in, there_for, complete_for, number_for, has_body, renewed_by, Misses, Renews, Takes, AsksIf, IsLockRefusal, each, accesses, permit_of, untrack_of, began, read_past, IsAnswered, renewing, asking, noting, permit_released, untracking}
use Rattle.std.specs.FinMap as map
use Rattle.pcache_meta.specs.Meta as metas
use Rattle.pcache_history.specs.declared.call.Reply.TheVariants as R
use Rattle.pcache_history.specs.declared.entry.Event.TheVariants as E
use Rattle.pcache_world.proofs.StateAnswers.{found-answer, read-past}
use Rattle.pcache_world.proofs.StateCalls.{begun-joins}

-- a lock that was just given is reported by its kind and its number
same-lock-given : (t : Locks) (stale : Bool) (o : Option ℕ) → lock_of stale (is_permit (lock_given t stale o)) (number_of_lock (lock_given t stale o)) ≡ lock_given t stale o
same-lock-given t stale None = refl
same-lock-given t stale (Some n) = refl

-- a permit that is let go gives no lock
asked-each : (stale : Bool) (older : Option ℕ) (x : Request) → asked stale (each E.LetGo older) x ≡ x
asked-each stale None x = refl
asked-each stale (Some n) x = refl

-- the permit that a report names is the one that is held
pub permit-named : (held : Option Locked) → permit_in (option_map name_of held) ≡ permit_of held
permit-named None = refl
permit-named (Some (Write p)) = refl
permit-named (Some (Read r)) = refl

pub permit-released : (s : LockStatus) (held : Option Locked) → permit_released (option_map (released_as s) held) ≡ permit_of held
permit-released s None = refl
permit-released s (Some (Write p)) = refl
permit-released s (Some (Read r)) = refl

-- a lock that was asked for
abbrev if_asked : Bool → Bool → Locks → Option Key → Option Locked → Option AskedLock
if_asked b stale t o h = cond b (option_map (λ k. asked_with stale t k h) o) None

-- it is what the clauses of calls want
asks-with : (b stale : Bool) (t : Locks) (k : Key) (h : Option Locked) → AsksIf b (slot k) h (asking (slot k) (if_asked b stale t (Some k) h)) (kind_asked (if_asked b stale t (Some k) h))
asks-with true stale t k h = let l = lock_given t stale (holder t (slot k)) in (number_of_lock l, is_permit l, ap (λ o. E.Ask (slot k) (number_of_lock l) (is_permit l) ∷ each E.LetGo o) (permit-named h), refl)
asks-with false stale t k h = (refl, refl)

asks-if : (b stale : Bool) (t : Locks) (k : Key) (j : ℕ) (h : Option Locked) (o : Option Key) (a : Option AskedLock) (l : Option LockKind) → o ≡ Some k → j ≡ slot k → a ≡ if_asked b stale t o h → l ≡ kind_asked a → AsksIf b (slot k) h (asking j a) l
asks-if b stale t k j h o a l key at is kind =
    let same = is ∙ ap (λ q. if_asked b stale t q h) key in
    subst (λ q. AsksIf b (slot k) h (asking j a) q) (sym (kind ∙ ap kind_asked same)) (subst (λ es. AsksIf b (slot k) h es (kind_asked (if_asked b stale t (Some k) h))) (sym (λ i. asking (at i) (same i))) (asks-with b stale t k h))

-- a request that holds the lock given to it, if it asked for one
asked-given : (b stale : Bool) (t : Locks) (o : Option Key) (j : ℕ) (x : Request) → cond b (with_lock stale t o x) x ≡ asked stale (asking j (if_asked b stale t o x.held)) x
asked-given true stale t None j x = refl
asked-given true stale t (Some k) j x = ap (λ l. record x { held = Some l }) (sym (same-lock-given t stale (holder t (slot k)))) ∙ sym (asked-each stale (permit_in (option_map name_of x.held)) _)
asked-given false stale t o j x = refl

-- if it asks for the key's
pub key-asked : (t : Locks) (x : Request) (j : ℕ) → with_key_lock t x ≡ asked false (asking j (asked_for_key t x)) x
key-asked t x j = asked-given x.uses.lock false t x.key j x

-- the reply to a look-up that hands nothing on
pub misses-asked : (s : Store) (t : Locks) (x : Request) (k : Key) (answer : Answer) (a : Option AskedLock) → x.key ≡ Some k → a ≡ asked_for_key t x → Misses (facts_in s t x) (slot k) answer x (R.NotFound (kind_asked a)) (E.Look (slot k) answer ∷ asking (slot k) a)
misses-asked s t x k answer a key is = inr (asking (slot k) a, kind_asked a, asks-if x.uses.lock false t k (slot k) x.held x.key a (kind_asked a) key refl is refl, refl, refl)

-- a lock fails when memory runs out, or if it was asked for and all numbers are used
pub lock-refused : (s : Store) (t : Locks) (x : Request) (asks : Bool) (e : ErrorType) → MayFailLock t e → (e ≡ NumbersExhausted → IsTrue asks) → IsLockRefusal (facts_in s t x) asks e
lock-refused s t x asks OutOfMemory h why = inl refl
lock-refused s t x asks NumbersExhausted h why = inr (refl, why refl, h)
lock-refused s t x asks e h why = absurd h

pub misses-refused : (s : Store) (t : Locks) (x : Request) (k : Key) (answer : Answer) (e : ErrorType) → IsTrue x.uses.lock → MayFailLock t e → Misses (facts_in s t x) (slot k) answer x (R.Refused e) (E.Look (slot k) answer ∷ [])
misses-refused s t x k answer e used why = inl (e, used, lock-refused s t x true e why (λ _. refl), refl, refl)

locked-phase : (s : HitStatus) (t : Locks) (x : Request) → (locked_found s t x).phase ≡ x.phase
locked-phase s t x = elim (asks_for_hit s x) as (λ b. (cond b (with_lock (asks_as_stale s x.phase) t x.key x) x).phase ≡ x.phase) [ true ↦ elim x.key as (λ k. (with_lock (asks_as_stale s x.phase) t k x).phase ≡ x.phase) [ None ↦ refl | Some k ↦ refl ] | false ↦ refl ]

pub found-phase : (s : HitStatus) (m : Meta) (h : Reader) (t : Locks) (x : Request) → (found_row s m h t x).phase ≡ phase_found s x.phase
found-phase s m h t x = ap (phase_found s) (locked-phase s t x)

-- the reply if a pair is taken
pub takes-found : (st : Store) (s : HitStatus) (t : Locks) (x : Request) (p : Meta × Reader) (k : Key) (j : ℕ) (a : Option AskedLock) (l : Option LockKind) (phase : CachePhase) (events : List Event) → x.key ≡ Some k → j ≡ slot k → a ≡ asked_by_found s t x → l ≡ kind_asked a
    → events ≡ accesses s k p.1 x ++ asking j a → phase ≡ phase_found s x.phase → Takes (facts_in st t x) s x (Some p) (R.Taken phase l) events
takes-found st s t x p k j a l phase events key at is kind all now =
    inr (k, key, inr (asking j a, l, asks-if (asks_for_hit s x) (asks_as_stale s x.phase) t k j x.held x.key a l key at is kind, all, ap (λ q. R.Taken q l) now))

answered-at : (s : Store) (k : ℕ) (p : Meta × Reader) → find s k ≡ Some p → IsAnswered p.0 p.1
answered-at s k p h = let a = found-answer s k in (a.0, a.1 ∙ h)

pub found-answered : (s : Store) (o : Option Key) (p : Meta × Reader) → found_for s o ≡ Some p → IsAnswered p.0 p.1
found-answered s None p h = absurd (cc)
found-answered s (Some k) p h = answered-at s (slot k) p h

-- what was found is taken

-- an access gives no lock
asked-accesses : (stale : Bool) (s : HitStatus) (k : Key) (h : Reader) (x : Request) (more : List Event) → asked stale (accesses s k h x ++ more) x ≡ asked stale more x
asked-accesses stale s k h x more = elim (counts_found s h x) as (λ b. asked stale ((if b then E.Access (entry_of k (write_read h)) (reader_weight h) ∷ [] else []) ++ more) x ≡ asked stale more x) [ true ↦ refl | false ↦ refl ]

pub found-asked : (s : HitStatus) (m : Meta) (h : Reader) (t : Locks) (x : Request) (k : Key) (j : ℕ) → found_row s m h t x ≡ placed s m h (asked (asks_as_stale s x.phase) (accesses s k h x ++ asking j (asked_by_found s t x)) x)
found-asked s m h t x k j = ap (placed s m h) (asked-given (asks_for_hit s x) (asks_as_stale s x.phase) t x.key j x ∙ sym (asked-accesses (asks_as_stale s x.phase) s k h x (asking j (asked_by_found s t x))))

-- what is noted of a use is what a hit that counts gives
pub noted-access : (s : HitStatus) (k : Key) (h : Reader) (x : Request) → x.key ≡ Some k → noting (access_by_found s h (write_read h) x) ≡ accesses s k h x
noted-access s k h x key =
    ap (λ o. noting (cond (counts_found s h x) (option_map (λ k. record { entry = entry_of k (write_read h); weight = reader_weight h }) o) None)) key
    ∙ elim (counts_found s h x) as (λ b. noting (cond b (Some (record { entry = entry_of k (write_read h); weight = reader_weight h })) None) ≡ (if b then E.Access (entry_of k (write_read h)) (reader_weight h) ∷ [] else [])) [ true ↦ refl | false ↦ refl ]

-- a reader that gave bytes is past them

pub read-moved : (s : Store) (x : Request) (a : Poll (Option (List ℕ))) → IfSome x.reader (λ r. a ≡ read_of s r) → record x { reader = option_map (reader_after s) x.reader } ≡ record x { reader = option_map (read_past a) x.reader }
read-moved s x a h = ap (λ r. record x { reader = r }) (elim x.reader as (λ o. IfSome o (λ r. a ≡ read_of s r) → option_map (reader_after s) o ≡ option_map (read_past a) o) [
  | None ↦ λ _. refl
  | Some r ↦ λ is. ap Some (sym (read-past s r) ∙ ap (λ p. read_past p r) (sym is))
] h)

-- a write that began is held, the permit is released, and the reader follows it

abbrev with_write : ℕ → Request → Request
with_write n x = record x { write = Some n; entry = Some n; held = None; reader = Some (Part n 0) }

pub began-is : (s : Store) (x y : Request) (k : Key) (m n : Meta) (w j : ℕ) (events rest : List Event) → x.key ≡ Some k → x.meta ≡ Some m
    → y ≡ writing true s.next (Some s.next) (begun_for x.key x.meta s) x → y.write ≡ Some w → events ≡ E.Begin w j n ∷ rest → y ≡ began true events x
began-is s x y k m n w j events rest key meta is wrote done =
    let joins : reader_in (followed_for x.key s.next (begun_for x.key x.meta s)) ≡ Some (Part s.next 0) =
    (λ i. reader_in (followed_for (key i) s.next (begun_for (key i) (meta i) s))) ∙ ap reader_in (begun-joins s (slot k) m) in
    let follows : y ≡ with_write s.next x = is ∙ ap (λ o. record x { write = Some s.next; entry = Some s.next; held = None; reader = o }) joins in
    let number : ◌≡◌ {A = Option ℕ} (Some s.next) (Some w) = sym (ap (λ (z : Request). z.write) follows) ∙ wrote in
    let same : s.next ≡ w = cc in
    follows ∙ ap (λ q. with_write q x) same ∙ ap (λ es. began true es x) (sym done)

-- the permit that the end of a write released
pub released-permit : (x : Request) (w : ℕ) (released : Option LockName) (o : Option ℕ) → x.write ≡ Some w → released ≡ cond (is_some x.write) (option_map name_of x.held) None → o ≡ permit_in released → o ≡ permit_of x.held
released-permit x w released o has is permit = permit ∙ ap permit_in (is ∙ ap (λ q. cond (is_some q) (option_map name_of x.held) None) has) ∙ permit-named x.held

-- the entry of a body that was stored
pub stored-entry : (o : Option Key) (id : Option ℕ) (k : Key) (how : WriteEnd) (f : FinishReport) (gave : Option CacheEntryKey) (e : CacheEntryKey) → o ≡ Some k → how ≡ Stored f → gave ≡ entry_stored o id how → gave ≡ Some e → e ≡ entry_of k id
stored-entry o id k how f gave e key stored is some =
    let whole : ◌≡◌ {A = Option CacheEntryKey} (Some e) (Some (entry_of k id)) = sym some ∙ is ∙ (λ i. entry_stored (key i) id (stored i)) in
    cc

-- ---- what is noted of a purge

-- what is stored for a request's key, and what a removal finds of it
abbrev outcome_of : Option Slot → PurgeOutcome
outcome_of x = slot_outcome true x

untracked-as : (x : Option Slot) (uses : Bool) (k : Key) → untracking (untracked uses (compact_of k) (outcome_of x)) ≡ untrack_of (is_some x && uses) k (number_of_body (complete_body x))
untracked-as None uses k = refl
untracked-as (Some x) true k = refl
untracked-as (Some x) false k = refl

removed-as : (x : Option Slot) → is_removed_by (outcome_of x) ≡ is_some x
removed-as None = refl
removed-as (Some x) = refl

gone-as : (x : Option Slot) (uses : Bool) (k : Key) (m : Tracked) → tracked_gone uses (compact_of k) (outcome_of x) m ≡ cond (is_some x && uses) (map.remove m (entry_of k (number_of_body (complete_body x)))) m
gone-as None uses k m = refl
gone-as (Some x) true k m = refl
gone-as (Some x) false k m = refl

module _ (s : Store) (uses : Bool) (o : Option Key) (k : Key) (key : o ≡ Some k) where
  abbrev pub goes : Bool
  goes = there_for s o && uses

  pub purge-events : (j : ℕ) (outcome : PurgeOutcome) (gone : Option CacheEntryKey) (old events : List Event) → j ≡ slot k → outcome ≡ purge_outcome true s (option_map slot o) → gone ≡ untracked_for uses o outcome → old ≡ []
      → events ≡ old ++ E.Purge j ∷ untracking gone → events ≡ E.Purge (slot k) ∷ untrack_of goes k (number_for s o)
  purge-events j outcome gone old events at found went none is =
      is ∙ (λ i. none i ++ E.Purge (at i) ∷ untracking (went i)) ∙ ap (λ q. E.Purge (slot k) ∷ untracking (untracked_for uses o q)) found
      ∙ subst (λ q. ◌≡◌ {A = List Event} (E.Purge (slot k) ∷ untracking (untracked_for uses q (purge_outcome true s (option_map slot q)))) (E.Purge (slot k) ∷ untrack_of (there_for s q && uses) k (number_for s q))) (sym key)
      (ap (λ es. E.Purge (slot k) ∷ es) (untracked-as (map.get s.slots (slot k)) uses k))

  pub purge-told : (outcome : PurgeOutcome) → outcome ≡ purge_outcome true s (option_map slot o) → is_removed_by outcome ≡ there_for s o
  purge-told outcome found = ap is_removed_by found ∙ subst (λ q. is_removed_by (purge_outcome true s (option_map slot q)) ≡ there_for s q) (sym key) (removed-as (map.get s.slots (slot k)))

  pub purge-untracks : (m m' : Tracked) → m' ≡ tracked_gone_for uses o (purge_outcome true s (option_map slot o)) m → m' ≡ cond goes (map.remove m (entry_of k (number_for s o))) m
  purge-untracks m m' is = is ∙ subst (λ q. tracked_gone_for uses q (purge_outcome true s (option_map slot q)) m ≡ cond (there_for s q && uses) (map.remove m (entry_of k (number_for s q))) m) (sym key) (gone-as (map.get s.slots (slot k)) uses k m)

  pub purge-store : (u : Store) → u ≡ purged_at s (option_map slot o) → u ≡ purged s (slot k)
  purge-store u is = is ∙ ap (λ q. purged_at s (option_map slot q)) key

-- ---- what is noted of an expiry

pub expire-store : (s u : Store) (o : Option Key) (k : Key) (now : ℕ) → o ≡ Some k → u ≡ expired_at now s (option_map slot o) → u ≡ meta_changed (metas.expired_at now) s (slot k)
expire-store s u o k now key is = is ∙ ap (λ q. expired_at now s (option_map slot q)) key

-- nothing is untracked with it
pub expire-tracks : (s : Store) (uses : Bool) (o : Option Key) (m m' : Tracked) → m' ≡ tracked_gone_for uses o (expire_outcome s (option_map slot o)) m → m' ≡ m
expire-tracks s uses None m m' is = is
expire-tracks s uses (Some k) m m' is = is ∙ elim (is_some (complete_body (map.get s.slots (slot k)))) as (λ b. tracked_gone uses (compact_of k) (cond b Expired NotFound) m ≡ m) [ true ↦ refl | false ↦ refl ]

-- ---- what is noted of a revalidation

pub renewed-as : (x : Request) (m noted old mid new : Meta) (prov made : ℕ) → x.meta ≡ Some old → noted ≡ m → prov ≡ metas.provenance_of old → made ≡ old.created → mid ≡ internal_changed (λ x. record x { provenance = Some prov }) noted → new ≡ internal_changed (λ x. record x { created = made }) mid → new ≡ renewed_by m x.meta
renewed-as x m noted old mid new prov made has same from when one two =
    two ∙ ap (internal_changed (λ x. record x { created = made })) one
    ∙ (λ i. internal_changed (λ x. record x { created = when i; provenance = Some (from i) }) (same i))
    ∙ ap (renewed_by m) (sym has)

same-body : (s : Store) (o : Option Key) → has_body s o ≡ complete_for s o
same-body s None = refl
same-body s (Some k) = refl

pub renews-told : (s : Store) (t : Locks) (x : Request) (m n : Meta) (k : Key) (j : ℕ) (r : Result Bool ErrorType) (o : Option ℕ) (reply : Reply) (old mid events : List Event) → x.key ≡ Some k → j ≡ slot k → n ≡ renewed_by m x.meta → o ≡ permit_of x.held → reply ≡ renewal_reply r → old ≡ [] → mid ≡ old ++ renewing j n r → events ≡ mid ++ each E.Release o
    → IfOk r (λ b. b ≡ has_body s x.key) → OnErr r (IsTrue (has_body s x.key)) → IfErr r (λ e. e ≡ OutOfMemory) → Renews (facts_in s t x) m x reply events
renews-told s t x m n k j r o reply old mid events key at copy permit told none one is =
    by r told (is ∙ ap (λ es. es ++ each E.Release o) (one ∙ ap (λ es. es ++ renewing j n r) none) ∙ (λ i. renewing (at i) (copy i) r ++ each E.Release (permit i)))
  where
    by : (r : Result Bool ErrorType) → reply ≡ renewal_reply r → events ≡ renewing (slot k) (renewed_by m x.meta) r ++ each E.Release (permit_of x.held) → IfOk r (λ b. b ≡ has_body s x.key) → OnErr r (IsTrue (has_body s x.key)) → IfErr r (λ e. e ≡ OutOfMemory) → Renews (facts_in s t x) m x reply events
    by (Ok b) told all there something kind =
        let whole : b ≡ complete_for s x.key = there ∙ same-body s x.key in
        inl (k, key, told ∙ ap update_reply whole, all ∙ ap (λ c. renew_of c (slot k) (renewed_by m x.meta) ++ each E.Release (permit_of x.held)) whole)
    by (Err e) told all there something kind = inr (sym (same-body s x.key) ∙ something, told ∙ ap R.Refused kind, all)
