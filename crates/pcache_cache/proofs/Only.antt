-- What is tracked stays what is stored, through each call of a cache.
use Rattle.std.proofs.Common.{if◌then◌else◌}
use Rattle.pcache_base.specs.declared.key.CompactCacheKey.{CompactCacheKey}
use Rattle.pcache_request.specs.WriteEnds.{EndsAs}
use Rattle.pcache_store.specs.PastLaws.{BodiesAreLast, NothingIsLost}
use Rattle.pcache_store.specs.PastSays.{body_stored, is_removed, last_finished}
use Rattle.pcache_store.specs.Store.{Written}
use Rattle.pcache_cache.proofs.Words.{◌≡◌, ◌≢◌, ℕ, inl, inr, Bool, true, false, cond, Option, None, Some, is_some, List, Result, Ok, Err, refl, ap, sym, subst, ◌∙◌, length, option_map, option_and_then, OnErr, OnOk, nat_cmp, eq_by_cmp, FinMap, get, insert, remove, compact_of, Key, slot, share, ErrorType, IsFair, Limits, Tracked, without, CacheEntryKey, Locks, LockStatus, header_written, Meta, expired_at, Parsed, Stage, InHead, InBody, HasDeclined, IsOver, entry_in, write_in, EndsPut, tracked_before_put, write_end, PutEnd, PutOutcome, PurgesAll, Stores, Withdraws, tracked_before, tracked_before_end, without_entry, Request, entry_of, settled, tracked_gone, tracked_gone_for, Ends, EndsBody, EndsIdle, HoldsNoLock, FinishReport, WriteEnd, body_number, Note, expire_outcome, purge_outcome, purged_at, slot_outcome, in_memory, Slot, Store, Stored, complete_body, dropped, dropped_on, finished, is_untouched, is_write_under, meta_changed, meta_changed_in, meta_changed_on, meta_set, number_of_body, purged, shut, shut_on, with_meta, Created, Expired, NotFound, MayEnd, is_own_write, replaced_in, IsNotSet, IsSet, Renews, Stock, entry_at, meta_given, reweighs, weight_at, Account, IsItsKey, TracksOnly, body_weight, ending_weight, entered, weight_of, write_weight, Weighing}
use Rattle.pcache_put.specs.Steps as put_steps
use Rattle.pcache_request.specs.declared.cache.finish.WriteEnd.TheVariants as end
use Rattle.pcache_store.specs.Purge as purge
use Rattle.pcache_cache.proofs.Ended.{EndsOf, body-slot, body-stored, ends-of, idle-before, purged_each, purges-each, written-under}
use Rattle.pcache_cache.proofs.Fed.{any-end}
use Rattle.pcache_cache.proofs.Renewed.{body-set, given, same_weight, slots-unset, weight-set, weight-unset}
use Rattle.pcache_cache.proofs.Standing.{Fewer, Stands, body-insert, fewer-same, same-key}
use Rattle.pcache_cache.proofs.Strays.{OnlyBut, body-apart, but-stays, names, only_admitted, only_but, only_but_none, only_each, only_elsewhere, only_purged, only_same, only_stands}

-- ---- what is complete stays so

same-shut : (xs : FinMap nat_cmp Slot) (k n q : ℕ) → complete_body (get (shut xs k n) q) ≡ complete_body (get xs q)
same-shut xs k n q =
    elim (get xs k) as (λ o. get xs k ≡ o → complete_body (get (shut_on xs k n o) q) ≡ complete_body (get xs q)) [
      | None ↦ λ is. refl
      | Some x ↦ λ is. body-slot xs k q (record x { untouched = remove x.untouched n }) ∙ elim (eq_by_cmp nat_cmp q k) as (λ t. eq_by_cmp nat_cmp q k ≡ t → cond t x.body (complete_body (get xs q)) ≡ complete_body (get xs q)) [
        | true ↦ λ t. sym (ap complete_body is) ∙ ap (λ y. complete_body (get xs y)) (sym (same-key q k t))
        | false ↦ λ t. refl
      ] refl
    ] refl

same-dropped : (s : Store) (n q : ℕ) → complete_body (get (dropped s n).slots q) ≡ complete_body (get s.slots q)
same-dropped s n q = elim (get s.writes n) as (λ o. complete_body (get (dropped_on s n o).slots q) ≡ complete_body (get s.slots q)) [ None ↦ refl | Some w ↦ same-shut s.slots w.slot n q ]

-- a complete body has the number of its write
pub numbered : (s : Store) (past : List Note) → BodiesAreLast s past → NothingIsLost s past → (k : ℕ) (b : Stored) → complete_body (get s.slots k) ≡ Some b → (w : ℕ) × (b.meta.entry_id ≡ Some w)
numbered s past last lost k b there = by (last_finished k past) refl
  where
    by : (o : Option ℕ) → last_finished k past ≡ o → (w : ℕ) × (b.meta.entry_id ≡ Some w)
    by None is = let none : complete_body (get s.slots k) ≡ None = last k ∙ ap (option_and_then (λ w. if is_removed k w past then None else body_stored k w past)) is in absurd (cc)
    by (Some w) is = go (is_removed k w past) refl
      where
        go : (r : Bool) → is_removed k w past ≡ r → (w : ℕ) × (b.meta.entry_id ≡ Some w)
        go true so = let none : complete_body (get s.slots k) ≡ None = last k ∙ ap (option_and_then (λ w. if is_removed k w past then None else body_stored k w past)) is ∙ ap (λ r. if r then None else body_stored k w past) so in absurd (cc)
        go false so = let p = lost k w is so in let same : p.0 ≡ b = cc in (w, ap (λ (x : Stored). x.meta.entry_id) (sym same) ∙ p.2)

module _ (of : Account) (wg : Weighing) where
  -- ---- a meta that keeps its number and its head replaces another

  more-changed : (f : Meta → Meta) → ((m : Meta) → (f m).entry_id ≡ m.entry_id) → ((m : Meta) → (f m).header ≡ m.header) → (s : Store) (k : ℕ) → Fewer wg (meta_changed f s k).slots s.slots
  more-changed f keeps head s k =
      elim (get s.slots k) as (λ o. get s.slots k ≡ o → Fewer wg (meta_changed_on f s.slots k o) s.slots) [
        | None ↦ λ is. fewer-same wg s.slots
        | Some x ↦ λ is. elim x.body as (λ c. x.body ≡ c → Fewer wg (meta_changed_in f s.slots k x c) s.slots) [
          | None ↦ λ none. fewer-same wg s.slots
          | Some a ↦ λ some. changed x a is some
        ] refl
      ] refl
    where
      changed : (x : Slot) (a : Stored) → get s.slots k ≡ Some x → x.body ≡ Some a → Fewer wg (insert s.slots k (with_meta f x (Some a))) s.slots
      changed x a is some q b there =
          elim (eq_by_cmp nat_cmp q k) as (λ t. eq_by_cmp nat_cmp q k ≡ t → complete_body (get (insert s.slots k (with_meta f x (Some a))) q) ≡ cond t (Some (record a { meta = f a.meta })) (complete_body (get s.slots q)) → Stands wg (insert s.slots k (with_meta f x (Some a))) q b) [
            | true ↦ λ t now.
                let both : Some a ≡ Some b = sym some ∙ sym (ap complete_body is) ∙ ap (λ y. complete_body (get s.slots y)) (sym (same-key q k t)) ∙ there in
                let own : a ≡ b = cc in
                (record a { meta = f a.meta }, now, ap (λ (y : Stored). y.bytes) own, keeps a.meta ∙ ap (λ (y : Stored). y.meta.entry_id) own, ap (λ h. weight_of wg (length a.bytes, length (header_written h))) (head a.meta) ∙ ap (body_weight wg) own)
            | false ↦ λ t now. (b, now ∙ there, refl, refl, refl)
          ] refl (body-insert s.slots k q (with_meta f x (Some a)))

  -- ---- removals

  only-gone : (m : Tracked) (s : Store) (k : Key) (x : Option Slot) → get s.slots (slot k) ≡ x → IsItsKey of (Some k) → TracksOnly of wg s m → TracksOnly of wg (purged s (slot k)) (tracked_gone true (compact_of k) (slot_outcome true x) m)
  only-gone m s k None is its only = only_purged of wg m s (slot k) (only_but_none of wg m s (slot k) (ap (λ o. number_of_body (complete_body o)) is) only)
  only-gone m s k (Some x) is its only = only_purged of wg (remove m (entry_of k (number_of_body x.body))) s (slot k) (only_but of wg m s k (number_of_body x.body) its (sym (ap (λ o. number_of_body (complete_body o)) is)) only)

  only-gone_for : (m : Tracked) (s : Store) (key : Option Key) → IsItsKey of key → TracksOnly of wg s m → TracksOnly of wg (purged_at s (option_map slot key)) (tracked_gone_for true key (purge_outcome true s (option_map slot key)) m)
  only-gone_for m s None its only = only
  only-gone_for m s (Some k) its only = only-gone m s k (get s.slots (slot k)) refl its only

  still : (m n : Tracked) (s t : Store) → t ≡ s → n ≡ m → TracksOnly of wg s m → TracksOnly of wg t n
  still m n s t store tracked only = subst (λ x. TracksOnly of wg x n) (sym store) (subst (TracksOnly of wg s) (sym tracked) only)

  pub only_removed : {A : Type 0} (m n : Tracked) (s t : Store) (uses : Bool) (key : Option Key) (result : Result A ErrorType)
      → OnOk result (t ≡ purged_at s (option_map slot key)) → OnOk result (n ≡ tracked_gone_for uses key (purge_outcome true s (option_map slot key)) m) → OnErr result (t ≡ s) → OnErr result (n ≡ m)
      → uses ≡ true → IsItsKey of key → TracksOnly of wg s m → TracksOnly of wg t n
  only_removed m n s t uses key (Ok a) store tracked same_store same_tracked used its only =
      still (tracked_gone_for true key (purge_outcome true s (option_map slot key)) m) n (purged_at s (option_map slot key)) t store (tracked ∙ ap (λ u. tracked_gone_for u key (purge_outcome true s (option_map slot key)) m) used) (only-gone_for m s key its only)
  only_removed m n s t uses key (Err e) store tracked same_store same_tracked used its only = still m n s t same_store same_tracked only

  -- an expiry takes nothing out
  none-gone : (uses : Bool) (k : CompactCacheKey) (there : Bool) (m : Tracked) → tracked_gone uses k (cond there Expired NotFound) m ≡ m
  none-gone uses k true m = refl
  none-gone uses k false m = refl

  only-stale : (m : Tracked) (s : Store) (uses : Bool) (key : Option Key) (now : ℕ) → TracksOnly of wg s m → TracksOnly of wg (purge.expired_at now s (option_map slot key)) (tracked_gone_for uses key (expire_outcome s (option_map slot key)) m)
  only-stale m s uses None now only = only
  only-stale m s uses (Some k) now only =
      subst (TracksOnly of wg (meta_changed (expired_at now) s (slot k))) (sym (none-gone uses (compact_of k) (is_some (complete_body (get s.slots (slot k)))) m))
      (only_stands of wg m s (meta_changed (expired_at now) s (slot k)) (more-changed (expired_at now) (λ x. refl) (λ x. refl) s (slot k)) only)

  pub only_expired : {A : Type 0} (m n : Tracked) (s t : Store) (uses : Bool) (key : Option Key) (now : ℕ) (result : Result A ErrorType)
      → OnOk result (t ≡ purge.expired_at now s (option_map slot key)) → OnOk result (n ≡ tracked_gone_for uses key (expire_outcome s (option_map slot key)) m) → OnErr result (t ≡ s) → OnErr result (n ≡ m)
      → TracksOnly of wg s m → TracksOnly of wg t n
  only_expired m n s t uses key now (Ok a) store tracked same_store same_tracked only = still (tracked_gone_for uses key (expire_outcome s (option_map slot key)) m) n (purge.expired_at now s (option_map slot key)) t store tracked (only-stale m s uses key now only)
  only_expired m n s t uses key now (Err e) store tracked same_store same_tracked only = still m n s t same_store same_tracked only

  -- what leaves the slots as they are
  pub only_slots : (m n : Tracked) (s t : Store) → t.slots ≡ s.slots → n ≡ m → TracksOnly of wg s m → TracksOnly of wg t n
  only_slots m n s t same tracked only = subst (TracksOnly of wg t) (sym tracked) (only_same of wg m s t (λ k. ap (λ xs. complete_body (get xs k)) same) only)

  -- ---- the end of a write

  pub only_before : (m : Tracked) (s : Store) (k : Key) (replaced : Option ℕ) → IsItsKey of (Some k) → replaced ≡ body_number s (slot k) → TracksOnly of wg s m → OnlyBut of wg (slot k) s (without_entry true (compact_of k) replaced m)
  only_before m s k None its is only = only_but_none of wg m s (slot k) (sym is) only
  only_before m s k (Some n) its is only = only_but of wg m s k (Some n) its is only

  -- an entry is admitted, and what is evicted is purged
  only-evicted : (limits : Limits) (m : Tracked) (t u : Store) (m' : Tracked) (out : List CacheEntryKey) (failed : ℕ) → failed ≡ 0 → IsFair limits m out → PurgesAll true t out failed u → m' ≡ without out m → TracksOnly of wg t m → TracksOnly of wg u m'
  only-evicted limits m t u m' out failed none fair purges tracked only =
      still (without out m) m' (purged_each t out) u (purges-each t u out failed none purges) tracked (only_each of wg out m t (names of wg out m t fair.tracked only) only)

  module _ (limits : Limits) (s : Store) (k : Key) (w : ℕ) (x : Written) (is : get s.writes w ≡ Some x) (at : x.slot ≡ slot k) (named : x.meta.entry_id ≡ Some w) (its : IsItsKey of (Some k)) where
    new : Stored
    new = record { meta = x.meta; bytes = x.bytes }

    here : is_untouched s w ≡ true → (q : ℕ) → complete_body (get (finished s w).slots q) ≡ cond (eq_by_cmp nat_cmp q (slot k)) (Some (record { meta = x.meta; bytes = x.bytes })) (complete_body (get s.slots q))
    here whole q = body-stored s w x q is whole ∙ ap (λ y. cond (eq_by_cmp nat_cmp q y) (Some (record { meta = x.meta; bytes = x.bytes })) (complete_body (get s.slots q))) at

    only-stored : (Lets : LockStatus → Type 0) (size failed : ℕ) (out : List CacheEntryKey) (s' : Store) (m m' : Tracked) → Stores in_memory true (Some w) Lets k w (entered wg s (Some w)) limits size failed out s s' m m' → OnlyBut of wg (slot k) s m → TracksOnly of wg s' m'
    only-stored Lets size failed out s' m m' stores but =
        only-evicted limits (insert m (entry_of k (Some w)) (write_weight wg (get s.writes w))) (finished s w) s' m' out failed (stores.sure refl) stores.admitted.0 stores.purges stores.admitted.1
        (only_admitted of wg m s (finished s w) k (record { meta = x.meta; bytes = x.bytes }) w (write_weight wg (get s.writes w)) its (here stores.untouched) named (ap (write_weight wg) is) (λ e n there other. but e n there))

    only-withdrawn : (Lets : LockStatus → Type 0) (e : ErrorType) (s' : Store) (m m' : Tracked) → Withdraws true Lets k w e s s' m m' → OnlyBut of wg (slot k) s m → TracksOnly of wg s' m'
    only-withdrawn Lets e s' m m' ends but =
        elim ends.purged [
          | inl gone ↦ still m m' (purged (finished s w) (slot k)) s' gone ends.tracked
              (only_elsewhere of wg m s (purged (finished s w) (slot k)) (slot k) (λ q ne. body-apart of wg (finished s w) (slot k) q ne ∙ here ends.untouched q ∙ elsewhere q ne) but)
          | inr never ↦ let no : true ≡ false = never.0 in absurd (cc)
        ]
      where
        elsewhere : (q : ℕ) → q ≢ slot k → cond (eq_by_cmp nat_cmp q (slot k)) (Some (record { meta = x.meta; bytes = x.bytes })) (complete_body (get s.slots q)) ≡ complete_body (get s.slots q)
        elsewhere q ne = elim (eq_by_cmp nat_cmp q (slot k)) as (λ t. eq_by_cmp nat_cmp q (slot k) ≡ t → cond t (Some (record { meta = x.meta; bytes = x.bytes })) (complete_body (get s.slots q)) ≡ complete_body (get s.slots q)) [
          | true ↦ λ t. absurd (ne (same-key q (slot k) t))
          | false ↦ λ t. refl
        ] refl

  only-dropped : (m : Tracked) (s : Store) (w : ℕ) → TracksOnly of wg s m → TracksOnly of wg (dropped s w) m
  only-dropped m s w only = only_same of wg m s (dropped s w) (same-dropped s w) only

  only-body : (limits : Limits) (Lets : LockStatus → Type 0) (k : Key) (w : ℕ) (replaced : Option ℕ) (how : WriteEnd) (s s' : Store) (m m' : Tracked) → is_write_under (slot k) w (get s.writes w) ≡ true → IsItsKey of (Some k) → replaced ≡ body_number s (slot k)
      → EndsBody in_memory true (Some w) Lets k w (entered wg s (Some w)) limits how s s' (tracked_before true k replaced how m) m' → TracksOnly of wg s m → TracksOnly of wg s' m'
  only-body limits Lets k w replaced end.Nothing s s' m m' own its old ends only = absurd ends
  only-body limits Lets k w replaced (end.Stored f) s s' m m' own its old ends only = let x = written-under (slot k) w s own in only-stored limits s k w x.0 x.1 x.2 x.3 its Lets f.size f.failed_purges f.evicted.items s' (without_entry true (compact_of k) replaced m) m' ends (only_before m s k replaced its old only)
  only-body limits Lets k w replaced (end.Dropped e) s s' m m' own its old ends only = still m m' (dropped s w) s' ends.dropped ends.tracked (only-dropped m s w only)
  only-body limits Lets k w replaced (end.Withdrawn e) s s' m m' own its old ends only = let x = written-under (slot k) w s own in only-withdrawn limits s k w x.0 x.1 x.2 x.3 its Lets e s' (without_entry true (compact_of k) replaced m) m' ends (only_before m s k replaced its old only)

  only-idle : (how : WriteEnd) (s s' : Store) (m m' : Tracked) (t t' : Locks) → EndsIdle how s s' m m' t t' → TracksOnly of wg s m → TracksOnly of wg s' m'
  only-idle end.Nothing s s' m m' t t' ends only = still m m' s s' ends.0 ends.1 only
  only-idle (end.Stored f) s s' m m' t t' ends only = absurd ends
  only-idle (end.Dropped e) s s' m m' t t' ends only = absurd ends
  only-idle (end.Withdrawn e) s s' m m' t t' ends only = absurd ends

  only-ends : (limits : Limits) (r : Request) (uses : Bool) (id replaced : Option ℕ) (key : Option Key) (write : Option ℕ) (how : WriteEnd) (s s' : Store) (m m' : Tracked) (t t' : Locks)
      → uses ≡ true → id ≡ write → is_own_write s key write ≡ true → IsItsKey of key → replaced ≡ replaced_in s key → EndsOf uses id replaced r key write (entered wg s write) limits how s s' m m' t t' → TracksOnly of wg s m → TracksOnly of wg s' m'
  only-ends limits r uses id replaced None None how s s' m m' t t' used none own its old ends only = only-idle how s s' m m' t t' ends only
  only-ends limits r uses id replaced (Some k) None how s s' m m' t t' used none own its old ends only = only-idle how s s' m m' t t' (idle-before uses replaced k how s s' m m' t t' ends) only
  only-ends limits r uses id replaced None (Some w) how s s' m m' t t' used none own its old ends only = absurd (cc)
  only-ends limits r uses id replaced (Some k) (Some w) how s s' m m' t t' used none own its old ends only =
      only-body limits (λ status. t' ≡ settled status r.held t) k w replaced how s s' m m' own its old
      (subst (λ i. EndsBody in_memory true i (λ status. t' ≡ settled status r.held t) k w (entered wg s (Some w)) limits how s s' (tracked_before true k replaced how m) m') none (subst (λ u. EndsBody in_memory u id (λ status. t' ≡ settled status r.held t) k w (entered wg s (Some w)) limits how s s' (tracked_before u k replaced how m) m') used ends)) only

  only-by : (limits : Limits) (r : Request) (replaced : Option ℕ) (s s' : Store) (m m' : Tracked) (t t' : Locks) (how : WriteEnd) → MayEnd s r → r.entry ≡ r.write → IsItsKey of r.key → replaced ≡ replaced_in s r.key → Ends in_memory r r.key r.write (entered wg s r.write) limits how s s' (tracked_before_end r r.key replaced how m) m' t t' → TracksOnly of wg s m → TracksOnly of wg s' m'
  only-by limits r replaced s s' m m' t t' how may none its old ends only =
      only-ends limits r r.uses.eviction r.entry replaced r.key r.write how s s' m m' t t' may.uses none may.own its old (ends-of r replaced r.key r.write (entered wg s r.write) limits how s s' m m' t t' ends) only

  pub only_finished : (limits : Limits) (r : Request) (replaced : Option ℕ) (n : ℕ) (s s' : Store) (m m' : Tracked) (t t' : Locks) (result : Result (Option FinishReport) ErrorType) → MayEnd s r → r.entry ≡ r.write → n ≡ ending_weight wg s r.write → IsItsKey of r.key → replaced ≡ replaced_in s r.key
      → EndsAs result (λ how. Ends in_memory r r.key r.write (Created n) limits how s s' (tracked_before_end r r.key replaced how m) m' t t') → TracksOnly of wg s m → TracksOnly of wg s' m'
  only_finished limits r replaced n s s' m m' t t' result may none weighs its old ends only =
      any-way result (subst (λ y. EndsAs result (λ how. Ends in_memory r r.key r.write (Created y) limits how s s' (tracked_before_end r r.key replaced how m) m' t t')) weighs ends)
    where
      any-way : (result : Result (Option FinishReport) ErrorType) → EndsAs result (λ how. Ends in_memory r r.key r.write (entered wg s r.write) limits how s s' (tracked_before_end r r.key replaced how m) m' t t') → TracksOnly of wg s' m'
      any-way (Ok None) ends = only-by limits r replaced s s' m m' t t' end.Nothing may none its old ends only
      any-way (Ok (Some f)) ends = only-by limits r replaced s s' m m' t t' (end.Stored f) may none its old ends only
      any-way (Err e) (inl ends) = only-by limits r replaced s s' m m' t t' (end.Dropped e) may none its old ends only
      any-way (Err e) (inr ends) = only-by limits r replaced s s' m m' t t' (end.Withdrawn e) may none its old ends only

  -- ---- the end of a put

  only-put : (limits : Limits) (k : Key) (parser : Parsed) (stage : Stage) (replaced : Option ℕ) (how : PutEnd) (s s' : Store) (m m' : Tracked) → entry_in stage ≡ write_in stage → is_own_write s (Some k) (write_in stage) ≡ true → IsItsKey of (Some k) → replaced ≡ body_number s (slot k)
      → EndsPut in_memory k parser (λ _. entered wg s (write_in stage)) limits stage how s s' (tracked_before_put k replaced how m) m' → TracksOnly of wg s m → TracksOnly of wg s' m'
  only-put limits k parser InHead replaced how s s' m m' named own its old ends only = still m m' s s' ends.1.0 (ends.1.1 ∙ ap (λ h. tracked_before_put k replaced h m) ends.0) only
  only-put limits k parser (HasDeclined reason) replaced how s s' m m' named own its old ends only = still m m' s s' ends.1.0 (ends.1.1 ∙ ap (λ h. tracked_before_put k replaced h m) ends.0) only
  only-put limits k parser (IsOver kind) replaced how s s' m m' named own its old ends only = still m m' s s' ends.1.0 (ends.1.1 ∙ ap (λ h. tracked_before_put k replaced h m) ends.0) only
  only-put limits k parser (InBody w id fresh_until) replaced how s s' m m' named own its old (inl early) only = still m m' (dropped s w) s' early.3 (early.4 ∙ ap (λ h. tracked_before_put k replaced h m) early.2) (only-dropped m s w only)
  only-put limits k parser (InBody w id fresh_until) replaced how s s' m m' named own its old (inr ends) only =
      only-body limits HoldsNoLock k w replaced (write_end how) s s' m m' own its old (subst (λ i. EndsBody in_memory true i HoldsNoLock k w (entered wg s (Some w)) limits (write_end how) s s' (tracked_before_put k replaced how m) m') named ends) only

  pub only_put_ended : (limits : Limits) (k : Key) (parser : Parsed) (stage : Stage) (replaced : Option ℕ) (n : ℕ) (s s' : Store) (m m' : Tracked) (result : Result PutOutcome ErrorType) → entry_in stage ≡ write_in stage → is_own_write s (Some k) (write_in stage) ≡ true → n ≡ ending_weight wg s (write_in stage) → IsItsKey of (Some k) → replaced ≡ body_number s (slot k)
      → put_steps.EndsAs result (λ how. EndsPut in_memory k parser (λ _. Created n) limits stage how s s' (tracked_before_put k replaced how m) m') → TracksOnly of wg s m → TracksOnly of wg s' m'
  only_put_ended limits k parser stage replaced n s s' m m' result named own weighs its old ends only =
      any-end result (λ how e. only-put limits k parser stage replaced how s s' m m' named own its old e only)
      (subst (λ y. put_steps.EndsAs result (λ how. EndsPut in_memory k parser (λ _. Created y) limits stage how s s' (tracked_before_put k replaced how m) m')) weighs ends)

  -- ---- a meta is set

  module _ (limits : Limits) (m : Tracked) (s : Store) (x : Meta) (k : Key) (a : Stored) (w : ℕ) (is : complete_body (get s.slots (slot k)) ≡ Some a) (number : a.meta.entry_id ≡ Some w) (its : IsItsKey of (Some k)) (only : TracksOnly of wg s m) where
    entry-is : entry_at s k ≡ entry_of k (Some w)
    entry-is = ap (entry_of k) (ap number_of_body is ∙ number)

    -- the body weighs what it did
    more-set : body_weight wg a ≡ body_weight wg (given x a) → Fewer wg (meta_set x s (slot k)).slots s.slots
    more-set same q b there =
        elim (eq_by_cmp nat_cmp q (slot k)) as (λ t. eq_by_cmp nat_cmp q (slot k) ≡ t → complete_body (get (meta_set x s (slot k)).slots q) ≡ cond t (Some (given x a)) (complete_body (get s.slots q)) → Stands wg (meta_set x s (slot k)).slots q b) [
          | true ↦ λ t now.
              let both : Some a ≡ Some b = sym is ∙ ap (λ y. complete_body (get s.slots y)) (sym (same-key q (slot k) t)) ∙ there in
              let own : a ≡ b = cc in
              (given x a, now, ap (λ (y : Stored). y.bytes) own, ap (λ (y : Stored). y.meta.entry_id) own, sym same ∙ ap (body_weight wg) own)
          | false ↦ λ t now. (b, now ∙ there, refl, refl, refl)
        ] refl (body-set x s (slot k) q a is)

    only-set : body_weight wg a ≡ body_weight wg (given x a) → TracksOnly of wg (meta_set x s (slot k)) m
    only-set same = only_stands of wg m s (meta_set x s (slot k)) (more-set same) only

    -- the entry is weighed anew
    only-reweighed : (n : ℕ) (out : List CacheEntryKey) (u : Store) (m' : Tracked) → n ≡ body_weight wg (given x a) → IsFair limits (insert m (entry_at s k) n) out → PurgesAll true (meta_set x s (slot k)) out 0 u → m' ≡ without out (insert m (entry_at s k) n) → TracksOnly of wg u m'
    only-reweighed n out u m' weighs fair purges tracked =
        only-evicted limits (insert m (entry_at s k) n) (meta_set x s (slot k)) u m' out 0 refl fair purges tracked
        (subst (λ e. TracksOnly of wg (meta_set x s (slot k)) (insert m e n)) (sym entry-is)
        (only_admitted of wg m s (meta_set x s (slot k)) k (given x a) w n its (λ q. body-set x s (slot k) q a is) number weighs (but-stays of wg m s k (Some w) its (sym (ap number_of_body is ∙ number)) only)))

    -- the body is removed
    only-lost : TracksOnly of wg (purged (meta_set x s (slot k)) (slot k)) (remove m (entry_at s k))
    only-lost =
        only_elsewhere of wg (remove m (entry_at s k)) s (purged (meta_set x s (slot k)) (slot k)) (slot k)
        (λ q ne. body-apart of wg (meta_set x s (slot k)) (slot k) q ne ∙ body-set x s (slot k) q a is ∙ elsewhere q ne) (only_but of wg m s k (body_number s (slot k)) its refl only)
      where
        elsewhere : (q : ℕ) → q ≢ slot k → cond (eq_by_cmp nat_cmp q (slot k)) (Some (given x a)) (complete_body (get s.slots q)) ≡ complete_body (get s.slots q)
        elsewhere q ne = elim (eq_by_cmp nat_cmp q (slot k)) as (λ t. eq_by_cmp nat_cmp q (slot k) ≡ t → cond t (Some (given x a)) (complete_body (get s.slots q)) ≡ complete_body (get s.slots q)) [
          | true ↦ λ t. absurd (ne (same-key q (slot k) t))
          | false ↦ λ t. refl
        ] refl

  pub only_renewed : (limits : Limits) (x : Meta) (k : Key) (result : Result Bool ErrorType) (a b : Stock) → Renews wg limits x (Some k) result a b → ((c : Stored) → complete_body (get a.store.slots (slot k)) ≡ Some c → (w : ℕ) × (c.meta.entry_id ≡ Some w)) → IsItsKey of (Some k) → TracksOnly of wg a.store a.tracked → TracksOnly of wg b.store b.tracked
  only_renewed limits x k result a b renews number its only =
      elim (complete_body (get a.store.slots (slot k))) as (λ o. complete_body (get a.store.slots (slot k)) ≡ o → TracksOnly of wg b.store b.tracked) [
        | None ↦ λ none. unset result (weight-unset wg x k a.store none) none renews
        | Some c ↦ λ is. elim (reweighs wg x (Some k) a.store) as (λ r. reweighs wg x (Some k) a.store ≡ r → TracksOnly of wg b.store b.tracked) [
          | true ↦ λ so. anew c is (number c is) result (set-by result so renews)
          | false ↦ λ same. alike c is (number c is) same result (set-by result same renews)
        ] refl
      ] refl
    where
      IsDone : Bool → Result Bool ErrorType → Type 0
      IsDone r (Ok there) = IsSet r wg limits x (Some k) a b
      IsDone r (Err e) = IsNotSet r x (Some k) a b

      set-by : {r : Bool} (result : Result Bool ErrorType) → reweighs wg x (Some k) a.store ≡ r → Renews wg limits x (Some k) result a b → IsDone r result
      set-by (Ok there) is renews = subst (λ y. IsSet y wg limits x (Some k) a b) is renews.1
      set-by (Err e) is renews = subst (λ y. IsNotSet y x (Some k) a b) is renews.2

      as-is : (c : Stock) → b ≡ c → TracksOnly of wg c.store c.tracked → TracksOnly of wg b.store b.tracked
      as-is c is so = subst (λ (y : Stock). TracksOnly of wg y.store y.tracked) (sym is) so

      unset : (result : Result Bool ErrorType) → reweighs wg x (Some k) a.store ≡ false → complete_body (get a.store.slots (slot k)) ≡ None → Renews wg limits x (Some k) result a b → TracksOnly of wg b.store b.tracked
      unset (Ok there) same none renews = as-is (meta_given x (Some k) a) (set-by (Ok there) same renews) (only_slots a.tracked a.tracked a.store (meta_set x a.store (slot k)) (slots-unset x a.store (slot k) none) refl only)
      unset (Err e) same none renews = as-is a (set-by (Err e) same renews) only

      alike : (c : Stored) → complete_body (get a.store.slots (slot k)) ≡ Some c → (w : ℕ) × (c.meta.entry_id ≡ Some w) → reweighs wg x (Some k) a.store ≡ false → (result : Result Bool ErrorType) → IsDone false result → TracksOnly of wg b.store b.tracked
      alike c is w same (Ok there) set = as-is (meta_given x (Some k) a) set (only-set limits a.tracked a.store x k c w.0 is w.1 its only (sym (ap (share (body_weight wg)) is) ∙ sym (same_weight wg x k a.store same) ∙ weight-set wg x a.store k c is))
      alike c is w same (Err e) stays = as-is a stays only

      anew : (c : Stored) → complete_body (get a.store.slots (slot k)) ≡ Some c → (w : ℕ) × (c.meta.entry_id ≡ Some w) → (result : Result Bool ErrorType) → IsDone true result → TracksOnly of wg b.store b.tracked
      anew c is w (Ok there) set = only-reweighed limits a.tracked a.store x k c w.0 is w.1 its only (weight_at wg (meta_set x a.store (slot k)) k) set.0 b.store b.tracked (weight-set wg x a.store k c is) set.1.fair set.1.store set.1.tracked
      anew c is w (Err e) (inl stays) = as-is a stays only
      anew c is w (Err e) (inr gone) = subst (λ (y : Stock). TracksOnly of wg y.store y.tracked) (sym gone) (only-lost limits a.tracked a.store x k c w.0 is w.1 its only)
