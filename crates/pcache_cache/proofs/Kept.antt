-- What always holds of a cache still holds after each call but the end of a write.
use Rattle.std.specs.FinMap.{empty, get-empty}
use Rattle.pcache_request.specs.Admissions.{store_looked_with}
use Rattle.pcache_request.specs.Failures.{FailsToLook}
use Rattle.pcache_request.specs.Requests.{store_found}
use Rattle.pcache_request.specs.Variants.{searched, without_hidden}
use Rattle.pcache_cache.proofs.Words.{◌≡◌, ◌≢◌, ℕ, ◌≤◌, arith, inl, inr, Bool, true, false, cond, Option, None, Some, is_some, Result, Ok, Err, refl, ap, sym, subst, ◌∙◌, option_map, IfErr, IfSome, OnErr, OnOk, eq_by_cmp, nat_cmp, get, remove, get-remove, nat_cmp_total, total-empty, body_count, body_size, slots, both_ways, eq-eqb, Key, slot, compact_of, ErrorType, CacheEntryKey, entries_total, id_of, Tracked, Limits, Meta, expired_at, Decision, is_deferral, Locks, FailsToBegin, entry_slot, Deeds, Request, begun_for, dropped_by, entry_of, found_for, followed_for, left_by, store_writing, tracked_gone, tracked_gone_for, is_treated_as_miss, Past, is_hidden, HitStatus, purge_outcome, purged_at, expire_outcome, slot_outcome, Store, Slot, Reader, complete_body, followed, left, meta_changed, purged, number_of_body, NotFound, Expired, IsKept, body_weight, slot_weight, Weighing}
use Rattle.pcache_store.specs.Purge as purge
use Rattle.pcache_cache.proofs.Standing.{Fewer, body-remove, cmp_same, fewer-begun_for, fewer-changed, fewer-dropped_by, fewer-purged_at, fewer-slots, fewer-then, slots-followed, slots-left, slots-left_by}
use Rattle.pcache_cache.proofs.Modes.{mode-begun_for, mode-dropped_by, mode-following, mode-left_by, mode-looked_with, mode-searched}
use Rattle.pcache_cache.proofs.Sums.{bounded-fewer, entries-apart}

-- ---- nothing is stored

pub kept_none : (wg : Weighing) (limits : Limits) (m : Tracked) (s : Store) → s ≡ record { slots = empty; writes = empty; next = 0; newest = true } → IsKept wg limits m s
kept_none wg limits m s is = subst (IsKept wg limits m) (sym is) (record {
  exact = λ q b complete. let none = ap complete_body (get-empty nat_cmp q) in absurd (cc);
  bounded = record { bytes = let none = total-empty nat_cmp_total body_size in omega arith; weights = let none = total-empty nat_cmp_total (slot_weight wg) in omega arith; count = at_most limits.watermark };
  newest = refl;
})
  where
    at_most : (o : Option ℕ) → IfSome o (λ most. slots (record { slots = empty; writes = empty; next = 0; newest = true }) ≤ most)
    at_most None = tt
    at_most (Some most) = let none = total-empty nat_cmp_total body_count in omega arith

-- ---- the store alone

pub kept_fewer : (wg : Weighing) (limits : Limits) (m : Tracked) (s t : Store) → Fewer wg s.slots t.slots → t.newest ≡ s.newest → IsKept wg limits m s → IsKept wg limits m t
kept_fewer wg limits m s t fewer mode k = record {
  exact = λ q b is. let p = fewer q b is in let e = k.exact q p.0 p.1 in (e.0, e.1, e.2 ∙ ap Some p.4, e.3 ∙ p.3);
  bounded = bounded-fewer wg limits s t fewer k.bounded;
  newest = mode ∙ k.newest;
}

-- the slots stay
pub kept_slots : (wg : Weighing) (limits : Limits) (m : Tracked) (s t : Store) → t.slots ≡ s.slots → t.newest ≡ s.newest → IsKept wg limits m s → IsKept wg limits m t
kept_slots wg limits m s t same mode k = kept_fewer wg limits m s t (fewer-slots wg s t same) mode k

-- what holds at both ends of a call that may fail
pub on-both : {A : Type 0} (result : Result A ErrorType) {P Q R : Type 0} → OnOk result P → OnErr result Q → (P → R) → (Q → R) → R
on-both (Ok a) p q f g = f p
on-both (Err e) p q f g = g q

-- ---- look-ups

slots-hidden : (b : Bool) (s : Store) (r : Reader) → (cond b (left s r) s).slots ≡ s.slots
slots-hidden true s r = slots-left s r
slots-hidden false s r = refl

slots-without : (from : Option ℕ) (p : Option (Meta × Reader)) (s : Store) → (without_hidden from p s).slots ≡ s.slots
slots-without from None s = refl
slots-without from (Some p) s = slots-hidden (is_hidden from p.0.created) s p.1

pub slots-searched : (s : Store) (r : Request) → (searched s r).slots ≡ s.slots
slots-searched s r = slots-without r.valid_after (found s r) (followed s (found s r)) ∙ slots-followed s (found s r)
  where
    found : Store → Request → Option (Meta × Reader)
    found s r = found_for s r.key

pub kept_looked : {A : Type 0} (wg : Weighing) (limits : Limits) (m : Tracked) (s t : Store) (p q : Past) (r : Request) (result : Result A ErrorType) → OnOk result (t ≡ searched s r) → OnErr result (FailsToLook s r p t q) → IsKept wg limits m s → IsKept wg limits m t
kept_looked wg limits m s t p q r result ok err k =
    on-both result ok err
    (λ is. kept_slots wg limits m s t (ap (λ (x : Store). x.slots) is ∙ slots-searched s r) (ap (λ (x : Store). x.newest) is ∙ mode-searched s r) k)
    (λ is. elim is [
      | inl same ↦ subst (IsKept wg limits m) (sym same.0) k
      | inr is ↦ kept_slots wg limits m s t (ap (λ (x : Store). x.slots) is.0 ∙ slots-searched s r) (ap (λ (x : Store). x.newest) is.0 ∙ mode-searched s r) k
    ])

fewer-looked_with : (wg : Weighing) (deferred : Bool) (r : Request) (s : Store) → Fewer wg s.slots (cond deferred (left_by r.reader (dropped_by r.write s)) (searched s r)).slots
fewer-looked_with wg true r s = fewer-then wg s.slots (dropped_by r.write s).slots _ (fewer-dropped_by wg s r.write) (fewer-slots wg (dropped_by r.write s) (left_by r.reader (dropped_by r.write s)) (slots-left_by (dropped_by r.write s) r.reader))
fewer-looked_with wg false r s = fewer-slots wg s (searched s r) (slots-searched s r)

pub kept_looked_with : {A : Type 0} (wg : Weighing) (limits : Limits) (m : Tracked) (s t : Store) (p q : Past) (r : Request) (d : Option Decision) (result : Result A ErrorType) → OnOk result (t ≡ store_looked_with d r s) → OnErr result (FailsToLook s r p t q) → IsKept wg limits m s → IsKept wg limits m t
kept_looked_with wg limits m s t p q r d result ok err k =
    on-both result ok err
    (λ is. subst (IsKept wg limits m) (sym is) (kept_fewer wg limits m s (store_looked_with d r s) (fewer-looked_with wg (is_deferral d) r s) (mode-looked_with (is_deferral d) r s) k))
    (λ is. elim is [
      | inl same ↦ subst (IsKept wg limits m) (sym same.0) k
      | inr is ↦ kept_slots wg limits m s t (ap (λ (x : Store). x.slots) is.0 ∙ slots-searched s r) (ap (λ (x : Store). x.newest) is.0 ∙ mode-searched s r) k
    ])

-- ---- what was found is taken

slots-passed : (b : Bool) (s : Store) (h : Reader) → (cond b (left s h) s).slots ≡ s.slots
slots-passed true s h = slots-left s h
slots-passed false s h = refl

pub slots-found : (status : HitStatus) (h : Reader) (r : Request) (s : Store) → (store_found status h r s).slots ≡ s.slots
slots-found status h r s = slots-left_by (cond (is_treated_as_miss status) (left s h) s) r.reader ∙ slots-passed (is_treated_as_miss status) s h

-- the slots stay, whether the pair was taken or let go
pub slots_taken : {A : Type 0} (s t : Store) (status : HitStatus) (h : Reader) (r : Request) (result : Result A ErrorType) → OnOk result (t ≡ store_found status h r s) → OnErr result (t ≡ left s h) → t.slots ≡ s.slots
slots_taken s t status h r (Ok a) store left_store = ap (λ (x : Store). x.slots) store ∙ slots-found status h r s
slots_taken s t status h r (Err e) store left_store = ap (λ (x : Store). x.slots) left_store ∙ slots-left s h

pub kept_found : (wg : Weighing) (limits : Limits) (m n : Tracked) (s t : Store) → t.slots ≡ s.slots → t.newest ≡ s.newest → n ≡ m → IsKept wg limits m s → IsKept wg limits n t
kept_found wg limits m n s t same mode tracked k = subst (λ x. IsKept wg limits x t) (sym tracked) (kept_slots wg limits m s t same mode k)

-- ---- a reader goes, and what else is given back

pub kept_left : (wg : Weighing) (limits : Limits) (m : Tracked) (s t : Store) (o : Option Reader) → t ≡ left_by o s → IsKept wg limits m s → IsKept wg limits m t
kept_left wg limits m s t o is k = kept_slots wg limits m s t (ap (λ (x : Store). x.slots) is ∙ slots-left_by s o) (ap (λ (x : Store). x.newest) is ∙ mode-left_by s o) k

pub kept_dropped : (wg : Weighing) (limits : Limits) (m : Tracked) (s t : Store) (w : Option ℕ) → t ≡ dropped_by w s → IsKept wg limits m s → IsKept wg limits m t
kept_dropped wg limits m s t w is k = subst (IsKept wg limits m) (sym is) (kept_fewer wg limits m s (dropped_by w s) (fewer-dropped_by wg s w) (mode-dropped_by s w) k)

pub kept_ended : (wg : Weighing) (limits : Limits) (m : Tracked) (s t : Store) (o : Option Reader) (w : Option ℕ) → t ≡ left_by o (dropped_by w s) → IsKept wg limits m s → IsKept wg limits m t
kept_ended wg limits m s t o w is k = kept_left wg limits m (dropped_by w s) t o is (kept_dropped wg limits m s (dropped_by w s) w refl k)

-- ---- a write begins

slots-writing : (streams : Bool) (n : ℕ) (r : Request) (t : Store) → (cond streams (left_by r.reader (followed t (followed_for r.key n t))) t).slots ≡ t.slots
slots-writing true n r t = slots-left_by (followed t (followed_for r.key n t)) r.reader ∙ slots-followed t (followed_for r.key n t)
slots-writing false n r t = refl

pub kept_writing : (wg : Weighing) (limits : Limits) (m : Tracked) (s t : Store) (streams : Bool) (n : ℕ) (r : Request) → t ≡ store_writing streams n r s → IsKept wg limits m s → IsKept wg limits m t
kept_writing wg limits m s t streams n r is k =
    kept_slots wg limits m (begun_for r.key r.meta s) t (ap (λ (x : Store). x.slots) is ∙ slots-writing streams n r (begun_for r.key r.meta s))
    (ap (λ (x : Store). x.newest) is ∙ mode-following streams n r (begun_for r.key r.meta s))
    (kept_fewer wg limits m s (begun_for r.key r.meta s) (fewer-begun_for wg r.key r.meta s) (mode-begun_for r.key r.meta s) k)

pub kept_begun : (wg : Weighing) (limits : Limits) (m : Tracked) (s t : Store) (r : Request) → t ≡ begun_for r.key r.meta s → IsKept wg limits m s → IsKept wg limits m t
kept_begun wg limits m s t r is k = subst (IsKept wg limits m) (sym is) (kept_fewer wg limits m s (begun_for r.key r.meta s) (fewer-begun_for wg r.key r.meta s) (mode-begun_for r.key r.meta s) k)

-- a begin that may fail, before or after the write began
pub kept_beginning : {A : Type 0} (wg : Weighing) (limits : Limits) (m : Tracked) (s t : Store) (p q : Past) (x y : Locks) (d e : Deeds) (r r' : Request) (result : Result A ErrorType) → OnOk result (t ≡ store_writing true s.next r s)
    → IfErr result (λ why. FailsToBegin true s p x d r why t q y e r') → IsKept wg limits m s → IsKept wg limits m t
kept_beginning wg limits m s t p q x y d e r r' (Ok a) ok err k = kept_writing wg limits m s t true s.next r ok k
kept_beginning wg limits m s t p q x y d e r r' (Err why) ok (inl same) k = subst (IsKept wg limits m) (sym same.1) k
kept_beginning wg limits m s t p q x y d e r r' (Err why) ok (inr begun) k = kept_begun wg limits m s t r begun.1 k

-- ---- removals

-- what is tracked once an entry of a slot is removed, under which nothing is complete any more
pub kept_purged : (wg : Weighing) (limits : Limits) (m : Tracked) (s : Store) (k : ℕ) (e : CacheEntryKey) → entry_slot e ≡ k → IsKept wg limits m s → IsKept wg limits (remove m e) (purged s k)
kept_purged wg limits m s k e of kept = record {
  exact = λ q b is.
      let here = body-remove s.slots k q in
      elim (eq_by_cmp nat_cmp q k) as (λ t. eq_by_cmp nat_cmp q k ≡ t → cond t None (complete_body (get s.slots q)) ≡ Some b → (x : CacheEntryKey) × (entry_slot x ≡ q) × (get (remove m e) x ≡ Some (body_weight wg b)) × (id_of x ≡ b.meta.entry_id)) [
        | true ↦ λ t none. absurd (cc)
        | false ↦ λ t there.
            let old = kept.exact q b there in
            let ne : q ≢ k = λ same. both_ways _ t (cmp_same q k ∙ eq-eqb k q (sym same)) in
            (old.0, old.1, get-remove entries_total m e old.0 ∙ ap (λ y. cond y None (get m old.0)) (entries-apart old.0 e q k old.1 of ne) ∙ old.2, old.3)
      ] refl (sym here ∙ is);
  bounded = bounded-fewer wg limits s (purged s k) (fewer-purged_at wg s (Some k)) kept.bounded;
  newest = kept.newest;
}

-- an entry of a key is of its slot, whatever number it has
pub entry-of-slot : (k : Key) (n : Option ℕ) → entry_slot (entry_of k n) ≡ slot k
entry-of-slot k None = refl
entry-of-slot k (Some n) = refl

-- the outcome of a purge, by what was there
kept-gone : (wg : Weighing) (limits : Limits) (m : Tracked) (s : Store) (uses : Bool) (k : Key) (x : Option Slot) → IsKept wg limits m s → IsKept wg limits (tracked_gone uses (compact_of k) (slot_outcome true x) m) (purged s (slot k))
kept-gone wg limits m s true k (Some x) kept = kept_purged wg limits m s (slot k) (entry_of k (number_of_body x.body)) (entry-of-slot k (number_of_body x.body)) kept
kept-gone wg limits m s false k (Some x) kept = kept_fewer wg limits m s (purged s (slot k)) (fewer-purged_at wg s (Some (slot k))) refl kept
kept-gone wg limits m s uses k None kept = kept_fewer wg limits m s (purged s (slot k)) (fewer-purged_at wg s (Some (slot k))) refl kept

kept-gone_for : (wg : Weighing) (limits : Limits) (m : Tracked) (s : Store) (uses : Bool) (key : Option Key) → IsKept wg limits m s
    → IsKept wg limits (tracked_gone_for uses key (purge_outcome true s (option_map slot key)) m) (purged_at s (option_map slot key))
kept-gone_for wg limits m s uses None kept = kept
kept-gone_for wg limits m s uses (Some k) kept = kept-gone wg limits m s uses k (get s.slots (slot k)) kept

pub kept_removed : {A : Type 0} (wg : Weighing) (limits : Limits) (m n : Tracked) (s t : Store) (uses : Bool) (key : Option Key) (result : Result A ErrorType)
    → OnOk result (t ≡ purged_at s (option_map slot key)) → OnOk result (n ≡ tracked_gone_for uses key (purge_outcome true s (option_map slot key)) m) → OnErr result (t ≡ s) → OnErr result (n ≡ m) → IsKept wg limits m s → IsKept wg limits n t
kept_removed wg limits m n s t uses key (Ok a) store tracked same_store same_tracked kept =
    subst (IsKept wg limits n) (sym store) (subst (λ x. IsKept wg limits x (purged_at s (option_map slot key))) (sym tracked) (kept-gone_for wg limits m s uses key kept))
kept_removed wg limits m n s t uses key (Err e) store tracked same_store same_tracked kept =
    subst (IsKept wg limits n) (sym same_store) (subst (λ x. IsKept wg limits x s) (sym same_tracked) kept)

-- an expiry takes nothing out
kept-stale : (wg : Weighing) (limits : Limits) (m : Tracked) (s : Store) (uses : Bool) (k : Key) (now : ℕ) (there : Bool) → IsKept wg limits m s → IsKept wg limits (tracked_gone uses (compact_of k) (cond there Expired NotFound) m) (meta_changed (expired_at now) s (slot k))
kept-stale wg limits m s uses k now true kept = kept_fewer wg limits m s (meta_changed (expired_at now) s (slot k)) (fewer-changed wg (expired_at now) (λ x. refl) (λ x. refl) s (slot k)) refl kept
kept-stale wg limits m s uses k now false kept = kept_fewer wg limits m s (meta_changed (expired_at now) s (slot k)) (fewer-changed wg (expired_at now) (λ x. refl) (λ x. refl) s (slot k)) refl kept

kept-stale_for : (wg : Weighing) (limits : Limits) (m : Tracked) (s : Store) (uses : Bool) (key : Option Key) (now : ℕ) → IsKept wg limits m s
    → IsKept wg limits (tracked_gone_for uses key (expire_outcome s (option_map slot key)) m) (purge.expired_at now s (option_map slot key))
kept-stale_for wg limits m s uses None now kept = kept
kept-stale_for wg limits m s uses (Some k) now kept = kept-stale wg limits m s uses k now (is_some (complete_body (get s.slots (slot k)))) kept

pub kept_expired : {A : Type 0} (wg : Weighing) (limits : Limits) (m n : Tracked) (s t : Store) (uses : Bool) (key : Option Key) (now : ℕ) (result : Result A ErrorType)
    → OnOk result (t ≡ purge.expired_at now s (option_map slot key)) → OnOk result (n ≡ tracked_gone_for uses key (expire_outcome s (option_map slot key)) m) → OnErr result (t ≡ s) → OnErr result (n ≡ m) → IsKept wg limits m s → IsKept wg limits n t
kept_expired wg limits m n s t uses key now (Ok a) store tracked same_store same_tracked kept =
    subst (IsKept wg limits n) (sym store) (subst (λ x. IsKept wg limits x (purge.expired_at now s (option_map slot key))) (sym tracked) (kept-stale_for wg limits m s uses key now kept))
kept_expired wg limits m n s t uses key now (Err e) store tracked same_store same_tracked kept =
    subst (IsKept wg limits n) (sym same_store) (subst (λ x. IsKept wg limits x s) (sym same_tracked) kept)
