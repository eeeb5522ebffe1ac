-- What always holds of a cache still holds after a meta was set.
use Rattle.std.proofs.Common.{not}
use Rattle.pcache_meta.specs.Meta.{in_place_of}
use Rattle.pcache_cache.proofs.Words.{◌≡◌, ◌==◌, ℕ, inl, inr, Bool, true, false, cond, Option, None, Some, Result, Ok, Err, List, refl, ap, sym, subst, ◌∙◌, nat_cmp, eq_by_cmp, get, insert, remove, eq-eqb, eqb-true, Key, slot, share, ErrorType, id_of, IsFair, Limits, Tracked, without, CacheEntryKey, Meta, PurgesAll, entry_slot, entry_of, body_number, Store, Stored, complete_body, meta_changed_in, meta_changed_on, meta_set, number_of_body, purged, with_meta, IsKept, IsNotSet, IsSet, Renews, Stock, entry_at, meta_given, reweighs, weight_at, body_weight, Weighing}
use Rattle.pcache_cache.proofs.Ended.{kept-anew, purged_each, purges-each}
use Rattle.pcache_cache.proofs.Kept.{entry-of-slot, kept_fewer, kept_purged, kept_slots}
use Rattle.pcache_cache.proofs.Standing.{Fewer, Stands, body-insert, body-remove, cmp_same, same-key}

-- the body that has this meta
abbrev pub given : Meta → Stored → Stored
given x a = record a { meta = in_place_of a.meta x }

-- what is complete once a meta is set for the body of a key
pub body-set : (x : Meta) (s : Store) (k q : ℕ) (a : Stored) → complete_body (get s.slots k) ≡ Some a → complete_body (get (meta_set x s k).slots q) ≡ cond (eq_by_cmp nat_cmp q k) (Some (given x a)) (complete_body (get s.slots q))
body-set x s k q a is =
    elim (get s.slots k) as (λ o. complete_body o ≡ Some a → complete_body (get (meta_changed_on (λ old. in_place_of old x) s.slots k o) q) ≡ cond (eq_by_cmp nat_cmp q k) (Some (given x a)) (complete_body (get s.slots q))) [
      | None ↦ λ none. absurd (cc)
      | Some y ↦ λ there. elim y.body as (λ c. y.body ≡ c → c ≡ Some a → complete_body (get (meta_changed_in (λ old. in_place_of old x) s.slots k y c) q) ≡ cond (eq_by_cmp nat_cmp q k) (Some (given x a)) (complete_body (get s.slots q))) [
        | None ↦ λ none own. absurd (cc)
        | Some b ↦ λ some own. body-insert s.slots k q (with_meta (λ old. in_place_of old x) y (Some b)) ∙ ap (λ (z : Stored). cond (eq_by_cmp nat_cmp q k) (Some (given x z)) (complete_body (get s.slots q))) (let e : b ≡ a = cc in e)
      ] refl there
    ] is

-- and if there is none
pub slots-unset : (x : Meta) (s : Store) (k : ℕ) → complete_body (get s.slots k) ≡ None → (meta_set x s k).slots ≡ s.slots
slots-unset x s k is =
    elim (get s.slots k) as (λ o. complete_body o ≡ None → meta_changed_on (λ old. in_place_of old x) s.slots k o ≡ s.slots) [
      | None ↦ λ none. refl
      | Some y ↦ λ none. ap (meta_changed_in (λ old. in_place_of old x) s.slots k y) none
    ] is

-- an entry of a key has the number that it was made with
id-of-entry : (k : Key) (n : Option ℕ) → id_of (entry_of k n) ≡ n
id-of-entry k None = refl
id-of-entry k (Some n) = refl

-- there is nothing to set a meta for
kept_unset : (wg : Weighing) (limits : Limits) (m : Tracked) (s t : Store) (x : Meta) (k : ℕ) → complete_body (get s.slots k) ≡ None → t ≡ meta_set x s k → IsKept wg limits m s → IsKept wg limits m t
kept_unset wg limits m s t x k none set kept = kept_slots wg limits m s t (ap (λ (y : Store). y.slots) set ∙ slots-unset x s k none) (ap (λ (y : Store). y.newest) set) kept

module _ (wg : Weighing) (limits : Limits) (m : Tracked) (s : Store) (x : Meta) (k : Key) (a : Stored) (is : complete_body (get s.slots (slot k)) ≡ Some a) (kept : IsKept wg limits m s) where
  -- the body weighs what it did
  fewer-set : body_weight wg a ≡ body_weight wg (given x a) → Fewer wg s.slots (meta_set x s (slot k)).slots
  fewer-set same q b complete =
      elim (eq_by_cmp nat_cmp q (slot k)) as (λ y. eq_by_cmp nat_cmp q (slot k) ≡ y → cond y (Some (given x a)) (complete_body (get s.slots q)) ≡ Some b → Stands wg s.slots q b) [
        | true ↦ λ y own.
            let e : given x a ≡ b = cc in
            subst (λ z. Stands wg s.slots z b) (sym (same-key q (slot k) y)) (a, is, ap (λ (z : Stored). z.bytes) e, ap (λ (z : Stored). z.meta.entry_id) e, same ∙ ap (body_weight wg) e)
        | false ↦ λ y there. (b, there, refl, refl, refl)
      ] refl (sym (body-set x s (slot k) q a is) ∙ complete)

  kept_set : (t : Store) → t ≡ meta_set x s (slot k) → body_weight wg a ≡ body_weight wg (given x a) → IsKept wg limits m t
  kept_set t set same = subst (IsKept wg limits m) (sym set) (kept_fewer wg limits m s (meta_set x s (slot k)) (fewer-set same) refl kept)

  -- the entry is weighed anew
  kept_reweighed : (out : List CacheEntryKey) (n : ℕ) (t u : Store) (m' : Tracked) → t ≡ meta_set x s (slot k) → n ≡ body_weight wg (given x a) → IsFair limits (insert m (entry_at s k) n) out → PurgesAll true t out 0 u → m' ≡ without out (insert m (entry_at s k) n) → IsKept wg limits m' u
  kept_reweighed out n t u m' set weighs fair purges tracked =
      kept-anew wg limits m s (meta_set x s (slot k)) k (entry_at s k) (given x a) n (λ q. body-set x s (slot k) q a is) (entry-of-slot k (body_number s (slot k))) (id-of-entry k (body_number s (slot k)) ∙ ap number_of_body is) weighs
      (λ q b ne there. kept.exact q b there) out u m' fair (purges-each t u out 0 refl purges ∙ ap (λ y. purged_each y out) set) tracked kept.newest

  -- the body is removed
  fewer-lost : Fewer wg (purged s (slot k)).slots (purged (meta_set x s (slot k)) (slot k)).slots
  fewer-lost q b complete =
      let there = sym (body-remove (meta_set x s (slot k)).slots (slot k) q) ∙ complete in
      elim (eq_by_cmp nat_cmp q (slot k)) as (λ y. eq_by_cmp nat_cmp q (slot k) ≡ y → cond y None (complete_body (get (meta_set x s (slot k)).slots q)) ≡ Some b → Stands wg (purged s (slot k)).slots q b) [
        | true ↦ λ y gone. absurd (cc)
        | false ↦ λ y stays.
            let before : complete_body (get s.slots q) ≡ Some b = ap (λ z. cond z (Some (given x a)) (complete_body (get s.slots q))) (sym y) ∙ sym (body-set x s (slot k) q a is) ∙ stays in
            (b, body-remove s.slots (slot k) q ∙ ap (λ z. cond z None (complete_body (get s.slots q))) y ∙ before, refl, refl, refl)
      ] refl there

  kept_lost : (t u : Store) (e : CacheEntryKey) (m' : Tracked) → t ≡ meta_set x s (slot k) → e ≡ entry_at s k → u ≡ purged t (entry_slot e) → m' ≡ remove m e → IsKept wg limits m' u
  kept_lost t u e m' set own lost tracked =
      let at : entry_slot e ≡ slot k = ap entry_slot own ∙ entry-of-slot k (body_number s (slot k)) in
      let gone : u ≡ purged (meta_set x s (slot k)) (slot k) = lost ∙ (λ i. purged (set i) (at i)) in
      subst (IsKept wg limits m') (sym gone) (subst (λ y. IsKept wg limits y (purged (meta_set x s (slot k)) (slot k))) (sym tracked)
      (kept_fewer wg limits (remove m e) (purged s (slot k)) (purged (meta_set x s (slot k)) (slot k)) fewer-lost refl (kept_purged wg limits m s (slot k) e at kept)))

-- ---- what a body weighs, before and after

same-cmp : (q : ℕ) → eq_by_cmp nat_cmp q q ≡ true
same-cmp q = cmp_same q q ∙ eq-eqb q q refl

pub weight-set : (wg : Weighing) (x : Meta) (s : Store) (k : Key) (a : Stored) → complete_body (get s.slots (slot k)) ≡ Some a → weight_at wg (meta_set x s (slot k)) k ≡ body_weight wg (given x a)
weight-set wg x s k a is = ap (share (body_weight wg)) (body-set x s (slot k) (slot k) a is ∙ ap (λ y. cond y (Some (given x a)) (complete_body (get s.slots (slot k)))) (same-cmp (slot k)))

weighs_not : (wg : Weighing) (x : Meta) (k : Key) (s : Store) → weight_at wg (meta_set x s (slot k)) k ≡ weight_at wg s k → reweighs wg x (Some k) s ≡ false
weighs_not wg x k s same = ap not (eq-eqb _ _ same)

pub same_weight : (wg : Weighing) (x : Meta) (k : Key) (s : Store) → reweighs wg x (Some k) s ≡ false → weight_at wg (meta_set x s (slot k)) k ≡ weight_at wg s k
same_weight wg x k s alike =
    elim (weight_at wg (meta_set x s (slot k)) k == weight_at wg s k) as (λ b. (weight_at wg (meta_set x s (slot k)) k == weight_at wg s k) ≡ b → not b ≡ false → weight_at wg (meta_set x s (slot k)) k ≡ weight_at wg s k) [
      | true ↦ λ t h. eqb-true _ _ t
      | false ↦ λ t h. absurd (cc)
    ] refl alike

pub weight-unset : (wg : Weighing) (x : Meta) (k : Key) (s : Store) → complete_body (get s.slots (slot k)) ≡ None → reweighs wg x (Some k) s ≡ false
weight-unset wg x k s none = weighs_not wg x k s (ap (λ y. share (body_weight wg) (complete_body (get y (slot k)))) (slots-unset x s (slot k) none))

-- ---- the invariant

pub kept_renewed : (wg : Weighing) (limits : Limits) (x : Meta) (k : Key) (result : Result Bool ErrorType) (a b : Stock) → Renews wg limits x (Some k) result a b → IsKept wg limits a.tracked a.store → IsKept wg limits b.tracked b.store
kept_renewed wg limits x k result a b renews kept =
    elim (complete_body (get a.store.slots (slot k))) as (λ o. complete_body (get a.store.slots (slot k)) ≡ o → IsKept wg limits b.tracked b.store) [
      | None ↦ λ none. unset result (weight-unset wg x k a.store none) none renews
      | Some c ↦ λ is. elim (reweighs wg x (Some k) a.store) as (λ r. reweighs wg x (Some k) a.store ≡ r → IsKept wg limits b.tracked b.store) [
        | true ↦ λ so. anew c is result (set-by result so renews)
        | false ↦ λ same. alike c is same result (set-by result same renews)
      ] refl
    ] refl
  where
    IsDone : Bool → Result Bool ErrorType → Type 0
    IsDone r (Ok there) = IsSet r wg limits x (Some k) a b
    IsDone r (Err e) = IsNotSet r x (Some k) a b

    set-by : {r : Bool} (result : Result Bool ErrorType) → reweighs wg x (Some k) a.store ≡ r → Renews wg limits x (Some k) result a b → IsDone r result
    set-by (Ok there) is renews = subst (λ y. IsSet y wg limits x (Some k) a b) is renews.1
    set-by (Err e) is renews = subst (λ y. IsNotSet y x (Some k) a b) is renews.2

    as-given : b ≡ meta_given x (Some k) a → IsKept wg limits a.tracked (meta_set x a.store (slot k)) → IsKept wg limits b.tracked b.store
    as-given is so = subst (λ (y : Stock). IsKept wg limits y.tracked y.store) (sym is) so

    as-was : b ≡ a → IsKept wg limits b.tracked b.store
    as-was is = subst (λ (y : Stock). IsKept wg limits y.tracked y.store) (sym is) kept

    unset : (result : Result Bool ErrorType) → reweighs wg x (Some k) a.store ≡ false → complete_body (get a.store.slots (slot k)) ≡ None → Renews wg limits x (Some k) result a b → IsKept wg limits b.tracked b.store
    unset (Ok there) same none renews = as-given (set-by (Ok there) same renews) (kept_unset wg limits a.tracked a.store (meta_set x a.store (slot k)) x (slot k) none refl kept)
    unset (Err e) same none renews = as-was (set-by (Err e) same renews)

    alike : (c : Stored) → complete_body (get a.store.slots (slot k)) ≡ Some c → reweighs wg x (Some k) a.store ≡ false → (result : Result Bool ErrorType) → IsDone false result → IsKept wg limits b.tracked b.store
    alike c is same (Ok there) set = as-given set (kept_set wg limits a.tracked a.store x k c is kept (meta_set x a.store (slot k)) refl (sym (ap (share (body_weight wg)) is) ∙ sym (same_weight wg x k a.store same) ∙ weight-set wg x a.store k c is))
    alike c is same (Err e) stays = as-was stays

    anew : (c : Stored) → complete_body (get a.store.slots (slot k)) ≡ Some c → (result : Result Bool ErrorType) → IsDone true result → IsKept wg limits b.tracked b.store
    anew c is (Ok there) set = kept_reweighed wg limits a.tracked a.store x k c is kept set.0 (weight_at wg (meta_set x a.store (slot k)) k) (meta_set x a.store (slot k)) b.store b.tracked refl (weight-set wg x a.store k c is) set.1.fair set.1.store set.1.tracked
    anew c is (Err e) (inl stays) = as-was stays
    anew c is (Err e) (inr gone) = kept_lost wg limits a.tracked a.store x k c is kept (meta_set x a.store (slot k)) b.store (entry_at a.store k) b.tracked refl refl (ap (λ (y : Stock). y.store) gone ∙ ap (purged (meta_set x a.store (slot k))) (sym (entry-of-slot k (body_number a.store (slot k))))) (ap (λ (y : Stock). y.tracked) gone)
