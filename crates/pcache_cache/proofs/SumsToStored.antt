-- Where only what is stored is tracked, what is tracked sums to what is stored.
use Rattle.pcache_cache.specs.Strays.{SumsToStored}
use Rattle.pcache_cache.proofs.Words.{◌≡◌, ℕ, zero, suc, ◌-◌, ◌≤◌, true, false, cond, None, Some, is_some, List, [], ◌∷◌, inl, inr, length, refl, ap, sym, subst, ◌∙◌, arith, nat_cmp, eq_by_cmp, is_eq, nat_cmp_total, tied_itself, FinMap, entries, empty_of_len, find, get, get-entries, get-remove, len, len-entries, len-remove, nat_cmp-IsAntisymmetric, remove, both_ways, share, total, len-total, total-empty, total-remove, exact_entries, entries_total, entry_cmp, Tracked, weight, CacheEntryKey, Identified, entry_slot, Slot, Store, Stored, complete_body, number_of_body, body_count, one, slots, Parts, TracksExactly, Account, IsBody, TracksOnly, body_weight, slot_weight, stored_weight, Weighing}
use Rattle.pcache_cache.proofs.Standing.{same-key}
use Rattle.pcache_cache.proofs.Sums.{sized, total-tracked, tracked-at}

-- the first entry of a map, and the others
first-here : (m : Tracked) (x : CacheEntryKey × ℕ) (xs : List (CacheEntryKey × ℕ)) → entries m ≡ x ∷ xs → get m x.0 ≡ Some x.1
first-here m x xs is = get-entries m x.0 ∙ ap (find entry_cmp x.0) is ∙ ap (λ r. cond (is_eq r) (Some x.1) (find entry_cmp x.0 xs)) (tied_itself entries_total x.0)

first-gone : (m : Tracked) (k : CacheEntryKey) (n v : ℕ) → get m k ≡ Some v → len m ≡ suc n → len (remove m k) ≡ n
first-gone m k n v here is =
    let e : len (remove m k) ≡ len m - 1 = len-remove entries_total m k ∙ ap (λ o. cond (is_some o) (len m - 1) (len m)) here in
    omega arith

others : (m : Tracked) (x e : CacheEntryKey) (v : ℕ) → get (remove m x) e ≡ Some v → (get m e ≡ Some v) × (e ≡ x → ⊥)
others m x e v is =
    elim (eq_by_cmp entry_cmp e x) as (λ t. eq_by_cmp entry_cmp e x ≡ t → cond t None (get m e) ≡ Some v → (get m e ≡ Some v) × (e ≡ x → ⊥)) [
      | true ↦ λ t none. absurd (cc)
      | false ↦ λ t there. (there, λ same. both_ways _ t (ap (eq_by_cmp entry_cmp e) (sym same) ∙ ap is_eq (tied_itself entries_total e)))
    ] refl (sym (get-remove entries_total m x e) ∙ is)

-- each tracked entry adds at most what is complete under its slot, and no two have one slot
module _ (f : Slot → ℕ) (g : ℕ → ℕ) where
  abbrev Covers : FinMap nat_cmp Slot → Tracked → Type 0
  Covers xs m = (e : CacheEntryKey) (v : ℕ) → get m e ≡ Some v → g v ≤ share f (get xs (entry_slot e))

  abbrev IsApart : Tracked → Type 0
  IsApart m = (d e : CacheEntryKey) (u v : ℕ) → get m d ≡ Some u → get m e ≡ Some v → entry_slot d ≡ entry_slot e → d ≡ e

  rest-covers : (xs : FinMap nat_cmp Slot) (m : Tracked) (x : CacheEntryKey) (n : ℕ) → get m x ≡ Some n → IsApart m → Covers xs m → Covers (remove xs (entry_slot x)) (remove m x)
  rest-covers xs m x n here apart covers e v is =
      let was = others m x e v is in
      let same : get (remove xs (entry_slot x)) (entry_slot e) ≡ get xs (entry_slot e) =
      get-remove nat_cmp_total xs (entry_slot x) (entry_slot e) ∙ elim (eq_by_cmp nat_cmp (entry_slot e) (entry_slot x)) as (λ t. eq_by_cmp nat_cmp (entry_slot e) (entry_slot x) ≡ t → cond t None (get xs (entry_slot e)) ≡ get xs (entry_slot e)) [
        | true ↦ λ t. absurd (was.1 (apart e x v n was.0 here (same-key (entry_slot e) (entry_slot x) t)))
        | false ↦ λ t. refl
      ] refl in
      subst (λ o. g v ≤ share f o) (sym same) (covers e v was.0)

  total-covered : (n : ℕ) (m : Tracked) (xs : FinMap nat_cmp Slot) → len m ≡ n → IsApart m → Covers xs m → total g m ≤ total f xs
  total-covered zero m xs is apart covers = let none : total g m ≡ 0 = ap (total g) (empty_of_len m is) ∙ total-empty entries_total g in omega arith
  total-covered (suc n) m xs is apart covers =
      elim (entries m) as (λ es. entries m ≡ es → total g m ≤ total f xs) [
        | [] ↦ λ no. let none : len m ≡ 0 = len-entries m ∙ ap length no in absurd (omega arith)
        | x ∷ es ↦ λ some.
            let k = x.0 in
            let here : get m k ≡ Some x.1 = first-here m x es some in
            let rest : total g (remove m k) ≤ total f (remove xs (entry_slot k)) = total-covered n (remove m k) (remove xs (entry_slot k)) (first-gone m k n x.1 here is) (λ d e u v a b. apart d e u v (others m k d u a).0 (others m k e v b).0) (rest-covers xs m k x.1 here apart covers) in
            let own = total-remove entries_total g exact_entries m k in
            let other = total-remove nat_cmp_total f nat_cmp-IsAntisymmetric xs (entry_slot k) in
            let share : share g (get m k) ≡ g x.1 = ap (share g) here in
            let first = covers k x.1 here in
            omega arith
      ] refl

-- with nothing left out, an entry is that of a body
module _ (of : Account) (none : (e : CacheEntryKey) → of.is_left_out e ≡ false) (wg : Weighing) (s : Store) (m : Tracked) (only : TracksOnly of wg s m) where
  body-of : (e : CacheEntryKey) (n : ℕ) → get m e ≡ Some n → (w : ℕ) × (e ≡ Identified (of.key_of_slot (entry_slot e)) w) × IsBody wg s (entry_slot e) w n
  body-of e n is =
      let own = only e n is in
      (own.number, own.named, elim own.stored [ inl out ↦ absurd (both_ways _ (none e) out) | inr body ↦ body ])

  no-two : IsApart (λ _. 0) (λ _. 0) m
  no-two d e u v a b same =
      let p = body-of d u a in
      let q = body-of e v b in
      let one : Some p.0 ≡ Some q.0 = sym p.2.2 ∙ ap number_of_body (sym p.2.1 ∙ ap (λ k. complete_body (get s.slots k)) same ∙ q.2.1) ∙ q.2.2 in
      let number : p.0 ≡ q.0 = cc in
      p.1 ∙ ap (λ k. Identified (of.key_of_slot k) p.0) same ∙ ap (Identified (of.key_of_slot (entry_slot e))) number ∙ sym q.1

  covers-by : (f : Stored → ℕ) (g : ℕ → ℕ) → ((b : Stored) → g (body_weight wg b) ≤ f b) → Covers (λ (x : Slot). share f x.body) g s.slots m
  covers-by f g most e v is =
      let p = body-of e v is in
      let b = p.2.0 in
      let there : share (λ (x : Slot). share f x.body) (get s.slots (entry_slot e)) ≡ f b = sized f (get s.slots (entry_slot e)) ∙ ap (share f) p.2.1 in
      let weighs : g v ≡ g (body_weight wg b) = ap g p.2.3 in
      let h = most b in
      omega arith

-- what is tracked weighs no more than what is stored, and is not more
pub tracked_less : (of : Account) → ((e : CacheEntryKey) → of.is_left_out e ≡ false) → (wg : Weighing) (s : Store) (m : Tracked) → TracksOnly of wg s m → (weight m ≤ stored_weight wg s) × (len m ≤ slots s)
tracked_less of none wg s m only = (
  total-covered (slot_weight wg) (λ n. n) (len m) m s.slots refl (no-two of none wg s m only) (covers-by of none wg s m only (body_weight wg) (λ n. n) (λ b. omega arith)),
  (
      let least : total (λ _. 1) m ≤ slots s = total-covered body_count (λ _. 1) (len m) m s.slots refl (no-two of none wg s m only) (covers-by of none wg s m only one (λ _. 1) (λ b. omega arith)) in
      let all = len-total m in
      omega arith
      ),
)

pub sums_to_stored : (p : Parts) → TracksExactly p.weighing p.store p.tracked → SumsToStored p
sums_to_stored p exact of none only = (weights, counts)
  where
    less : (weight p.tracked ≤ stored_weight p.weighing p.store) × (len p.tracked ≤ slots p.store)
    less = tracked_less of none p.weighing p.store p.tracked only

    weights : weight p.tracked ≡ stored_weight p.weighing p.store
    weights =
        let most : stored_weight p.weighing p.store ≤ weight p.tracked = total-tracked (slot_weight p.weighing) (λ n. n) (len p.store.slots) p.store.slots p.tracked refl (tracked-at p.weighing (body_weight p.weighing) (λ n. n) (λ b. omega arith) p.store p.tracked exact) in
        let least = less.0 in
        omega arith

    counts : len p.tracked ≡ slots p.store
    counts =
        let most : slots p.store ≤ total (λ _. 1) p.tracked = total-tracked body_count (λ _. 1) (len p.store.slots) p.store.slots p.tracked refl (tracked-at p.weighing one (λ _. 1) (λ b. omega arith) p.store p.tracked exact) in
        let all = len-total p.tracked in
        let least = less.1 in
        omega arith
