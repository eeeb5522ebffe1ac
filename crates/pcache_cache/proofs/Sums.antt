-- Sums over the slots of a store, against those of another store and against what is tracked.
use Rattle.std.specs.declared.cmp.Ordering.{Ordering}
use Rattle.std.specs.declared.cmp.Ordering.TheVariants.{Less, Equal, Greater}
use Rattle.pcache_store.specs.Totals.{body_len, stored_bytes}
use Rattle.pcache_cache.specs.declared.weighing.Weighing.TheVariants.{Bodies, Entries}
use Rattle.pcache_cache.proofs.Words.{◌≡◌, ◌≢◌, ℕ, zero, suc, ◌-◌, ◌≤◌, true, false, cond, Option, None, Some, is_some, List, [], ◌∷◌, length, refl, ap, sym, subst, ◌∙◌, arith, ◌⊎◌, inl, inr, IfSome, nat_cmp, eq_by_cmp, is_eq, nat_cmp_total, tied_itself, FinMap, get, remove, entries, len, find, get-remove, get-entries, len-remove, len-entries, empty_of_len, nat_cmp-IsAntisymmetric, both_ways, eq-eqb, total, share, total-remove, total-empty, len-total, entry_cmp, entries_total, Tracked, Limits, IsWithin, weight, CacheEntryKey, exact_entries, entry_slot, Store, Slot, Stored, complete_body, body_size, body_count, one, slots, IsBounded, TracksExactly, body_weight, slot_weight, stored_weight, Weighing}
use Rattle.pcache_cache.proofs.Standing.{Fewer, cmp_same}

head_here : {X : Type 0} (m : FinMap nat_cmp X) (e : ℕ × X) (es : List (ℕ × X)) → entries m ≡ e ∷ es → get m e.0 ≡ Some e.1
head_here m e es is = get-entries m e.0 ∙ ap (find nat_cmp e.0) is ∙ ap (λ r. cond (is_eq r) (Some e.1) (find nat_cmp e.0 es)) (tied_itself nat_cmp_total e.0)

shorter : {X : Type 0} (m : FinMap nat_cmp X) (k n : ℕ) (x : X) → get m k ≡ Some x → len m ≡ suc n → len (remove m k) ≡ n
shorter m k n x here is =
    let e : len (remove m k) ≡ len m - 1 = len-remove nat_cmp_total m k ∙ ap (λ o. cond (is_some o) (len m - 1) (len m)) here in
    omega arith

-- a map that adds at most as much at each key adds up to at most as much
module _ {X : Type 0} (f : X → ℕ) where
  less-without : (ys xs : FinMap nat_cmp X) (k q : ℕ) → share f (get ys q) ≤ share f (get xs q) → share f (get (remove ys k) q) ≤ share f (get (remove xs k) q)
  less-without ys xs k q h =
      subst (λ o. share f o ≤ share f (get (remove xs k) q)) (sym (get-remove nat_cmp_total ys k q))
      (subst (λ o. share f (cond (eq_by_cmp nat_cmp q k) None (get ys q)) ≤ share f o) (sym (get-remove nat_cmp_total xs k q))
      (elim (eq_by_cmp nat_cmp q k) as (λ b. share f (cond b None (get ys q)) ≤ share f (cond b None (get xs q))) [ true ↦ omega arith | false ↦ h ]))

  pub total-less : (n : ℕ) (ys xs : FinMap nat_cmp X) → len ys ≡ n → ((q : ℕ) → share f (get ys q) ≤ share f (get xs q)) → total f ys ≤ total f xs
  total-less zero ys xs e h = let none : total f ys ≡ 0 = ap (total f) (empty_of_len ys e) ∙ total-empty nat_cmp_total f in omega arith
  total-less (suc n) ys xs e h =
      elim (entries ys) as (λ es. entries ys ≡ es → total f ys ≤ total f xs) [
        | [] ↦ λ is. let none : len ys ≡ 0 = len-entries ys ∙ ap length is in absurd (omega arith)
        | x ∷ es ↦ λ is.
            let k = x.0 in
            let here : get ys k ≡ Some x.1 = head_here ys x es is in
            let rest : total f (remove ys k) ≤ total f (remove xs k) = total-less n (remove ys k) (remove xs k) (shorter ys k n x.1 here e) (λ q. less-without ys xs k q (h q)) in
            let own = total-remove nat_cmp_total f nat_cmp-IsAntisymmetric ys k in
            let other = total-remove nat_cmp_total f nat_cmp-IsAntisymmetric xs k in
            let first = h k in
            omega arith
      ] refl

-- what is complete under the keys adds up to at most what is tracked, if each key has an entry of its own

tie : (r : Ordering) → is_eq r ≡ true → r ≡ Equal
tie Less e = cc
tie Equal e = refl
tie Greater e = cc

-- entries that tie are one
pub entry-same : (a b : CacheEntryKey) → eq_by_cmp entry_cmp a b ≡ true → a ≡ b
entry-same a b t = exact_entries a b (tie _ t)

-- entries of different slots are different
pub entries-apart : (a b : CacheEntryKey) (j k : ℕ) → entry_slot a ≡ j → entry_slot b ≡ k → j ≢ k → eq_by_cmp entry_cmp a b ≡ false
entries-apart a b j k is at ne =
    elim (eq_by_cmp entry_cmp a b) as (λ t. eq_by_cmp entry_cmp a b ≡ t → t ≡ false) [
      | true ↦ λ t. absurd (ne (sym is ∙ ap entry_slot (entry-same a b t) ∙ at))
      | false ↦ λ t. refl
    ] refl

-- an entry of the key's slot weighs at least what the key's slot adds
abbrev pub HasEntry : (Slot → ℕ) → (ℕ → ℕ) → FinMap nat_cmp Slot → Tracked → ℕ → Type 0
HasEntry f g xs m k = (e : CacheEntryKey) × (entry_slot e ≡ k) × (share f (get xs k) ≤ share g (get m e))

module _ (f : Slot → ℕ) (g : ℕ → ℕ) where
  -- the others once a key and its entry are removed
  rest-has : (xs : FinMap nat_cmp Slot) (m : Tracked) (k : ℕ) (e : CacheEntryKey) → entry_slot e ≡ k → ((q : ℕ) → (share f (get xs q) ≡ 0) ⊎ HasEntry f g xs m q)
      → (q : ℕ) → (share f (get (remove xs k) q) ≡ 0) ⊎ HasEntry f g (remove xs k) (remove m e) q
  rest-has xs m k e of all q =
      elim (eq_by_cmp nat_cmp q k) as (λ b. eq_by_cmp nat_cmp q k ≡ b → (share f (get (remove xs k) q) ≡ 0) ⊎ HasEntry f g (remove xs k) (remove m e) q) [
        | true ↦ λ t. inl (ap (share f) (get-remove nat_cmp_total xs k q ∙ ap (λ b. cond b None (get xs q)) t))
        | false ↦ λ t.
            let kept : get (remove xs k) q ≡ get xs q = get-remove nat_cmp_total xs k q ∙ ap (λ b. cond b None (get xs q)) t in
            elim (all q) [
              | inl none ↦ inl (ap (share f) kept ∙ none)
              | inr has ↦
                  let ne : q ≢ k = λ same. both_ways _ t (cmp_same q k ∙ eq-eqb k q (sym same)) in
                  let there : get (remove m e) has.0 ≡ get m has.0 = get-remove entries_total m e has.0 ∙ ap (λ b. cond b None (get m has.0)) (entries-apart has.0 e q k has.1 of ne) in
                  inr (has.0, has.1, subst (λ o. share f o ≤ share g (get (remove m e) has.0)) (sym kept) (subst (λ o. share f (get xs q) ≤ share g o) (sym there) has.2))
            ]
      ] refl

  -- a key that adds nothing is removed, and no entry
  rest-none : (xs : FinMap nat_cmp Slot) (m : Tracked) (k : ℕ) → ((q : ℕ) → (share f (get xs q) ≡ 0) ⊎ HasEntry f g xs m q) → (q : ℕ) → (share f (get (remove xs k) q) ≡ 0) ⊎ HasEntry f g (remove xs k) m q
  rest-none xs m k all q =
      elim (eq_by_cmp nat_cmp q k) as (λ b. eq_by_cmp nat_cmp q k ≡ b → (share f (get (remove xs k) q) ≡ 0) ⊎ HasEntry f g (remove xs k) m q) [
        | true ↦ λ t. inl (ap (share f) (get-remove nat_cmp_total xs k q ∙ ap (λ b. cond b None (get xs q)) t))
        | false ↦ λ t.
            let kept : get (remove xs k) q ≡ get xs q = get-remove nat_cmp_total xs k q ∙ ap (λ b. cond b None (get xs q)) t in
            elim (all q) [
              | inl none ↦ inl (ap (share f) kept ∙ none)
              | inr has ↦ inr (has.0, has.1, subst (λ o. share f o ≤ share g (get m has.0)) (sym kept) has.2)
            ]
      ] refl

  pub total-tracked : (n : ℕ) (xs : FinMap nat_cmp Slot) (m : Tracked) → len xs ≡ n → ((q : ℕ) → (share f (get xs q) ≡ 0) ⊎ HasEntry f g xs m q) → total f xs ≤ total g m
  total-tracked zero xs m e all = let none : total f xs ≡ 0 = ap (total f) (empty_of_len xs e) ∙ total-empty nat_cmp_total f in omega arith
  total-tracked (suc n) xs m e all =
      elim (entries xs) as (λ es. entries xs ≡ es → total f xs ≤ total g m) [
        | [] ↦ λ is. let none : len xs ≡ 0 = len-entries xs ∙ ap length is in absurd (omega arith)
        | x ∷ es ↦ λ is.
            let k = x.0 in
            let here : get xs k ≡ Some x.1 = head_here xs x es is in
            let less : len (remove xs k) ≡ n = shorter xs k n x.1 here e in
            let own = total-remove nat_cmp_total f nat_cmp-IsAntisymmetric xs k in
            elim (all k) [
              | inl none ↦
                  let rest : total f (remove xs k) ≤ total g m = total-tracked n (remove xs k) m less (rest-none xs m k all) in
                  omega arith
              | inr has ↦
                  let rest : total f (remove xs k) ≤ total g (remove m has.0) = total-tracked n (remove xs k) (remove m has.0) less (rest-has xs m k has.0 has.1 all) in
                  let other = total-remove entries_total g exact_entries m has.0 in
                  let first = has.2 in
                  omega arith
            ]
      ] refl

-- ---- the bound

pub sized : (f : Stored → ℕ) (o : Option Slot) → share (λ (x : Slot). share f x.body) o ≡ share f (complete_body o)
sized f None = refl
sized f (Some x) = refl

if_some : {P Q : ℕ → Type 0} (o : Option ℕ) → ((x : ℕ) → P x → Q x) → IfSome o P → IfSome o Q
if_some None f h = h
if_some (Some x) f h = f x h

-- a measure of what is complete under a key, in a store in which no more is complete
fewer-at : (wg : Weighing) (f : Stored → ℕ) → ((a b : Stored) → a.bytes ≡ b.bytes → body_weight wg a ≡ body_weight wg b → f a ≡ f b) → (xs ys : FinMap nat_cmp Slot) → Fewer wg xs ys → (q : ℕ) → share (λ (x : Slot). share f x.body) (get ys q) ≤ share (λ (x : Slot). share f x.body) (get xs q)
fewer-at wg f same xs ys fewer q =
    subst (λ n. n ≤ share (λ (x : Slot). share f x.body) (get xs q)) (sym (sized f (get ys q)))
    (subst (λ n. share f (complete_body (get ys q)) ≤ n) (sym (sized f (get xs q)))
    (elim (complete_body (get ys q)) as (λ o. complete_body (get ys q) ≡ o → share f o ≤ share f (complete_body (get xs q))) [
      | None ↦ λ is. omega arith
      | Some b ↦ λ is.
          let p = fewer q b is in
          let e : share f (complete_body (get xs q)) ≡ f p.0 = ap (share f) p.1 in
          let d : f p.0 ≡ f b = same p.0 b p.2 p.4 in
          omega arith
    ] refl))

pub bounded-fewer : (wg : Weighing) (limits : Limits) (s t : Store) → Fewer wg s.slots t.slots → IsBounded wg limits s → IsBounded wg limits t
bounded-fewer wg limits s t fewer b = record {
  bytes =
      let less : stored_bytes t ≤ stored_bytes s = total-less body_size (len t.slots) t.slots s.slots refl (fewer-at wg body_len (λ x y e h. ap length e) s.slots t.slots fewer) in
      let most = b.bytes in
      omega arith;
  weights =
      let less : stored_weight wg t ≤ stored_weight wg s = total-less (slot_weight wg) (len t.slots) t.slots s.slots refl (fewer-at wg (body_weight wg) (λ x y e h. h) s.slots t.slots fewer) in
      let most = b.weights in
      omega arith;
  count = if_some {P = λ most. slots s ≤ most} {Q = λ most. slots t ≤ most} limits.watermark (λ most h.
      let less : slots t ≤ slots s = total-less body_count (len t.slots) t.slots s.slots refl (fewer-at wg one (λ x y e h. refl) s.slots t.slots fewer) in
      omega arith) b.count;
}

-- a body weighs at least its length
len-less : (wg : Weighing) (b : Stored) → body_len b ≤ body_weight wg b
len-less Bodies b = omega arith
len-less Entries b = omega arith

-- a measure of what is complete under a key, against that of the key's entry
pub tracked-at : (wg : Weighing) (f : Stored → ℕ) (g : ℕ → ℕ) → ((b : Stored) → f b ≤ g (body_weight wg b)) → (s : Store) (m : Tracked) → TracksExactly wg s m → (q : ℕ) → (share (λ (x : Slot). share f x.body) (get s.slots q) ≡ 0) ⊎ HasEntry (λ (x : Slot). share f x.body) g s.slots m q
tracked-at wg f g less s m exact q =
    elim (complete_body (get s.slots q)) as (λ o. complete_body (get s.slots q) ≡ o → (share (λ (x : Slot). share f x.body) (get s.slots q) ≡ 0) ⊎ HasEntry (λ (x : Slot). share f x.body) g s.slots m q) [
      | None ↦ λ is. inl (sized f (get s.slots q) ∙ ap (share f) is)
      | Some b ↦ λ is.
          let p = exact q b is in
          let there : share g (get m p.0) ≡ g (body_weight wg b) = ap (share g) p.2 in
          let here : share (λ (x : Slot). share f x.body) (get s.slots q) ≡ f b = sized f (get s.slots q) ∙ ap (share f) is in
          let e = less b in
          inr (p.0, p.1, omega arith)
    ] refl

pub bounded-within : (wg : Weighing) (limits : Limits) (s : Store) (m : Tracked) → TracksExactly wg s m → IsWithin limits m → IsBounded wg limits s
bounded-within wg limits s m exact within = record {
  bytes =
      let most : stored_bytes s ≤ weight m = total-tracked body_size (λ n. n) (len s.slots) s.slots m refl (tracked-at wg body_len (λ n. n) (len-less wg) s m exact) in
      let limit = within.weight in
      omega arith;
  weights =
      let most : stored_weight wg s ≤ weight m = total-tracked (slot_weight wg) (λ n. n) (len s.slots) s.slots m refl (tracked-at wg (body_weight wg) (λ n. n) (λ b. omega arith) s m exact) in
      let limit = within.weight in
      omega arith;
  count = if_some {P = λ most. len m ≤ most} {Q = λ most. slots s ≤ most} limits.watermark (λ most h.
      let all : slots s ≤ total (λ _. 1) m = total-tracked body_count (λ _. 1) (len s.slots) s.slots m refl (tracked-at wg one (λ _. 1) (λ b. omega arith) s m exact) in
      let count = len-total m in
      omega arith) within.count;
}
