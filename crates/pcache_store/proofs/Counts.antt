-- Running totals of the complete bodies, after a slot was changed.
use Rattle.std.proofs.Common.{◌*◌, is_some, lit<}
use Rattle.std.proofs.Math.Nat.{mul-suc}
use Rattle.std.specs.FinMap.{entries, find, len-entries, nat_cmp-IsAntisymmetric}
use Rattle.pcache_base.specs.Totals.{total}
use Rattle.pcache_base.proofs.Totals.{total-insert, total-remove, total-empty}
use Rattle.pcache_store.specs.Store.{has_body_of}
use Rattle.pcache_store.specs.Totals.{body_size, body_count}
use Rattle.pcache_store.proofs.Words.{◌≡◌, ℕ, suc, zero, ◌+◌, ◌-◌, ◌^◌, ◌≤◌, ◌<◌, List, [], ◌∷◌, Bool, true, false, Option, None, Some, ◌∙◌, sym, ap, cond, refl, subst, arith, length, is_none, IsSome, ◌&&◌, nat_cmp, eq_by_cmp, is_eq, nat_cmp_total, tied_itself, FinMap, empty, get, insert, remove, len, get-insert, get-remove, get-empty, get-entries, len-remove, empty_of_len, share, Meta, Slot, Stored, complete_body, is_idle, with_slot, slot_or_new, opened_in, opened, shut_on, body_with, body_without, slot_without, write_gone_on, stored_on, with_meta, meta_changed_in, meta_changed_on, body_len, one, IsCounted}

-- ---- a sum is at most the bound of its terms, as often as there are entries

module _ {X : Type 0} (f : X → ℕ) (c : ℕ) where
  head_here : (m : FinMap nat_cmp X) (e : ℕ × X) (es : List (ℕ × X)) → entries m ≡ e ∷ es → get m e.0 ≡ Some e.1
  head_here m e es is = get-entries m e.0 ∙ ap (find nat_cmp e.0) is ∙ ap (λ r. cond (is_eq r) (Some e.1) (find nat_cmp e.0 es)) (tied_itself nat_cmp_total e.0)

  still : (m : FinMap nat_cmp X) (k q : ℕ) → share f (get m q) ≤ c → share f (get (remove m k) q) ≤ c
  still m k q h = subst (λ o. share f o ≤ c) (sym (get-remove nat_cmp_total m k q)) (elim (eq_by_cmp nat_cmp q k) as (λ b. share f (cond b None (get m q)) ≤ c) [ true ↦ omega arith | false ↦ h ])

  total-at-most : (n : ℕ) (m : FinMap nat_cmp X) → len m ≡ n → ((q : ℕ) → share f (get m q) ≤ c) → total f m ≤ c * n
  total-at-most zero m e h = subst (λ x. total f x ≤ c * 0) (sym (empty_of_len m e)) (rw (total-empty nat_cmp_total f) (omega arith))
  total-at-most (suc n) m e h =
      elim (entries m) as (λ es. entries m ≡ es → total f m ≤ c * suc n) [
        | [] ↦ λ is. let z : len m ≡ 0 = len-entries m ∙ ap length is in absurd (omega arith)
        | x ∷ es ↦ λ is.
            let here : get m x.0 ≡ Some x.1 = head_here m x es is in
            let out : total f (remove m x.0) + f x.1 ≡ total f m = ap (λ o. total f (remove m x.0) + share f o) (sym here) ∙ total-remove nat_cmp_total f nat_cmp-IsAntisymmetric m x.0 in
            let left : len (remove m x.0) ≡ len m - 1 = len-remove nat_cmp_total m x.0 ∙ ap (λ o. cond (is_some o) (len m - 1) (len m)) here in
            let rest : total f (remove m x.0) ≤ c * n = total-at-most n (remove m x.0) (omega arith) (λ q. still m x.0 q (h q)) in
            let top : f x.1 ≤ c = subst (λ o. share f o ≤ c) here (h x.0) in
            let grows : c * suc n ≡ c * n + c = mul-suc c n in
            omega arith
      ] refl

-- ---- the totals after a change of one slot

shared : (g : Stored → ℕ) (o : Option Slot) → share (λ (x : Slot). share g x.body) o ≡ share g (complete_body o)
shared g None = refl
shared g (Some x) = refl

new_body : (o : Option Slot) → (slot_or_new o).body ≡ complete_body o
new_body None = refl
new_body (Some x) = refl

no_body : (g : Stored → ℕ) (o : Option Stored) (b : Bool) → (is_none o && b) ≡ true → share g o ≡ 0
no_body g None b e = refl
no_body g (Some x) b e = cc

-- a body goes, or stays
parted : (g : Stored → ℕ) (n : ℕ) (o : Option Stored) → share g (body_with n o) + share g (body_without n o) ≡ share g o
parted g n o = elim (has_body_of n o) as (λ b. share g (cond b o None) + share g (cond b None o) ≡ share g o) [ true ↦ omega arith | false ↦ omega arith ]

at_most_one : (o : Option Slot) → share body_count o ≤ 1
at_most_one None = omega arith
at_most_one (Some x) = elim (x.body) as (λ o. share one o ≤ 1) [ None ↦ omega arith | Some b ↦ omega arith ]

pub counted_empty : IsCounted empty 0 0
counted_empty = record {
  bodies_are = sym (total-empty nat_cmp_total body_count);
  stored_is = sym (total-empty nat_cmp_total body_size);
  small = λ k. subst (λ o. share body_size o < 2 ^ 63) (sym (get-empty nat_cmp k)) (lit< tt);
}

module _ (xs : FinMap nat_cmp Slot) (b s : ℕ) (h : IsCounted xs b s) where
  pub few_bodies : b ≤ len xs
  few_bodies =
      let most : total body_count xs ≤ 1 * len xs = total-at-most body_count 1 (len xs) xs refl (λ q. at_most_one (get xs q)) in
      let is = h.bodies_are in
      omega arith

  pub few_bytes : s ≤ 9223372036854775808 * len xs
  few_bytes =
      let most : total body_size xs ≤ 9223372036854775808 * len xs = total-at-most body_size 9223372036854775808 (len xs) xs refl (λ q. let t = h.small q in omega arith) in
      let is = h.stored_is in
      omega arith

  module _ (k : ℕ) where
    pub has_body : share one (complete_body (get xs k)) ≤ b
    has_body = let out = total-remove nat_cmp_total body_count nat_cmp-IsAntisymmetric xs k in let e = shared one (get xs k) in let is = h.bodies_are in omega arith

    pub has_bytes : share body_len (complete_body (get xs k)) ≤ s
    has_bytes = let out = total-remove nat_cmp_total body_size nat_cmp-IsAntisymmetric xs k in let e = shared body_len (get xs k) in let is = h.stored_is in omega arith

    counted_insert : (v : Slot) (b' s' : ℕ) → b' + share one (complete_body (get xs k)) ≡ b + share one v.body → s' + share body_len (complete_body (get xs k)) ≡ s + share body_len v.body → share body_len v.body < 2 ^ 63 → IsCounted (insert xs k v) b' s'
    counted_insert v b' s' eb es lt = record {
      bodies_are = let out = total-insert nat_cmp_total body_count xs k v in let e = shared one (get xs k) in let is = h.bodies_are in omega arith;
      stored_is = let out = total-insert nat_cmp_total body_size xs k v in let e = shared body_len (get xs k) in let is = h.stored_is in omega arith;
      small = λ q. subst (λ o. share body_size o < 2 ^ 63) (sym (get-insert nat_cmp_total xs k v q)) (elim (eq_by_cmp nat_cmp q k) as (λ t. share body_size (cond t (Some v) (get xs q)) < 2 ^ 63) [ true ↦ lt | false ↦ h.small q ]);
    }

    counted_remove : (b' s' : ℕ) → b' + share one (complete_body (get xs k)) ≡ b → s' + share body_len (complete_body (get xs k)) ≡ s → IsCounted (remove xs k) b' s'
    counted_remove b' s' eb es = record {
      bodies_are = let out = total-remove nat_cmp_total body_count nat_cmp-IsAntisymmetric xs k in let e = shared one (get xs k) in let is = h.bodies_are in omega arith;
      stored_is = let out = total-remove nat_cmp_total body_size nat_cmp-IsAntisymmetric xs k in let e = shared body_len (get xs k) in let is = h.stored_is in omega arith;
      small = λ q. subst (λ o. share body_size o < 2 ^ 63) (sym (get-remove nat_cmp_total xs k q)) (elim (eq_by_cmp nat_cmp q k) as (λ t. share body_size (cond t None (get xs q)) < 2 ^ 63) [ true ↦ lit< tt | false ↦ h.small q ]);
    }

    small_body : share body_len (complete_body (get xs k)) < 2 ^ 63
    small_body = subst (λ n. n < 2 ^ 63) (shared body_len (get xs k)) (h.small k)

    pub counted_purged : (fewer less : ℕ) → fewer ≡ share one (complete_body (get xs k)) → less ≡ share body_len (complete_body (get xs k)) → IsCounted (remove xs k) (b - fewer) (s - less)
    counted_purged fewer less ef el = let p = has_body in let q = has_bytes in counted_remove (b - fewer) (s - less) (omega arith) (omega arith)

    pub counted_absent : None ≡ get xs k → IsCounted (remove xs k) b s
    counted_absent none =
        let z : share one (complete_body (get xs k)) ≡ 0 = ap (λ o. share one (complete_body o)) (sym none) in
        let y : share body_len (complete_body (get xs k)) ≡ 0 = ap (λ o. share body_len (complete_body o)) (sym none) in
        counted_remove b s (omega arith) (omega arith)

    pub counted_opened : (n : ℕ) → IsCounted (opened xs k n) b s
    counted_opened n =
        let e : (slot_or_new (get xs k)).body ≡ complete_body (get xs k) = new_body (get xs k) in
        counted_insert (opened_in (slot_or_new (get xs k)) n) b s (ap (λ o. b + share one o) (sym e)) (ap (λ o. s + share body_len o) (sym e)) (subst (λ o. share body_len o < 2 ^ 63) (sym e) small_body)

    with_slot_counted : (v : Slot) → v.body ≡ complete_body (get xs k) → IsCounted (with_slot xs k v) b s
    with_slot_counted v e =
        elim (is_idle v) as (λ t. is_idle v ≡ t → IsCounted (cond t (remove xs k) (insert xs k v)) b s) [
          | true ↦ λ idle.
              let z : share one (complete_body (get xs k)) ≡ 0 = ap (share one) (sym e) ∙ no_body one v.body _ idle in
              let y : share body_len (complete_body (get xs k)) ≡ 0 = ap (share body_len) (sym e) ∙ no_body body_len v.body _ idle in
              counted_remove b s (omega arith) (omega arith)
          | false ↦ λ busy. counted_insert v b s (ap (λ o. b + share one o) (sym e)) (ap (λ o. s + share body_len o) (sym e)) (subst (λ o. share body_len o < 2 ^ 63) (sym e) small_body)
        ] refl

    pub counted_shut : (n : ℕ) → IsCounted (shut_on xs k n (get xs k)) b s
    counted_shut n = elim (get xs k) as (λ o. get xs k ≡ o → IsCounted (shut_on xs k n o) b s) [ None ↦ λ e. h | Some x ↦ λ e. with_slot_counted (record x { untouched = remove x.untouched n }) (ap complete_body (sym e)) ] refl

    with_slot_moved : (v : Slot) (b' s' : ℕ) → b' + share one (complete_body (get xs k)) ≡ b + share one v.body → s' + share body_len (complete_body (get xs k)) ≡ s + share body_len v.body → share body_len v.body < 2 ^ 63 → IsCounted (with_slot xs k v) b' s'
    with_slot_moved v b' s' eb es lt =
        elim (is_idle v) as (λ t. is_idle v ≡ t → IsCounted (cond t (remove xs k) (insert xs k v)) b' s') [
          | true ↦ λ idle. let z = no_body one v.body _ idle in let y = no_body body_len v.body _ idle in counted_remove b' s' (omega arith) (omega arith)
          | false ↦ λ busy. counted_insert v b' s' eb es lt
        ] refl

    pub counted_lost : (n fewer less : ℕ) → fewer ≡ share one (body_with n (complete_body (get xs k))) → less ≡ share body_len (body_with n (complete_body (get xs k))) → IsCounted (write_gone_on xs k n (get xs k)) (b - fewer) (s - less)
    counted_lost n fewer less ef el =
        let p = has_body in
        let q = has_bytes in
        let small = small_body in
        elim (get xs k) as (λ o. get xs k ≡ o → IsCounted (write_gone_on xs k n o) (b - fewer) (s - less)) [
          | None ↦ λ e.
              let f : fewer ≡ 0 = ef ∙ ap (λ o. share one (body_with n (complete_body o))) e in
              let l : less ≡ 0 = el ∙ ap (λ o. share body_len (body_with n (complete_body o))) e in
              let bs : b ≡ b - fewer = omega arith in
              let ss : s ≡ s - less = omega arith in
              subst (λ t. IsCounted xs (b - fewer) t) ss (subst (λ t. IsCounted xs t s) bs h)
          | Some x ↦ λ e.
              let at : complete_body (get xs k) ≡ x.body = ap complete_body e in
              let f : fewer ≡ share one (body_with n x.body) = ef ∙ ap (λ o. share one (body_with n o)) at in
              let l : less ≡ share body_len (body_with n x.body) = el ∙ ap (λ o. share body_len (body_with n o)) at in
              let ones : share one (complete_body (get xs k)) ≡ share one x.body = ap (share one) at in
              let lens : share body_len (complete_body (get xs k)) ≡ share body_len x.body = ap (share body_len) at in
              let parts_one = parted one n x.body in
              let parts_len = parted body_len n x.body in
              with_slot_moved (slot_without n x) (b - fewer) (s - less) (omega arith) (omega arith) (omega arith)
        ] refl

    pub less_bodies : (n : ℕ) → share one (body_with n (complete_body (get xs k))) ≤ b
    less_bodies n = let p = has_body in let parts = parted one n (complete_body (get xs k)) in omega arith

    pub less_bytes : (n : ℕ) → share body_len (body_with n (complete_body (get xs k))) ≤ s
    less_bytes n = let p = has_bytes in let parts = parted body_len n (complete_body (get xs k)) in omega arith

    pub counted_changed : (f : Meta → Meta) → IsCounted (meta_changed_on f xs k (get xs k)) b s
    counted_changed f = elim (get xs k) as (λ o. get xs k ≡ o → IsCounted (meta_changed_on f xs k o) b s) [ None ↦ λ e. h | Some x ↦ λ e. inside x (x.body) (ap complete_body (sym e)) ] refl
      where
        inside : (x : Slot) (o : Option Stored) → o ≡ complete_body (get xs k) → IsCounted (meta_changed_in f xs k x o) b s
        inside x None e = h
        inside x (Some c) e = counted_insert (with_meta f x (Some c)) b s (ap (λ o. b + share one o) (sym e)) (ap (λ o. s + share body_len o) (sym e)) (subst (λ o. share body_len o < 2 ^ 63) (sym e) small_body)

    pub counted_stored : (n : ℕ) (c : Stored) (fewer less size : ℕ) → IsSome (get xs k) → fewer ≡ share one (complete_body (get xs k)) → less ≡ share body_len (complete_body (get xs k)) → size ≡ length c.bytes → size < 2 ^ 63 → IsCounted (stored_on xs k n c (get xs k)) (b - fewer + 1) (s - less + size)
    counted_stored n c fewer less size there ef el es lt =
        let p = has_body in
        let q = has_bytes in
        elim (get xs k) as (λ o. IsSome o → IsCounted (stored_on xs k n c o) (b - fewer + 1) (s - less + size)) [
          | None ↦ λ t. cc
          | Some x ↦ λ t. counted_insert (record { body = Some c; untouched = remove x.untouched n }) (b - fewer + 1) (s - less + size) (omega arith) (omega arith) (subst (λ m. m < 2 ^ 63) es lt)
        ] there
