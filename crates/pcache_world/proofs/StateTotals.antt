-- What is stored by the events is what stands in the store.
use Rattle.std.specs.Option.{option_map}
use Rattle.std.specs.Bool.{IsTrue}
use Rattle.std.specs.List.{AllByRecursion, IsDistinct, sum_by}
use Rattle.std.specs.Cmp.{eq_by_cmp_equiv}
use Rattle.std.proofs.lemmas.Bool.{or_left}
use Rattle.std.proofs.lemmas.List.Sums.{sum_by-cons}
use Rattle.std.proofs.lemmas.Map.Keys.{IsDistinct-head, IsDistinct-tail}
use Rattle.pcache_base.proofs.Totals.{get-remove_apart}
use Rattle.pcache_store.specs.Store.{Stored}
use Rattle.pcache_history.specs.declared.entry.Event.TheVariants.{LetGo, Aged, Read}
use Rattle.pcache_history.specs.Events.{body_stored, with_key, finished_keys, stored_size}
use Rattle.pcache_history.proofs.Bound.{keys_distinct}
use Rattle.pcache_history.proofs.Sums.{zero-remove}
use Rattle.pcache_world.proofs.Words.{◌≡◌, ℕ, ◌==◌, ◌||◌, true, false, cond, if◌then◌else◌, Option, None, Some, List, [], ◌∷◌, refl, ap, sym, subst, ◌∙◌, arith, inl, inr, ◌⊎◌, option_and_then, list_any, nat_cmp, eq_by_cmp, nat_cmp_total, FinMap, get, remove, len, get-remove, nat_cmp-IsAntisymmetric, eqb-true, or_right, Meta, total, share, total-remove, Store, Slot, complete_body, Event, Look, Ask, Access, Begin, Wrote, Finish, Dropped, Release, Admit, Purge, Expire, Renew, Untrack, begin_of, option_any, is_removed, last_finished, complete, stored, slots, IsState, cmp_same, total-zero}
use Rattle.pcache_store.specs.Totals as totals

-- ---- a sum over keys, if the map's other keys add nothing

module _ {X : Type 0} (f : X → ℕ) where
  sum-apart : (g h : ℕ → ℕ) (k : ℕ) (ks : List ℕ) → AllByRecursion (λ y. eq_by_cmp nat_cmp k y ≡ false) ks → ((q : ℕ) → eq_by_cmp nat_cmp k q ≡ false → g q ≡ h q) → sum_by g ks ≡ sum_by h ks
  sum-apart g h k [] a same_at = refl
  sum-apart g h k (q ∷ ks) a same_at = sum_by-cons g q ks ∙ (let e = same_at q a.0 in let r = sum-apart g h k ks a.1 same_at in let c = sum_by-cons h q ks in omega arith)

  total-over-most : (ks : List ℕ) (m : FinMap nat_cmp X) → IsDistinct (eq_by_cmp nat_cmp) ks → ((q : ℕ) → share f (get m q) ≡ 0 ⊎ IsTrue (list_any (eq_by_cmp nat_cmp q) ks)) → sum_by (λ k. share f (get m k)) ks ≡ total f m
  total-over-most [] m d all = sym (total-zero f (len m) m refl (λ q. elim (all q) [ inl e ↦ e | inr t ↦ cc ]))
  total-over-most (k ∷ ks) m d all =
      let apart = IsDistinct-head (eq_by_cmp nat_cmp) k ks d in
      let rest = total-over-most ks (remove m k) (IsDistinct-tail (eq_by_cmp nat_cmp) k ks d) (λ q. covered q) in
      let cut = sum-apart (λ q. share f (get m q)) (λ q. share f (get (remove m k) q)) k ks apart (λ q t. ap (share f) (sym (get-remove_apart nat_cmp_total f nat_cmp-IsAntisymmetric m k q ((eq_by_cmp_equiv nat_cmp_total).symm q k ∙ t)))) in
      let split = sum_by-cons (λ q. share f (get m q)) k ks in
      let out = total-remove nat_cmp_total f nat_cmp-IsAntisymmetric m k in
      omega arith
    where
      covered : (q : ℕ) → share f (get (remove m k) q) ≡ 0 ⊎ IsTrue (list_any (eq_by_cmp nat_cmp q) ks)
      covered q =
          elim (eq_by_cmp nat_cmp q k) as (λ b. eq_by_cmp nat_cmp q k ≡ b → IsTrue (b || list_any (eq_by_cmp nat_cmp q) ks) ⊎ share f (get m q) ≡ 0 → share f (get (remove m k) q) ≡ 0 ⊎ IsTrue (list_any (eq_by_cmp nat_cmp q) ks)) [
            | true ↦ λ t _. inl (ap (share f) (get-remove nat_cmp_total m k q ∙ ap (λ b. cond b None (get m q)) t))
            | false ↦ λ t h. elim h [ inl any ↦ inr any | inr none ↦ inl (zero-remove f m k q none) ]
          ] refl (elim (all q) [ inl e ↦ inr e | inr t ↦ inl t ])

-- ---- the keys of finished writes

-- the two tests of numbers agree on a list
any_same : (q : ℕ) (ks : List ℕ) → list_any (eq_by_cmp nat_cmp q) ks ≡ list_any (λ k. k == q) ks
any_same q [] = refl
any_same q (k ∷ ks) = λ i. cmp_same q k i || any_same q ks i

-- each key with a last finished write is among them
with_more : (o : Option ℕ) (ks : List ℕ) (k : ℕ) → list_any (λ q. q == k) ks ≡ true → list_any (λ q. q == k) (with_key o ks) ≡ true
with_more None ks k h = h
with_more (Some x) ks k h = elim (list_any (λ q. q == x) ks) as (λ b. list_any (λ q. q == k) (if b then ks else x ∷ ks) ≡ true) [ true ↦ h | false ↦ or_right _ _ h ]

with_it : (x : ℕ) (ks : List ℕ) (k : ℕ) → (x == k) ≡ true → list_any (λ q. q == k) (with_key (Some x) ks) ≡ true
with_it x ks k t =
    elim (list_any (λ q. q == x) ks) as (λ b. list_any (λ q. q == x) ks ≡ b → list_any (λ q. q == k) (if b then ks else x ∷ ks) ≡ true) [
      | true ↦ λ here. subst (λ y. list_any (λ q. q == y) ks ≡ true) (eqb-true x k t) here
      | false ↦ λ _. or_left _ _ t
    ] refl

pub covered : (k : ℕ) (es : List Event) (w : ℕ) → last_finished k es ≡ Some w → list_any (λ q. q == k) (finished_keys es) ≡ true
covered k [] w h = absurd (cc)
covered k (Finish x true ∷ es) w h =
    elim (begin_of x es) as (λ o. (if option_any (λ (b : ℕ × Meta). b.0 == k) o then Some x else last_finished k es) ≡ Some w → list_any (λ q. q == k) (with_key (option_map (λ (b : ℕ × Meta). b.0) o) (finished_keys es)) ≡ true) [
      | None ↦ λ h'. covered k es w h'
      | Some b ↦ λ h'. elim (b.0 == k) as (λ t. (b.0 == k) ≡ t → (if t then Some x else last_finished k es) ≡ Some w → list_any (λ q. q == k) (with_key (Some b.0) (finished_keys es)) ≡ true) [
        | true ↦ λ t _. with_it b.0 (finished_keys es) k t
        | false ↦ λ _ old. with_more (Some b.0) (finished_keys es) k (covered k es w old)
      ] refl h'
    ] h
covered k (Finish x false ∷ es) w h = covered k es w h
covered k (Begin x j m ∷ es) w h = covered k es w h
covered k (Look j a ∷ es) w h = covered k es w h
covered k (Ask j lock is_permit ∷ es) w h = covered k es w h
covered k (Access e n ∷ es) w h = covered k es w h
covered k (Wrote x bs eof ∷ es) w h = covered k es w h
covered k (Dropped x ∷ es) w h = covered k es w h
covered k (Release lock ∷ es) w h = covered k es w h
covered k (LetGo lock ∷ es) w h = covered k es w h
covered k (Aged lock ∷ es) w h = covered k es w h
covered k (Admit e n out ∷ es) w h = covered k es w h
covered k (Purge j ∷ es) w h = covered k es w h
covered k (Expire j t ∷ es) w h = covered k es w h
covered k (Renew j m ∷ es) w h = covered k es w h
covered k (Untrack e ∷ es) w h = covered k es w h
covered k (Read a ∷ es) w h = covered k es w h

-- ---- the sums

shared : (g : Stored → ℕ) (o : Option Slot) → share (λ (x : Slot). share g x.body) o ≡ share g (complete_body o)
shared g None = refl
shared g (Some x) = refl

-- a sum over the store's bodies is one over the standing keys
pub over_standing : (g : Stored → ℕ) (es : List Event) (n : ℕ → ℕ) (s : Store) → IsState es n s → sum_by (λ k. share g (complete k es)) (finished_keys es) ≡ total (λ (x : Slot). share g x.body) s.slots
over_standing g es n s st =
    ap (λ h. sum_by h (finished_keys es)) (λ i k. sym (held k) i)
    ∙ total-over-most (λ (x : Slot). share g x.body) (finished_keys es) s.slots (keys_distinct es) found
  where
    held : (k : ℕ) → share (λ (x : Slot). share g x.body) (get s.slots k) ≡ share g (complete k es)
    held k = shared g (get s.slots k) ∙ ap (share g) (st.bodies k)

    found : (q : ℕ) → share (λ (x : Slot). share g x.body) (get s.slots q) ≡ 0 ⊎ IsTrue (list_any (eq_by_cmp nat_cmp q) (finished_keys es))
    found q =
        elim (last_finished q es) as (λ o. last_finished q es ≡ o → share (λ (x : Slot). share g x.body) (get s.slots q) ≡ 0 ⊎ IsTrue (list_any (eq_by_cmp nat_cmp q) (finished_keys es))) [
          | None ↦ λ none. inl (held q ∙ ap (λ o. share g (option_and_then (λ w. if is_removed w es then None else body_stored w es) o)) none)
          | Some w ↦ λ is. inr (any_same q (finished_keys es) ∙ covered q es w is)
        ] refl

pub stored-is : (es : List Event) (n : ℕ → ℕ) (s : Store) → IsState es n s → stored es ≡ totals.stored_bytes s
stored-is es n s st = over_standing stored_size es n s st

pub slots-is : (es : List Event) (n : ℕ → ℕ) (s : Store) → IsState es n s → slots es ≡ totals.slots s
slots-is es n s st = over_standing (λ _. 1) es n s st
