-- Tests of numbers, and sums over keys that add nothing.
use Rattle.std.proofs.Common.{zero, suc, ◌-◌}
use Rattle.std.specs.Cmp.{nat_cmp_total}
use Rattle.std.specs.FinMap.{FinMap, get, remove, entries, len, find, get-remove, get-entries, len-remove, len-entries, empty_of_len, nat_cmp-IsAntisymmetric}
use Rattle.pcache_base.proofs.Totals.{total-remove, total-empty}
use Rattle.pcache_history.proofs.Words.{◌≡◌, ℕ, ◌+◌, ◌==◌, true, false, cond, None, Some, is_some, List, [], ◌∷◌, length, refl, ap, sym, subst, ◌∙◌, arith, nat_cmp, eq_by_cmp, is_eq, tied_itself, nat_tests, total, share}

-- the two tests of numbers agree
pub cmp_same : (q w : ℕ) → eq_by_cmp nat_cmp q w ≡ (w == q)
cmp_same q w = grind (arith, nat_tests)

pub same-number : (w : ℕ) → (w == w) ≡ true
same-number w = grind (arith, nat_tests)

module _ {X : Type 0} (f : X → ℕ) where
  head_here : (m : FinMap nat_cmp X) (e : ℕ × X) (es : List (ℕ × X)) → entries m ≡ e ∷ es → get m e.0 ≡ Some e.1
  head_here m e es is = get-entries m e.0 ∙ ap (find nat_cmp e.0) is ∙ ap (λ r. cond (is_eq r) (Some e.1) (find nat_cmp e.0 es)) (tied_itself nat_cmp_total e.0)

  -- a key that adds nothing adds nothing once another was removed
  pub zero-remove : (m : FinMap nat_cmp X) (k q : ℕ) → share f (get m q) ≡ 0 → share f (get (remove m k) q) ≡ 0
  zero-remove m k q h = subst (λ o. share f o ≡ 0) (sym (get-remove nat_cmp_total m k q)) (elim (eq_by_cmp nat_cmp q k) as (λ b. share f (cond b None (get m q)) ≡ 0) [ true ↦ refl | false ↦ h ])

  -- if no key adds anything, the sum is nothing
  pub total-zero : (n : ℕ) (m : FinMap nat_cmp X) → len m ≡ n → ((q : ℕ) → share f (get m q) ≡ 0) → total f m ≡ 0
  total-zero zero m e h = subst (λ x. total f x ≡ 0) (sym (empty_of_len m e)) (total-empty nat_cmp_total f)
  total-zero (suc n) m e h =
      elim (entries m) as (λ es. entries m ≡ es → total f m ≡ 0) [
        | [] ↦ λ is. let none : len m ≡ 0 = len-entries m ∙ ap length is in absurd (omega arith)
        | x ∷ es ↦ λ is.
            let here : get m x.0 ≡ Some x.1 = head_here m x es is in
            let split : total f (remove m x.0) + share f (get m x.0) ≡ total f m = total-remove nat_cmp_total f nat_cmp-IsAntisymmetric m x.0 in
            let shorter : len (remove m x.0) ≡ len m - 1 = len-remove nat_cmp_total m x.0 ∙ ap (λ o. cond (is_some o) (len m - 1) (len m)) here in
            let rest : total f (remove m x.0) ≡ 0 = total-zero n (remove m x.0) (omega arith) (λ q. zero-remove m x.0 q (h q)) in
            let first = h x.0 in
            omega arith
      ] refl
