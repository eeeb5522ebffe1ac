-- Maps from numbers with one entry set besides: what is taken out, what is least, and that there is one.
use Rattle.std.specs.Option.{is_some}
use Rattle.std.specs.declared.cmp.Ordering.TheVariants.{Less, Equal, Greater}
use Rattle.std.specs.Cmp.{ranked, unsigned_tied}
use Rattle.pcache_table.proofs.Least.{least_first}
use Rattle.pcache_table.proofs.Sharded.{get-insert-off}
use Rattle.pcache_store.specs.Untouched.{lesser, is_one}
use Rattle.pcache_store.proofs.Words.{◌||◌, ◌≡◌, ◌<◌, ◌==◌, ℕ, zero, suc, Bool, true, false, Option, None, Some, cond, refl, ap, sym, subst, ◌∙◌, arith, nat_lt, nat_cmp, eq_by_cmp, nat_cmp_total, FinMap, contains_key, get, insert, remove, len, get-empty, get-insert, get-remove, same_map, empty_of_len, exact_unsigned, tells_apart, nat_tests, least, least_there, least_none, by_test, off_not, get-insert-at, with_one}
use Rattle.pcache_store.proofs.Maps.{insert_same, remove-insert}

module _ {X : Type 0} where
  -- a key with a value and none below it is the least
  least_is : (m : FinMap nat_cmp X) (n : ℕ) → is_some (get m n) ≡ true → ((q : ℕ) → q < n → get m q ≡ None) → least m ≡ Some n
  least_is m n there first =
      elim (least m) as (λ o. least m ≡ o → o ≡ Some n) [
        | None ↦ λ e. let none = least_none m n e in cc
        | Some x ↦ λ e.
            let is : x ≡ n = elim (nat_cmp x n) as (λ r. r ≡ nat_cmp x n → x ≡ n) [
              | Less ↦ λ by. let none = first x (ranked x n Less by) in let some = least_there m x e in cc
              | Equal ↦ λ by. ranked x n Equal by
              | Greater ↦ λ by. let none = least_first m x n e (ranked x n Greater by) in cc
            ] refl in
            ap Some is
      ] refl

  module _ (m : FinMap nat_cmp X) (n : ℕ) (v : X) where
    lower_off : (q : ℕ) → q < n → eq_by_cmp nat_cmp q n ≡ false
    lower_off q lt = by_test q n (eq_by_cmp nat_cmp q n) refl (λ same. absurd (omega arith)) (λ off. off)

    lower : (q : ℕ) → q < n → get (insert m n v) q ≡ get m q
    lower q lt = get-insert-off m n v q (lower_off q lt)

    -- the least of a map with one more number
    pub least_with : least (insert m n v) ≡ Some (lesser n (least m))
    least_with =
        elim (least m) as (λ o. least m ≡ o → least (insert m n v) ≡ Some (lesser n o)) [
          | None ↦ λ e. least_is (insert m n v) n (ap is_some (get-insert-at m n v)) (λ q lt. lower q lt ∙ least_none m q e)
          | Some x ↦ λ e.
              elim (nat_lt x n) as (λ b. nat_lt x n ≡ b → least (insert m n v) ≡ Some (cond b x n)) [
                | true ↦ λ is.
                    let lt : x < n = grind (arith, nat_tests, is) in
                    least_is (insert m n v) x (ap is_some (lower x lt) ∙ least_there m x e) (λ q below. lower q (omega (arith, lt, below)) ∙ least_first m x q e below)
                | false ↦ λ is. least_is (insert m n v) n (ap is_some (get-insert-at m n v)) (λ q lt. lower q lt ∙ least_first m x q e (grind (arith, nat_tests, is, lt)))
              ] refl
        ] refl

    -- there is one
    pub some_with : (len (insert m n v) == 0) ≡ false
    some_with =
        elim (len (insert m n v)) as (λ l. len (insert m n v) ≡ l → (l == 0) ≡ false) [
          | zero ↦ λ e.
              let none : get (insert m n v) n ≡ None = ap (λ x. get x n) (empty_of_len (insert m n v) e) ∙ get-empty nat_cmp n in
              let some = get-insert-at m n v in
              cc
          | suc k ↦ λ e. grind (arith, nat_tests)
        ] refl

    -- another number taken out
    pub remove_other : (k : ℕ) → eq_by_cmp nat_cmp n k ≡ false → insert (remove m k) n v ≡ remove (insert m n v) k
    remove_other k off = same_map nat_cmp_total exact_unsigned _ _ (λ q.
        get-insert nat_cmp_total (remove m k) n v q ∙ ap (cond (eq_by_cmp nat_cmp q n) (Some v)) (get-remove nat_cmp_total m k q)
        ∙ turned q (eq_by_cmp nat_cmp q n) (eq_by_cmp nat_cmp q k) refl refl
        ∙ sym (get-remove nat_cmp_total (insert m n v) k q ∙ ap (cond (eq_by_cmp nat_cmp q k) None) (get-insert nat_cmp_total m n v q)))
      where
        turned : (q : ℕ) (a b : Bool) → eq_by_cmp nat_cmp q n ≡ a → eq_by_cmp nat_cmp q k ≡ b → cond a (Some v) (cond b None (get m q)) ≡ cond b None (cond a (Some v) (get m q))
        turned q true true at to =
            let same : n ≡ k = sym (tells_apart exact_unsigned q n at) ∙ tells_apart exact_unsigned q k to in
            absurd (off_not n k off same)
        turned q true false at to = refl
        turned q false b at to = refl

-- a key's numbers, of which one is kept apart
module _ (m : FinMap nat_cmp (Unit {0})) (k : ℕ) where
  tested : (n : ℕ) → (n == k) ≡ eq_by_cmp nat_cmp n k
  tested n = grind (arith, nat_tests, unsigned_tied n k)

  pub contained : (o : Option ℕ) → contains_key (with_one o m) k ≡ (is_one o k || contains_key m k)
  contained None = refl
  contained (Some n) = by_test k n (eq_by_cmp nat_cmp k n) refl
      (λ same.
      let one : (n == k) ≡ true = grind (arith, nat_tests, same) in
      ap is_some (subst (λ x. get (insert m n tt) x ≡ Some tt) (sym same) (get-insert-at m n tt)) ∙ ap (λ b. b || contains_key m k) (sym one))
      (λ off.
      let other : (n == k) ≡ false = grind (arith, nat_tests, off_not k n off) in
      ap is_some (get-insert-off m n tt k off) ∙ ap (λ b. b || contains_key m k) (sym other))

  pub taken : (o : Option ℕ) → is_one o k ≡ true → remove m k ≡ remove (with_one o m) k
  taken None e = cc
  taken (Some n) e = let same : n ≡ k = grind (arith, nat_tests, e) in subst (λ x. remove m k ≡ remove (insert m x tt) k) (sym same) (sym (remove-insert m k tt))

  pub left_in : (o : Option ℕ) → is_one o k ≡ false → with_one o (remove m k) ≡ remove (with_one o m) k
  left_in None e = refl
  left_in (Some n) e = remove_other m n tt k (sym (tested n) ∙ e)

-- one more number, beside the one that is kept apart
module _ (m : FinMap nat_cmp (Unit {0})) (n k : ℕ) where
  swapped : (q : ℕ) (a b : Bool) → cond a (Some tt) (cond b (Some tt) (get m q)) ≡ cond b (Some tt) (cond a (Some tt) (get m q))
  swapped q true true = refl
  swapped q true false = refl
  swapped q false b = refl

  pub insert_other : insert (insert m k tt) n tt ≡ insert (insert m n tt) k tt
  insert_other = same_map nat_cmp_total exact_unsigned _ _ (λ q.
      get-insert nat_cmp_total (insert m k tt) n tt q ∙ ap (cond (eq_by_cmp nat_cmp q n) (Some tt)) (get-insert nat_cmp_total m k tt q)
      ∙ swapped q (eq_by_cmp nat_cmp q n) (eq_by_cmp nat_cmp q k)
      ∙ sym (get-insert nat_cmp_total (insert m n tt) k tt q ∙ ap (cond (eq_by_cmp nat_cmp q k) (Some tt)) (get-insert nat_cmp_total m n tt q)))

-- the same number again
pub insert_again : (m : FinMap nat_cmp (Unit {0})) (n : ℕ) → insert m n tt ≡ insert (insert m n tt) n tt
insert_again m n = sym (insert_same (insert m n tt) n tt (sym (get-insert-at m n tt)))
