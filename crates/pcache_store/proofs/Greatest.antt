-- The greatest key of a map is in the map, and no key is above it.
use Rattle.std.proofs.Common.{T, is_some, unwrap_or}
use Rattle.std.specs.declared.cmp.Ordering.{Ordering}
use Rattle.std.specs.declared.cmp.Ordering.TheVariants.{Less, Equal, Greater}
use Rattle.std.specs.Ordering.{is_lt}
use Rattle.std.specs.Cmp.{nat_cmp_is, ranked}
use Rattle.std.specs.FinMap.{entries, entries_sorted, find, from_entries, is_sorted}
use Rattle.std.specs.FinMap.Entries.{below_all}
use Rattle.std.specs.BTreeMap.{is_at}
use Rattle.std.specs.Map.{lookup}
use Rattle.pcache_table.proofs.Sharded.{get-insert-off}
use Rattle.pcache_table.proofs.TableMaps.{got}
use Rattle.pcache_store.specs.Greatest.{last_key, greatest}
use Rattle.pcache_store.specs.Untouched.{greater}
use Rattle.pcache_store.proofs.Words.{◌≡◌, ◌<◌, ◌&&◌, ℕ, Bool, true, false, List, [], ◌∷◌, Option, None, Some, IsSome, cond, length, refl, ap, sym, subst, ◌∙◌, arith, nat_lt, nat_cmp, nat_cmp_total, eq_by_cmp, is_eq, FinMap, get, insert, get-entries, get-insert-at, by_test, tied_itself, nat_tests}

less : (o : Ordering) → T (is_lt o) → o ≡ Less
less Less p = refl
less Equal p = absurd p
less Greater p = absurd p

first : (a b : Bool) → T (a && b) → T a
first true b p = tt
first false b p = p

second : (a b : Bool) → T (a && b) → T b
second true b p = p
second false b p = absurd p

module _ {X : Type 0} where
  passed : (q : ℕ) (e : ℕ × X) (es : List (ℕ × X)) → e.0 < q → find nat_cmp q (e ∷ es) ≡ find nat_cmp q es
  passed q e es lt = ap (λ r. cond (is_eq r) (Some e.1) (find nat_cmp q es)) (sym (nat_cmp_is q e.0 Greater lt))

  here : (e : ℕ × X) (es : List (ℕ × X)) → is_some (find nat_cmp e.0 (e ∷ es)) ≡ true
  here e es = ap (λ r. is_some (cond (is_eq r) (Some e.1) (find nat_cmp e.0 es))) (tied_itself nat_cmp_total e.0)

  there : (q : ℕ) (e : ℕ × X) (es : List (ℕ × X)) → is_some (find nat_cmp q es) ≡ true → is_some (find nat_cmp q (e ∷ es)) ≡ true
  there q e es h = elim (is_eq (nat_cmp q e.0)) as (λ b. is_some (cond b (Some e.1) (find nat_cmp q es)) ≡ true) [ true ↦ refl | false ↦ h ]

  no-last : (es : List (ℕ × X)) → last_key es ≡ None → es ≡ []
  no-last [] h = refl
  no-last (e ∷ es) h = cc

  last-there : (es : List (ℕ × X)) (n : ℕ) → last_key es ≡ Some n → is_some (find nat_cmp n es) ≡ true
  last-there [] n h = cc
  last-there (e ∷ es) n h = inner (last-there es n) (last_key es) refl h
    where
      inner : (last_key es ≡ Some n → is_some (find nat_cmp n es) ≡ true) → (o : Option ℕ) → last_key es ≡ o → Some (unwrap_or o e.0) ≡ Some n → is_some (find nat_cmp n (e ∷ es)) ≡ true
      inner on None g h = let same : e.0 ≡ n = cc in subst (λ k. is_some (find nat_cmp k (e ∷ es)) ≡ true) same (here e es)
      inner on (Some x) g h = let same : x ≡ n = cc in there n e es (on (g ∙ ap Some same))

  -- what is below all keys is below the last one
  below-last : (y x : ℕ) (es : List (ℕ × X)) → T (below_all nat_cmp y es) → last_key es ≡ Some x → y < x
  below-last y x [] s h = cc
  below-last y x (e ∷ es) s h = inner (below-last y x es (second _ _ s)) (last_key es) refl h
    where
      inner : (last_key es ≡ Some x → y < x) → (o : Option ℕ) → last_key es ≡ o → Some (unwrap_or o e.0) ≡ Some x → y < x
      inner on None g h = let same : e.0 ≡ x = cc in subst (λ k. y < k) same (ranked y e.0 Less (sym (less _ (first _ _ s))))
      inner on (Some z) g h = let same : z ≡ x = cc in on (g ∙ ap Some same)

  above-none : (es : List (ℕ × X)) (n q : ℕ) → T (is_sorted nat_cmp es) → last_key es ≡ Some n → n < q → find nat_cmp q es ≡ None
  above-none [] n q s h lt = refl
  above-none (e ∷ es) n q s h lt = inner (λ last. above-none es n q (second _ _ s) last lt) (last_key es) refl h
    where
      inner : (last_key es ≡ Some n → find nat_cmp q es ≡ None) → (o : Option ℕ) → last_key es ≡ o → Some (unwrap_or o e.0) ≡ Some n → find nat_cmp q (e ∷ es) ≡ None
      inner on None g h =
          let same : n ≡ e.0 = cc in
          passed q e es (subst (λ k. k < q) same lt) ∙ ap (find nat_cmp q) (no-last es g)
      inner on (Some x) g h =
          let same : x ≡ n = cc in
          let up : e.0 < n = below-last e.0 n es (first _ _ s) (g ∙ ap Some same) in
          passed q e es (omega (arith, up, lt)) ∙ on (g ∙ ap Some same)

  module _ (m : FinMap nat_cmp X) where
    pub greatest_there : (n : ℕ) → greatest m ≡ Some n → IsSome (get m n)
    greatest_there n h = ap is_some (get-entries m n) ∙ last-there (entries m) n h

    pub greatest_last : (n q : ℕ) → greatest m ≡ Some n → n < q → get m q ≡ None
    greatest_last n q h lt = get-entries m q ∙ above-none (entries m) n q (entries_sorted m) h lt

    pub greatest_none : (q : ℕ) → greatest m ≡ None → get m q ≡ None
    greatest_none q h = get-entries m q ∙ ap (find nat_cmp q) (no-last (entries m) h)

  -- a key with a value and none above it is the greatest
  pub greatest_is : (m : FinMap nat_cmp X) (n : ℕ) → is_some (get m n) ≡ true → ((q : ℕ) → n < q → get m q ≡ None) → greatest m ≡ Some n
  greatest_is m n some last =
      elim (greatest m) as (λ o. greatest m ≡ o → o ≡ Some n) [
        | None ↦ λ e. let none = greatest_none m n e in cc
        | Some x ↦ λ e.
            let is : x ≡ n = elim (nat_cmp x n) as (λ r. r ≡ nat_cmp x n → x ≡ n) [
              | Less ↦ λ by. let none = greatest_last m x n e (ranked x n Less by) in cc
              | Equal ↦ λ by. ranked x n Equal by
              | Greater ↦ λ by. let none = last x (ranked x n Greater by) in let there = greatest_there m x e in cc
            ] refl in
            ap Some is
      ] refl

  module _ (m : FinMap nat_cmp X) (n : ℕ) (v : X) where
    upper : (q : ℕ) → n < q → get (insert m n v) q ≡ get m q
    upper q lt = get-insert-off m n v q (by_test q n (eq_by_cmp nat_cmp q n) refl (λ same. absurd (omega (arith, same, lt))) (λ off. off))

    -- the greatest of a map with one more number
    pub greatest_with : greatest (insert m n v) ≡ Some (greater n (greatest m))
    greatest_with =
        elim (greatest m) as (λ o. greatest m ≡ o → greatest (insert m n v) ≡ Some (greater n o)) [
          | None ↦ λ e. greatest_is (insert m n v) n (ap is_some (get-insert-at m n v)) (λ q lt. upper q lt ∙ greatest_none m q e)
          | Some x ↦ λ e.
              elim (nat_lt n x) as (λ b. nat_lt n x ≡ b → greatest (insert m n v) ≡ Some (cond b x n)) [
                | true ↦ λ is.
                    let lt : n < x = grind (arith, nat_tests, is) in
                    greatest_is (insert m n v) x (ap is_some (upper x lt) ∙ greatest_there m x e) (λ q above. upper q (omega (arith, lt, above)) ∙ greatest_last m x q e above)
                | false ↦ λ is. greatest_is (insert m n v) n (ap is_some (get-insert-at m n v)) (λ q lt. upper q lt ∙ greatest_last m x q e (grind (arith, nat_tests, is, lt)))
              ] refl
        ] refl

  -- the same of a tree, by what it says of its last key
  pub greatest_upper : (es : List (ℕ × X)) (n : ℕ) (v : X) → lookup (is_at (nat_cmp n)) es ≡ Some v → ((q : ℕ) → is_some (lookup (is_at (nat_cmp q)) es) ≡ true → is_lt (nat_cmp n q) ≡ false) → Some n ≡ greatest (from_entries {R = nat_cmp} es)
  greatest_upper es n v is upper_bound = sym (greatest_is (from_entries {R = nat_cmp} es) n (ap is_some (got es n ∙ is)) (λ q lt. got es q ∙ inner q lt (lookup (is_at (nat_cmp q)) es) refl))
    where
      inner : (q : ℕ) → n < q → (o : Option X) → lookup (is_at (nat_cmp q)) es ≡ o → o ≡ None
      inner q lt None e = refl
      inner q lt (Some x) e =
          let a = upper_bound q (ap is_some e) in
          let b : is_lt (nat_cmp n q) ≡ true = ap is_lt (sym (nat_cmp_is n q Less lt)) in
          absurd (cc)

  pub greatest_empty : (es : List (ℕ × X)) → (0 < length es → false ≡ true) → None ≡ greatest (from_entries {R = nat_cmp} es)
  greatest_empty (e ∷ es) h = absurd (let a = h (omega arith) in cc)
  greatest_empty [] h = inner [] refl (greatest (from_entries {R = nat_cmp} [])) refl
    where
      inner : (es : List (ℕ × X)) → es ≡ [] → (o : Option ℕ) → greatest (from_entries {R = nat_cmp} es) ≡ o → None ≡ o
      inner es e None is = refl
      inner es e (Some x) is =
          let there = greatest_there (from_entries {R = nat_cmp} es) x is in
          let none : get (from_entries {R = nat_cmp} es) x ≡ None = got es x ∙ ap (lookup (is_at (nat_cmp x))) e in
          absurd (cc)
