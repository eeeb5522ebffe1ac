-- The least key of a map is in the map, and no key is below it.
use Rattle.std.proofs.Common.{unwrap_or}
use Rattle.std.specs.Option.{IfSome, IfNone}
use Rattle.std.specs.declared.cmp.Ordering.{Ordering}
use Rattle.std.specs.declared.cmp.Ordering.TheVariants.{Greater}
use Rattle.std.specs.Ordering.{is_eq}
use Rattle.std.specs.Cmp.{nat_cmp_is, ranked, tied_itself}
use Rattle.std.specs.FinMap.{entries_sorted, is_sorted}
use Rattle.pcache_table.proofs.Words.{◌≡◌, ℕ, ◌<◌, List, [], ◌∷◌, Bool, true, false, ◌&&◌, T, cond, Option, None, Some, refl, ap, sym, subst, ◌∙◌, arith, IsSome, is_some, Less, Equal, nat_cmp, is_lt, nat_cmp_total, FinMap, get, entries, get-entries, find, below_all, first_key, least}

less : (o : Ordering) → T (is_lt o) → o ≡ Less
less Less p = refl
less Equal p = absurd p
less Greater p = absurd p

first : (a b : Bool) → T (a && b) → T a
first true b p = tt
first false b p = p

second : (a b : Bool) → T (a && b) → T b
second true b p = p
second false b p = absurd p

module _ {X : Type 0} where
  passed : (q : ℕ) (e : ℕ × X) (es : List (ℕ × X)) → q < e.0 → find nat_cmp q (e ∷ es) ≡ find nat_cmp q es
  passed q e es lt = ap (λ r. cond (is_eq r) (Some e.1) (find nat_cmp q es)) (sym (nat_cmp_is q e.0 Less lt))

  below : (q x : ℕ) (es : List (ℕ × X)) → q < x → T (below_all nat_cmp x es) → find nat_cmp q es ≡ None
  below q x [] lt h = refl
  below q x (e ∷ es) lt h =
      let up : x < e.0 = ranked x e.0 Less (sym (less _ (first _ _ h))) in
      passed q e es (omega arith) ∙ below q x es lt (second _ _ h)

  module _ (m : FinMap nat_cmp X) where
    pub least_there : (n : ℕ) → least m ≡ Some n → IsSome (get m n)
    least_there n =
        elim (entries m) as (λ es. entries m ≡ es → first_key es ≡ Some n → is_some (get m n) ≡ true) [
          | [] ↦ λ is h. cc
          | e ∷ es ↦ λ is h.
              let here : get m e.0 ≡ Some e.1 = get-entries m e.0 ∙ ap (find nat_cmp e.0) is ∙ ap (λ r. cond (is_eq r) (Some e.1) (find nat_cmp e.0 es)) (tied_itself nat_cmp_total e.0) in
              subst (λ k. is_some (get m k) ≡ true) (ap (λ o. unwrap_or o n) h) (ap is_some here)
        ] refl

    pub least_first : (n q : ℕ) → least m ≡ Some n → q < n → get m q ≡ None
    least_first n q =
        elim (entries m) as (λ es. entries m ≡ es → first_key es ≡ Some n → q < n → get m q ≡ None) [
          | [] ↦ λ is h lt. cc
          | e ∷ es ↦ λ is h lt.
              let sorted : T (is_sorted nat_cmp (e ∷ es)) = subst (λ x. T (is_sorted nat_cmp x)) is (entries_sorted m) in
              let lower : q < e.0 = subst (λ k. q < k) (sym (ap (λ o. unwrap_or o n) h)) lt in
              get-entries m q ∙ ap (find nat_cmp q) is ∙ passed q e es lower ∙ below q e.0 es lower (first _ _ sorted)
        ] refl

    pub least_none : (q : ℕ) → least m ≡ None → get m q ≡ None
    least_none q =
        elim (entries m) as (λ es. entries m ≡ es → first_key es ≡ None → get m q ≡ None) [
          | [] ↦ λ is h. get-entries m q ∙ ap (find nat_cmp q) is
          | e ∷ es ↦ λ is h. cc
        ] refl

    pub if_least : (o : Option ℕ) → o ≡ least m → IfSome o (λ n. IsSome (get m n))
    if_least None e = tt
    if_least (Some n) e = least_there n (sym e)

    pub if_first : (o : Option ℕ) → o ≡ least m → IfSome o (λ n. (q : ℕ) → q < n → get m q ≡ None)
    if_first None e = tt
    if_first (Some n) e = λ q lt. least_first n q (sym e) lt

    pub if_none : (o : Option ℕ) → o ≡ least m → IfNone o ((q : ℕ) → get m q ≡ None)
    if_none None e = λ q. least_none q (sym e)
    if_none (Some n) e = tt
