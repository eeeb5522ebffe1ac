-- Totals over views.
use Rattle.pcache_shared_world.specs.Views.{total}
use Rattle.pcache_shared_world.proofs.Words.{◌≡◌, ℕ, zero, suc, ◌+◌, ◌<◌, ◌≤◌, List, [], ◌∷◌, ◌++◌, length, set, Some, refl, sym, ap, subst, arith, slice_get, some, some-ne-none, some-injective, get_elem?, times}

module _ {X : Type 0} where
  pub total_append : (f : X → ℕ) (xs ys : List X) → total f (xs ++ ys) ≡ total f xs + total f ys
  total_append f [] ys = omega arith
  total_append f (x ∷ xs) ys = omega (arith, total_append f xs ys)

  pub total_set : (f : X → ℕ) (xs : List X) (k : ℕ) (v w : X) → get_elem? xs k ≡ some v → total f (set xs k w) + f v ≡ total f xs + f w
  total_set f [] k v w e = absurd (some-ne-none v (sym e))
  total_set f (x ∷ xs) zero v w e = let p = ap f (some-injective x v e) in omega arith
  total_set f (x ∷ xs) (suc k) v w e = let p = total_set f xs k v w e in omega arith

  pub total_part : (f : X → ℕ) (xs : List X) (k : ℕ) (v : X) → get_elem? xs k ≡ some v → f v ≤ total f xs
  total_part f [] k v e = absurd (some-ne-none v (sym e))
  total_part f (x ∷ xs) zero v e = let p = ap f (some-injective x v e) in omega arith
  total_part f (x ∷ xs) (suc k) v e = let p = total_part f xs k v e in omega arith

  total_none : (g f : X → ℕ) (xs : List X) → total g xs ≡ 0 → ((k : ℕ) (u : X) → get_elem? xs k ≡ some u → g u ≡ 0 → f u ≡ 0) → total f xs ≡ 0
  total_none g f [] none idle = refl
  total_none g f (x ∷ xs) none idle =
      let a : f x ≡ 0 = idle 0 x refl (omega arith) in
      let b : total f xs ≡ 0 = total_none g f xs (omega arith) (λ k. idle (suc k)) in
      omega arith

  -- if one has all of g, and who has none of g has none of f, that one has all of f
  pub total_lone : (g f : X → ℕ) (xs : List X) (k : ℕ) (v : X) → get_elem? xs k ≡ some v → total g xs ≡ g v → ((j : ℕ) (u : X) → get_elem? xs j ≡ some u → g u ≡ 0 → f u ≡ 0) → total f xs ≡ f v
  total_lone g f [] k v e lone idle = absurd (some-ne-none v (sym e))
  total_lone g f (x ∷ xs) zero v e lone idle =
      let p = ap f (some-injective x v e) in
      let q = ap g (some-injective x v e) in
      let b : total f xs ≡ 0 = total_none g f xs (omega arith) (λ j. idle (suc j)) in
      omega arith
  total_lone g f (x ∷ xs) (suc k) v e lone idle =
      let part = total_part g xs k v e in
      let a : f x ≡ 0 = idle 0 x refl (omega arith) in
      let b : total f xs ≡ f v = total_lone g f xs k v e (omega arith) (λ j. idle (suc j)) in
      omega arith

  pub get_front : (xs ys : List X) (k : ℕ) (x : X) → slice_get xs k ≡ Some x → slice_get (xs ++ ys) k ≡ Some x
  get_front [] ys k x e = absurd (cc)
  get_front (y ∷ xs) ys zero x e = e
  get_front (y ∷ xs) ys (suc k) x e = get_front xs ys k x e

  pub get_last : (xs : List X) (x : X) → slice_get (xs ++ x ∷ []) (length xs) ≡ Some x
  get_last [] x = refl
  get_last (y ∷ xs) x = get_last xs x

  pub get_below : (xs : List X) (k : ℕ) (x : X) → slice_get xs k ≡ Some x → k < length xs
  get_below [] k x e = absurd (cc)
  get_below (y ∷ xs) zero x e = omega arith
  get_below (y ∷ xs) (suc k) x e = let p = get_below xs k x e in omega arith

module _ {X : Type 0} where
  one_here : (x y : X) → slice_get (x ∷ []) 0 ≡ Some y → y ≡ x
  one_here x y e = cc

  pushed : (xs : List X) (x y : X) → slice_get (xs ++ x ∷ []) (length xs) ≡ Some y → y ≡ x
  pushed [] x y e = one_here x y e
  pushed (z ∷ xs) x y e = pushed xs x y e

  -- what stands where the last was pushed
  pub get_pushed : (xs ys : List X) (x y : X) (k : ℕ) → ys ≡ xs ++ x ∷ [] → k ≡ length xs → slice_get ys k ≡ Some y → y ≡ x
  get_pushed xs ys x y k is at e = pushed xs x y (subst (λ (t : List X × ℕ). slice_get t.0 t.1 ≡ Some y) (λ i. (is i, at i)) e)

pub times_append : (p : ℕ) (xs ys : List ℕ) → times p (xs ++ ys) ≡ times p xs + times p ys
times_append p [] ys = omega arith
times_append p (x ∷ xs) ys = let i = times_append p xs ys in omega arith
