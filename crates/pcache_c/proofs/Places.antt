-- A list whose one element is changed, and what a place has then.
use Rattle.std.proofs.Common.{◌/◌, Bool, true, nat_eq}
use Rattle.std.specs.Prelude.{slice_set, option_and_then, unwrap_or}
use Rattle.std.proofs.lemmas.Bool.{eqb-true, eq-eqb, false_from_ne_true}
use Rattle.std.proofs.lemmas.Bool.Decides.{eqb_tells}
use Rattle.std.proofs.Math.Nat.{mod-add-div}
use Rattle.pcache_c.specs.declared.seats.Seat.{Seat}
use Rattle.pcache_c.specs.Seats.{open_in, request_in, round_in}
use Rattle.pcache_c.proofs.Words.{◌≡◌, ◌≢◌, ◌⊎◌, inl, inr, refl, sym, ap, ◌∙◌, subst, ℕ, zero, suc, ◌+◌, ◌*◌, ◌%◌, ◌^◌, List, [], ◌∷◌, Option, Some, None, false, slice_get, option_map, OnSome, cond, ◌==◌, none-some}

module _ {X : Type 0} where
  pub set_back : (xs : List X) (i : ℕ) (x : X) → slice_get xs i ≡ Some x → slice_set xs i x ≡ xs
  set_back [] i x h = refl
  set_back (y ∷ xs) zero x h = ap (λ z. z ∷ xs) (sym (ap (λ o. unwrap_or o y) h))
  set_back (y ∷ xs) (suc i) x h = ap (λ ys. y ∷ ys) (set_back xs i x h)

  pub set_there : (xs : List X) (i : ℕ) (x y : X) → slice_get xs i ≡ Some x → slice_get (slice_set xs i y) i ≡ Some y
  set_there [] i x y h = absurd (none-some x h)
  set_there (z ∷ xs) zero x y h = refl
  set_there (z ∷ xs) (suc i) x y h = set_there xs i x y h

  pub set_else : (xs : List X) (i j : ℕ) (y : X) → j ≢ i → slice_get (slice_set xs i y) j ≡ slice_get xs j
  set_else [] i j y h = refl
  set_else (z ∷ xs) zero zero y h = absurd (h refl)
  set_else (z ∷ xs) zero (suc j) y h = refl
  set_else (z ∷ xs) (suc i) zero y h = refl
  set_else (z ∷ xs) (suc i) (suc j) y h = set_else xs i j y (λ e. h (ap suc e))

-- the rounds of a list of seats one of which is another
abbrev round_of : {X : Type 0} → Option (Seat X) → ℕ
round_of o = unwrap_or (option_map (λ seat. seat.round) o) 0

module _ {X : Type 0} (seats : List (Seat X)) (place : ℕ) (y : Seat X) where
  pub round_else : (other : ℕ) → other ≢ place → round_in (slice_set seats place y) other ≡ round_in seats other
  round_else other h = ap round_of (set_else seats place other y h)

  module _ (x : Seat X) (at : slice_get seats place ≡ Some x) where
    pub round_is : round_in seats place ≡ x.round
    round_is = ap round_of at

    pub round_there : round_in (slice_set seats place y) place ≡ y.round
    round_there = ap round_of (set_there seats place x y at)

    by_round : y.round ≡ x.round → (other : ℕ) → ((nat_eq other place ≡ true) × (other ≡ place)) ⊎ ((nat_eq other place ≡ false) × (other ≢ place))
        → round_in (slice_set seats place y) other ≡ round_in seats other
    by_round h other (inr p) = round_else other p.1
    by_round h other (inl p) = ap (round_in (slice_set seats place y)) p.1 ∙ round_there ∙ h ∙ sym round_is ∙ sym (ap (round_in seats) p.1)

    -- the other is of the same round
    pub rounds_stay : y.round ≡ x.round → (other : ℕ) → round_in (slice_set seats place y) other ≡ round_in seats other
    rounds_stay h other = by_round h other (eqb_tells other place)

-- the number's place has a seat
module _ {X : Type 0} (seats : List (Seat X)) (n : ℕ) (x : Seat X) (at : slice_get seats (n % 2 ^ 32) ≡ Some x) where
  -- of its round
  pub found : x.round ≡ n / 2 ^ 32 → x.request ≡ request_in seats n
  found h = sym (ap (option_and_then (open_in (n / 2 ^ 32))) at ∙ ap (λ b. cond b x.request None) (eq-eqb x.round (n / 2 ^ 32) h))

  -- of another round
  pub not_found : x.round ≢ n / 2 ^ 32 → None ≡ request_in seats n
  not_found h = sym (ap (option_and_then (open_in (n / 2 ^ 32))) at ∙ ap (λ b. cond b x.request None) (false_from_ne_true (x.round == n / 2 ^ 32) (λ e. h (eqb-true x.round (n / 2 ^ 32) e))))

  -- and is as it was
  pub same : (m : ℕ) → request_in (slice_set seats (n % 2 ^ 32) x) m ≡ request_in seats m
  same m = ap (λ ys. request_in ys m) (set_back seats (n % 2 ^ 32) x at)

-- a number names a place and a round, and no other number the same
one_number : (m n : ℕ) → m % 2 ^ 32 ≡ n % 2 ^ 32 → m / 2 ^ 32 ≡ n / 2 ^ 32 → m ≡ n
one_number m n p q = sym (mod-add-div m (2 ^ 32)) ∙ (ap (λ a. a + 2 ^ 32 * (m / 2 ^ 32)) p ∙ ap (λ b. n % 2 ^ 32 + 2 ^ 32 * b) q) ∙ mod-add-div n (2 ^ 32)

other_round : {X : Type 0} (x : Seat X) (r k : ℕ) (w : Option X) → x.round ≡ r → k ≢ r → open_in k (record x { request = w }) ≡ open_in k x
other_round x r k w is h =
    let no : (x.round == k) ≡ false = false_from_ne_true (x.round == k) (λ e. h (sym (sym is ∙ eqb-true x.round k e))) in
    ap (λ b. cond b w None) no ∙ sym (ap (λ b. cond b x.request None) no)

-- its request is another
module _ {X : Type 0} (seats : List (Seat X)) (n : ℕ) (x : Seat X) (w : X) (at : slice_get seats (n % 2 ^ 32) ≡ Some x) (round : x.round ≡ n / 2 ^ 32) where
  pub this_set : request_in (slice_set seats (n % 2 ^ 32) (record x { request = Some w })) n ≡ Some w
  this_set = let y : Seat X = record x { request = Some w } in sym (found (slice_set seats (n % 2 ^ 32) y) n y (set_there seats (n % 2 ^ 32) x y at) round)

  by_place : (m : ℕ) → m ≢ n → ((nat_eq (m % 2 ^ 32) (n % 2 ^ 32) ≡ true) × (m % 2 ^ 32 ≡ n % 2 ^ 32)) ⊎ ((nat_eq (m % 2 ^ 32) (n % 2 ^ 32) ≡ false) × (m % 2 ^ 32 ≢ n % 2 ^ 32))
      → request_in (slice_set seats (n % 2 ^ 32) (record x { request = Some w })) m ≡ request_in seats m
  by_place m ne (inr p) = ap (option_and_then (open_in (m / 2 ^ 32))) (set_else seats (n % 2 ^ 32) (m % 2 ^ 32) (record x { request = Some w }) p.1)
  by_place m ne (inl p) =
      let k = m / 2 ^ 32 in
      let y : Seat X = record x { request = Some w } in
      ap (λ i. option_and_then (open_in k) (slice_get (slice_set seats (n % 2 ^ 32) y) i)) p.1 ∙ ap (option_and_then (open_in k)) (set_there seats (n % 2 ^ 32) x y at)
      ∙ other_round x (n / 2 ^ 32) k (Some w) round (λ q. ne (one_number m n p.1 q)) ∙ sym (ap (option_and_then (open_in k)) (ap (slice_get seats) p.1 ∙ at))

  pub others_stay : (m : ℕ) → m ≢ n → request_in (slice_set seats (n % 2 ^ 32) (record x { request = Some w })) m ≡ request_in seats m
  others_stay m ne = by_place m ne (eqb_tells (m % 2 ^ 32) (n % 2 ^ 32))

pub on_some : {A : Type 0} (o : Option A) (P : Type 0) → P → OnSome o P
on_some None P p = tt
on_some (Some x) P p = p

module _ {X : Type 0} (seats : List (Seat X)) (place : ℕ) (x : Seat X) (at : slice_get seats place ≡ Some x) where
  -- a free place, seen by its item
  pub free_is : ((y : Seat X) × (slice_get seats place ≡ Some y) × (y.request ≡ None)) → x.request ≡ None
  free_is free = ap (λ o. option_and_then (λ (z : Seat X). z.request) o) (sym at ∙ free.1) ∙ free.2

  -- a number that names the place in its round
  module _ (n : ℕ) (w : X) (is : n % 2 ^ 32 ≡ place) (round : x.round ≡ n / 2 ^ 32) where
    pub put_this : request_in (slice_set seats place (record x { request = Some w })) n ≡ Some w
    put_this = subst (λ p. request_in (slice_set seats p (record x { request = Some w })) n ≡ Some w) is (this_set seats n x w (subst (λ p. slice_get seats p ≡ Some x) (sym is) at) round)

    pub put_others : (m : ℕ) → m ≢ n → request_in (slice_set seats place (record x { request = Some w })) m ≡ request_in seats m
    put_others m ne = subst (λ p. request_in (slice_set seats p (record x { request = Some w })) m ≡ request_in seats m) is (others_stay seats n x w (subst (λ p. slice_get seats p ≡ Some x) (sym is) at) round m ne)
