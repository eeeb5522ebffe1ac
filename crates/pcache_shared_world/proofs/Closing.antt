-- What the last step gives, in terms of the history and the receipts.
use Rattle.std.proofs.Common.{eq-eqb, ne_eqb, eqb}
use Rattle.std.proofs.lemmas.List.Elements.{All-map}
use mathlib.Core.Logic.{dite}
use native.Mathlib.Decide.{dec_lt, ℕ_discrete}
use Rattle.pcache_shared_world.specs.Receipts.{IsIn}
use Rattle.pcache_shared_world.proofs.Words.{◌≡◌, ℕ, suc, ◌+◌, ◌-◌, ◌<◌, List, [], ◌∷◌, ◌++◌, map, length, refl, sym, ap, ◌∙◌, subst, arith, length-append, slice_get, All, All-weaker, Entry, Receipt, one_if, times, numbers, places, IsAt, Rises, receipt_of, joined, indices_of, AreReceipts}

pub joined_snoc : {V X : Type 0} (f : V → List X) (vs : List V) (v : V) → joined (map f (vs ++ v ∷ [])) ≡ joined (map f vs) ++ f v
joined_snoc f [] v = nothing (f v)
  where
    nothing : {X : Type 0} (xs : List X) → xs ++ [] ≡ xs
    nothing [] = refl
    nothing (x ∷ xs) = ap (λ l. x ∷ l) (nothing xs)
joined_snoc f (u ∷ us) v = ap (λ l. f u ++ l) (joined_snoc f us v) ∙ sym (append_assoc (f u) (joined (map f us)) (f v))
  where
    append_assoc : {X : Type 0} (xs ys zs : List X) → (xs ++ ys) ++ zs ≡ xs ++ (ys ++ zs)
    append_assoc [] ys zs = refl
    append_assoc (x ∷ xs) ys zs = ap (λ l. x ∷ l) (append_assoc xs ys zs)

pub none_left : {X : Type 0} (xs : List X) → length xs ≡ 0 → xs ≡ []
none_left [] e = refl
none_left (x ∷ xs) e = absurd (omega arith)

get_after : {X : Type 0} (xs ys : List X) (k : ℕ) → slice_get (xs ++ ys) (length xs + k) ≡ slice_get ys k
get_after [] ys k = let n : 0 + k ≡ k = omega arith in ap (slice_get ys) n
get_after (x ∷ xs) ys k = let n : suc (length xs) + k ≡ suc (length xs + k) = omega arith in ap (slice_get (x ∷ xs ++ ys)) n ∙ get_after xs ys k

same_test : (s x p : ℕ) → eqb (s + x) (s + p) ≡ eqb x p
same_test s x p = dite (ℕ_discrete x p) (λ e. eq-eqb (s + x) (s + p) (omega arith) ∙ sym (eq-eqb x p e)) (λ ne. ne_eqb (s + x) (s + p) (λ e. ne (omega arith)) ∙ sym (ne_eqb x p ne))

times_here : (s p : ℕ) (xs : List ℕ) → times (s + p) (map (λ k. s + k) xs) ≡ times p xs
times_here s p [] = refl
times_here s p (x ∷ xs) = let i = times_here s p xs in let t = ap one_if (same_test s x p) in omega arith

times_under : (s q : ℕ) (xs : List ℕ) → q < s → times q (map (λ k. s + k) xs) ≡ 0
times_under s q [] lt = refl
times_under s q (x ∷ xs) lt = let i = times_under s q xs lt in let t = ap one_if (ne_eqb (s + x) q (λ e. omega arith)) in omega arith

pub times_shift : (s : ℕ) (xs ys : List ℕ) → ((p : ℕ) → times p xs ≡ times p ys) → (q : ℕ) → times q (map (λ k. s + k) xs) ≡ times q (map (λ k. s + k) ys)
times_shift s xs ys same q =
    dite (dec_lt q s)
    (λ lt. times_under s q xs lt ∙ sym (times_under s q ys lt))
    (λ ge.
    let at : s + (q - s) ≡ q = omega arith in
    subst (λ (n : ℕ). times n (map (λ k. s + k) xs) ≡ times n (map (λ k. s + k) ys)) at (times_here s (q - s) xs ∙ (same (q - s) ∙ sym (times_here s (q - s) ys))))

places_are : (s : ℕ) (claims : List (ℕ × Entry)) → indices_of (map (receipt_of s) claims) ≡ map (λ k. s + k) (places claims)
places_are s [] = refl
places_are s (c ∷ cs) = ap (λ l. (s + c.0) ∷ l) (places_are s cs)

-- increasing indices increase also from s on
pub rises_of : (s : ℕ) (claims : List (ℕ × Entry)) → Rises (places claims) → Rises (indices_of (map (receipt_of s) claims))
rises_of s claims h = subst Rises (sym (places_are s claims)) (shifted (places claims) h)
  where
    shifted : (xs : List ℕ) → Rises xs → Rises (map (λ k. s + k) xs)
    shifted [] h = tt
    shifted (x ∷ xs) h = (All-map (λ y. s + x < y) (λ k. s + k) xs (All-weaker (λ y. x < y) (λ y. s + x < s + y) (λ y lt. omega arith) xs h.0), shifted xs h.1)

pub closes : (start all : List Entry) (claims : List (ℕ × Entry)) (history : List Entry) (lists : List (List Receipt))
    → history ≡ start ++ all → All (IsAt all) claims → ((p : ℕ) → times p (places claims) ≡ times p (numbers (length all)))
    → joined lists ≡ map (receipt_of (length start)) claims → All (λ rs. Rises (indices_of rs)) lists → AreReceipts start history lists
closes start all claims history lists is stand once joins rise =
    let s = length start in
    let n : length history - s ≡ length all = omega (arith, ap length is, length-append start all) in
    record {
      stand = subst (All (IsIn history)) (sym joins)
          (All-map (IsIn history) (receipt_of s) claims
          (All-weaker (IsAt all) (λ c. IsIn history (receipt_of s c)) (λ c h. (c.1, ap (λ l. slice_get l (s + c.0)) is ∙ (get_after start all c.0 ∙ h), (refl, refl))) claims stand));
      rise = rise;
      once = λ p. ap (λ rs. times p (indices_of rs)) joins
          ∙ (ap (times p) (places_are s claims) ∙ (times_shift s (places claims) (numbers (length all)) once p ∙ ap (λ k. times p (map (λ j. s + j) (numbers k))) (sym n)));
    }
