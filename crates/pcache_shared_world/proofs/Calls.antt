-- What each step makes of the views.
use Rattle.std.proofs.lemmas.List.Elements.{All-head, All-tail}
use Rattle.pcache_shared_world.specs.Receipts.{IsOf}
use Rattle.pcache_shared_world.specs.Views.{Adds}
use Rattle.pcache_shared_world.proofs.Words.{map, ◌≡◌, ℕ, ◌+◌, ◌-◌, ◌<◌, List, [], ◌∷◌, ◌++◌, length, refl, sym, ap, ◌∙◌, subst, arith, length-append, All, All-nil, All-push, Entry, Receipt, receipt_of, map-append, some, Me, Step, View, Rises, places, keeper, slip, added, both, relieved, slip_of, IsKeeper, IsSlip}

module _ {E : Type 0} where
  pub moved_is : (was moved : Me E (View E)) → IsSlip was → moved ≡ (was.0, []) → moved ≡ (slip was.0.claims, [])
  moved_is was moved slips is = is ∙ ap (λ (m : Me E (View E)). (m.0, [])) slips

  pub slip_is : (me : Me E (View E)) (claims : List (ℕ × E)) → me ≡ (slip claims, []) → IsSlip me
  slip_is me claims e = subst (λ (m : Me E (View E)). IsSlip m) (sym e) refl

  pub keeper_is : (me : Me E (View E)) (parts : ℕ) (all : List E) (claims : List (ℕ × E)) → me ≡ (keeper parts all claims, []) → IsKeeper me
  keeper_is me parts all claims e = subst (λ (m : Me E (View E)). IsKeeper m) (sym e) refl

  pub some_part : (me : Me E (View E)) (parts : ℕ) (all : List E) (claims : List (ℕ × E)) → me ≡ (keeper (parts + 1) all claims, []) → 0 < me.0.parts
  some_part me parts all claims e = let p = ap (λ (m : Me E (View E)). m.0.parts) e in omega arith

  pub followed_on : (me you now : Me E (View E)) (claims : List (ℕ × E)) → IsKeeper me → you ≡ (slip claims, []) → now ≡ (both me.0 you.0, me.1) → now ≡ (keeper (me.0.parts + 1) me.0.all (me.0.claims ++ claims), [])
  followed_on me you now claims is slips e =
      e ∙ (ap (λ (m : Me E (View E)). (both m.0 you.0, m.1)) is ∙ ap (λ (m : Me E (View E)). (both (keeper me.0.parts me.0.all me.0.claims) m.0, [])) slips)

  pub joined_is : (me you now : Me E (View E)) (claims : List (ℕ × E)) → IsKeeper me → me.0.claims ≡ [] → you ≡ (slip claims, []) → now ≡ (both me.0 you.0, me.1) → now ≡ (keeper (me.0.parts + 1) me.0.all claims, [])
  joined_is me you now claims is none slips e =
      followed_on me you now claims is slips e ∙ ap (λ l. (keeper (me.0.parts + 1) me.0.all (l ++ claims), [])) none

  pub added_is : (me now : Me E (View E)) (parts : ℕ) (all : List E) (claims : List (ℕ × E)) (e : E) (s : Step E) (found : ℕ) → me ≡ (keeper parts all claims, []) → s.said ≡ some e → Adds s me found now
      → (now ≡ (keeper parts (all ++ e ∷ []) (claims ++ (length all, e) ∷ []), [])) × All (λ c. c.0 < length all) claims
  added_is me now parts all claims e s found is said h =
      let a = subst (λ (m : Me E (View E)). Adds s m found now) is h in (a.0 ∙ ap (λ o. (added (keeper parts all claims) o, [])) said, a.1)

  pub relieved_is : (me now : Me E (View E)) (parts : ℕ) (all : List E) (claims : List (ℕ × E)) → me ≡ (keeper (parts + 1) all claims, []) → now ≡ (relieved me.0, me.1) → now ≡ (keeper parts all [], [])
  relieved_is me now parts all claims is e =
      let one : parts + 1 - 1 ≡ parts = omega arith in
      e ∙ (ap (λ (m : Me E (View E)). (relieved m.0, m.1)) is ∙ ap (λ k. (keeper k all [], [])) one)

  pub dealt_is : (me now : Me E (View E)) (parts : ℕ) (all : List E) (claims : List (ℕ × E)) → me ≡ (keeper parts all claims, []) → now ≡ (slip_of me.0, []) → now ≡ (slip claims, [])
  dealt_is me now parts all claims is e = e ∙ ap (λ (m : Me E (View E)). (slip_of m.0, [])) is

pub rises_snoc : {E : Type 0} (claims : List (ℕ × E)) (n : ℕ) (e : E) → Rises (places claims) → All (λ c. c.0 < n) claims → Rises (places (claims ++ (n, e) ∷ []))
rises_snoc [] n e h below = (All-nil (λ y. n < y), tt)
rises_snoc (c ∷ cs) n e h below =
    (subst (All (λ y. c.0 < y)) (sym (map-append (λ d. d.0) cs ((n, e) ∷ []))) (All-push (λ y. c.0 < y) (places cs) n h.0 (All-head (λ d. d.0 < n) c cs below)), rises_snoc cs n e h.1 (All-tail (λ d. d.0 < n) c cs below))

pub receipts_snoc : (s n : ℕ) (r : Receipt) (e : Entry) (claims : List (ℕ × Entry)) (receipts : List Receipt) → receipts ≡ map (receipt_of s) claims → r.index ≡ s + n → IsOf e r
    → receipts ++ r ∷ [] ≡ map (receipt_of s) (claims ++ (n, e) ∷ [])
receipts_snoc s n r e claims receipts is at of =
    let same : r ≡ receipt_of s (n, e) = λ i. record { index = at i; call = sym of.0 i; reply = sym of.1 i } in
    ap (λ l. l ++ r ∷ []) is ∙ (ap (λ x. map (receipt_of s) claims ++ x ∷ []) same ∙ sym (map-append (receipt_of s) claims ((n, e) ∷ [])))

-- a list that was pushed to is not empty
pub some_pushed : {X : Type 0} (xs ys : List X) (x : X) (n : ℕ) → ys ≡ xs ++ x ∷ [] → n ≡ length ys → 0 < n
some_pushed xs ys x n is at = omega (arith, at, ap length is, length-append xs (x ∷ []))
