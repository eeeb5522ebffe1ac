-- Each step keeps the rule.
use Rattle.std.proofs.Common.{◌≢◌, true, false, true≢false, ⊎_elim}
use Rattle.std.specs.Prelude.{nat_eq}
use Rattle.std.proofs.lemmas.List.Elements.{All-append}
use mathlib.Core.Option.{Option}
use Rattle.atomic_table.specs.Table.{State, keeps, Allows, Splits, Joins}
use Rattle.atomic_table.proofs.Lists.{at_set, at_snoc, set_again}
use Rattle.pcache_shared_world.specs.Views.{nobody, Fits, Kept, Adds, Settles}
use Rattle.pcache_shared_world.proofs.Words.{◌≡◌, ℕ, zero, suc, ◌+◌, ◌<◌, List, [], ◌∷◌, ◌++◌, length, set, Some, refl, sym, ap, ◌∙◌, subst, arith, slice_get, All, All-nil, All-push, All-weaker, some, some-ne-none, some-injective, get_elem?, Me, Step, View, IsKeeper, IsSlip, slip_of, one_if, times, numbers, whole, places, keeper, slip, IsAt, added, both, relieved}
use Rattle.pcache_shared_world.proofs.Lists.{total_append, total_set, total_lone, get_front, get_last, get_below, times_append}

off : false ≡ true → ⊥
off e = true≢false (sym e)

module _ {E : Type 0} where
  abbrev pub rule : State E (View E) → Type 0
  rule s = Kept s.views

  abbrev claimed : ℕ → View E → ℕ
  claimed p v = times p (places v.claims)

  abbrev parts_of : View E → ℕ
  parts_of v = v.parts

  places_append : (xs ys : List (ℕ × E)) → places (xs ++ ys) ≡ places xs ++ places ys
  places_append [] ys = refl
  places_append (x ∷ xs) ys = ap (λ l. x.0 ∷ l) (places_append xs ys)

  claimed_append : (p : ℕ) (xs ys : List (ℕ × E)) → times p (places (xs ++ ys)) ≡ times p (places xs) + times p (places ys)
  claimed_append p xs ys = ap (times p) (places_append xs ys) ∙ times_append p (places xs) (places ys)

  -- what the rule says of one view holds of all after one has changed
  fits_set : (seat : ℕ) (now : List E) (views : List (View E)) (by : ℕ) (w : View E) → ((j : ℕ) (u : View E) → j ≢ by → get_elem? views j ≡ some u → Fits seat now j u) → Fits seat now by w → (j : ℕ) (u : View E) → get_elem? (set views by w) j ≡ some u → Fits seat now j u
  fits_set seat now views by w others mine j u e =
      ⊎_elim
      (λ (x : (j ≡ by) × (w ≡ u)). subst (λ (y : ℕ × View E). Fits seat now y.0 y.1) (λ i. (sym x.0 i, x.1 i)) mine)
      (λ (x : (j ≢ by) × (get_elem? views j ≡ some u)). others j u x.0 x.1)
      (at_set views by j w u e)

  fits_snoc : (seat : ℕ) (log : List E) (views : List (View E)) (w : View E) → ((j : ℕ) (u : View E) → get_elem? views j ≡ some u → Fits seat log j u) → ((j : ℕ) → Fits seat log j w) → (j : ℕ) (u : View E) → get_elem? (views ++ w ∷ []) j ≡ some u → Fits seat log j u
  fits_snoc seat log views w old mine j u e =
      ⊎_elim (λ was. old j u was) (λ (same : w ≡ u). subst (Fits seat log j) same (mine j)) (at_snoc views w u j e)

  pub begins : Kept {E = E} (keeper whole [] [] ∷ [])
  begins = (0, [], one, omega arith, λ p. refl)
    where
      one : (by : ℕ) (v : View E) → get_elem? (keeper {E = E} whole [] [] ∷ []) by ≡ some v → Fits 0 [] by v
      one zero v e = subst (Fits 0 [] 0) (some-injective _ _ e) ((λ _. (refl, refl)), All-nil (IsAt []), λ _. refl)
      one (suc by) v e = absurd (some-ne-none v (sym e))

  length_snoc : (xs : List E) (x : E) → length (xs ++ x ∷ []) ≡ suc (length xs)
  length_snoc [] x = refl
  length_snoc (y ∷ xs) x = ap suc (length_snoc xs x)

  -- the keeper adds an entry, and claims its index
  add_keeps : (by parts : ℕ) (all : List E) (claims : List (ℕ × E)) (e : E) (views : List (View E)) → 0 < parts → Kept views → get_elem? views by ≡ some (keeper parts all claims) → Kept (set views by (added (keeper parts all claims) (some e)))
  add_keeps by parts all claims e views some_part h at =
      let v = keeper parts all claims in
      let w = added v (some e) in
      let mine = h.2 by v at in
      let here = mine.0 refl in
      let log = h.1 ++ e ∷ [] in
      let newest : slice_get log (length all) ≡ Some e = subst (λ (l : List E). slice_get (h.1 ++ e ∷ []) (length l) ≡ Some e) (sym here.1) (get_last h.1 e) in (
        h.0,
        log,
        fits_set h.0 log views by w
            (λ j u apart there.
            let f = h.2 j u there in
            ((λ k. absurd (apart ((f.0 k).0 ∙ sym here.0))), All-weaker (IsAt h.1) (IsAt log) (λ c. get_front h.1 (e ∷ []) c.0 c.1) u.claims f.1, f.2))
            ((λ _. (here.0, ap (λ l. l ++ e ∷ []) here.1)), All-push (IsAt log) claims (length all, e) (All-weaker (IsAt h.1) (IsAt log) (λ c. get_front h.1 (e ∷ []) c.0 c.1) claims mine.1) newest, λ none. absurd (omega arith)),
        (let s = total_set parts_of views by v w at in let p = h.3 in omega arith),
        λ p.
            let s = total_set (claimed p) views by v w at in
            let q = h.4 p in
            let a = claimed_append p claims ((length all, e) ∷ []) in
            let n : times p (numbers (length log)) ≡ one_if (nat_eq (length h.1) p) + times p (numbers (length h.1)) = ap (λ k. times p (numbers k)) (length_snoc h.1 e) in
            let m : one_if (nat_eq (length all) p) ≡ one_if (nat_eq (length h.1) p) = ap (λ (l : List E). one_if (nat_eq (length l) p)) here.1 in
            omega arith,
      )

  pub adds : (by parts : ℕ) (all : List E) (claims : List (ℕ × E)) (e : E) (s : Step E) (slots word : ℕ) (f : ℕ → ℕ) → s.said ≡ some e → 0 < parts → Allows rule slots by (keeper parts all claims, []) word f (Adds s (keeper parts all claims, []))
  adds by parts all claims e s slots word f said some_part state h homes at bound =
      let v = keeper parts all claims in
      let mine = h.2 by v at in
      let here = mine.0 refl in (
        added v s.said,
        keeps,
        tt,
        subst (λ (o : Option E). Kept (set state.views by (added v o))) (sym said) (add_keeps by parts all claims e state.views some_part h at),
        (refl, All-weaker (IsAt h.1) (λ c. c.0 < length all) (λ c stands. subst (λ (l : List E). c.0 < length l) (sym here.1) (get_below h.1 c.0 c.1 stands)) claims mine.1),
      )

  pub settles : (by : ℕ) (v : View E) (s : Step E) (slots word : ℕ) (f : ℕ → ℕ) → v.keeps ≡ true → Allows rule slots by (v, []) word f (Settles s (v, []))
  settles by v s slots word f knows state h homes at bound =
      let mine = h.2 by v at in
      let here = mine.0 knows in (
        v,
        keeps,
        tt,
        subst Kept (sym (set_again state.views by v at)) h,
        (
          refl,
          λ all_parts. (
            subst (λ (l : List E). All (IsAt l) v.claims) (sym here.1) mine.1,
            λ p.
                sym (total_lone parts_of (claimed p) state.views by v at (h.3 ∙ sym all_parts) (λ j u there idle. ap (λ c. times p (places c)) ((h.2 j u there).2 idle)))
                ∙ (h.4 p ∙ ap (λ (l : List E). times p (numbers (length l))) (sym here.1)),
          ),
        ),
      )

  nobody_fits : (seat : ℕ) (log : List E) (j : ℕ) → Fits seat log j nobody
  nobody_fits seat log j = ((λ k. absurd (off k)), All-nil (IsAt log), λ _. refl)

  -- a share's seat passes all on
  pub moves : (by : ℕ) (claims : List (ℕ × E)) → Splits rule by (slip claims) nobody (slip claims)
  moves by claims state h at =
      let v : View E = slip claims in
      let mine = h.2 by v at in (
        h.0,
        h.1,
        fits_snoc h.0 h.1 (set state.views by nobody) v
            (fits_set h.0 h.1 state.views by nobody (λ j u _ there. h.2 j u there) (nobody_fits h.0 h.1 by))
            (λ j. ((λ k. absurd (off k)), mine.1, mine.2)),
        (let s = total_set parts_of state.views by v nobody at in let t = total_append parts_of (set state.views by nobody) (v ∷ []) in let p = h.3 in omega arith),
        λ p. let s = total_set (claimed p) state.views by v nobody at in let t = total_append (claimed p) (set state.views by nobody) (v ∷ []) in let q = h.4 p in omega arith,
      )

  -- the keeper gives a part away, with its claims
  pub deals : (by parts : ℕ) (all : List E) (claims : List (ℕ × E)) → 0 < parts → Splits rule by (keeper parts all claims) (relieved (keeper parts all claims)) (slip claims)
  deals by parts all claims some_part state h at =
      let v = keeper parts all claims in
      let w = relieved v in
      let u : View E = slip claims in
      let mine = h.2 by v at in (
        h.0,
        h.1,
        fits_snoc h.0 h.1 (set state.views by w) u
            (fits_set h.0 h.1 state.views by w (λ j x _ there. h.2 j x there) (mine.0, All-nil (IsAt h.1), λ _. refl))
            (λ j. ((λ k. absurd (off k)), mine.1, λ none. absurd (omega arith))),
        (let s = total_set parts_of state.views by v w at in let t = total_append parts_of (set state.views by w) (u ∷ []) in let p = h.3 in omega arith),
        λ p. let s = total_set (claimed p) state.views by v w at in let t = total_append (claimed p) (set state.views by w) (u ∷ []) in let q = h.4 p in omega arith,
      )

  -- the keeper takes in what a share knows
  pub takes_in : (by parts : ℕ) (all : List E) (claims : List (ℕ × E)) (other : ℕ) (theirs : List (ℕ × E)) → Joins rule by (keeper parts all claims) other (slip theirs) (both (keeper parts all claims) (slip theirs)) nobody
  takes_in by parts all claims other theirs state h at apart there =
      let v = keeper parts all claims in
      let u : View E = slip theirs in
      let w = both v u in
      let mine = h.2 by v at in
      let was : get_elem? state.views other ≡ some u = ⊎_elim (λ (t : (other ≡ by) × (w ≡ u)). absurd (apart t.0)) (λ (t : (other ≢ by) × (get_elem? state.views other ≡ some u)). t.1) (at_set state.views by other w u there) in
      let other_one = h.2 other u was in (
        h.0,
        h.1,
        fits_set h.0 h.1 (set state.views by w) other nobody
            (λ j x _ e. fits_set h.0 h.1 state.views by w (λ i y _ e'. h.2 i y e') (mine.0, All-append (IsAt h.1) claims theirs mine.1 other_one.1, λ none. absurd (omega arith)) j x e)
            (nobody_fits h.0 h.1 other),
        (let s = total_set parts_of state.views by v w at in let t = total_set parts_of (set state.views by w) other u nobody there in let p = h.3 in omega arith),
        λ p.
            let s = total_set (claimed p) state.views by v w at in
            let t = total_set (claimed p) (set state.views by w) other u nobody there in
            let a = claimed_append p claims theirs in
            let q = h.4 p in
            omega arith,
      )

  -- the moves, at a view that is known
  pub moves_as : (by : ℕ) (me : Me E (View E)) → IsSlip me → Splits rule by me.0 nobody me.0
  moves_as by me is = subst (λ (u : View E). Splits rule by u nobody u) (sym (ap (λ m. m.0) is)) (moves by me.0.claims)

  pub deals_as : (by : ℕ) (me : Me E (View E)) → IsKeeper me → 0 < me.0.parts → Splits rule by me.0 (relieved me.0) (slip_of me.0)
  deals_as by me is some_part = subst (λ (u : View E). Splits rule by u (relieved u) (slip_of u)) (sym (ap (λ m. m.0) is)) (deals by me.0.parts me.0.all me.0.claims some_part)

  pub takes_in_as : (by : ℕ) (me : Me E (View E)) (other : ℕ) (you : Me E (View E)) → IsKeeper me → IsSlip you → Joins rule by me.0 other you.0 (both me.0 you.0) nobody
  takes_in_as by me other you is slips =
      subst (λ (u : View E). Joins rule by u other you.0 (both u you.0) nobody) (sym (ap (λ m. m.0) is))
      (subst (λ (x : View E). Joins rule by (keeper me.0.parts me.0.all me.0.claims) other x (both (keeper me.0.parts me.0.all me.0.claims) x) nobody) (sym (ap (λ m. m.0) slips)) (takes_in by me.0.parts me.0.all me.0.claims other you.0.claims))

  pub adds_as : (by : ℕ) (me : Me E (View E)) (e : E) (s : Step E) (slots word : ℕ) (f : ℕ → ℕ) → IsKeeper me → s.said ≡ some e → 0 < me.0.parts → Allows rule slots by me word f (Adds s me)
  adds_as by me e s slots word f is said some_part = subst (λ (m : Me E (View E)). Allows rule slots by m word f (Adds s m)) (sym is) (adds by me.0.parts me.0.all me.0.claims e s slots word f said some_part)

  pub settles_as : (by : ℕ) (me : Me E (View E)) (s : Step E) (slots word : ℕ) (f : ℕ → ℕ) → IsKeeper me → Allows rule slots by me word f (Settles s me)
  settles_as by me s slots word f is = subst (λ (m : Me E (View E)). Allows rule slots by m word f (Settles s m)) (sym is) (settles by (keeper me.0.parts me.0.all me.0.claims) s slots word f refl)
