-- Of two logs of one keeper one begins the other, and is what both have. Assumes `Logic`.
use Rattle.std.proofs.Common.{ap, ◌∙◌, inr}
use mathlib.Core.Option.{none}
use base.Graph.{sum_out}
use base.Growing.{grows, growing, at_least}
use types.Owned.{own_sum}
use Rattle.pcache_keeper.proofs.Words.{◌≡◌, ℕ, List, [], ◌∷◌, ◌++◌, map, refl, sym, inl, ◌⊎◌, append-nil, IsPrefix, Ura, Gv, Coded, SProp, ent, sep, ex, guard, Logic, sem, ‵, ◌$◌, ◌∵◌, !, qed, move, drop, show, check, done, logs, prefix_out, had}

abbrev head : Gv → List Gv → Gv
head d [] = d
head d (g ∷ gs) = g

abbrev tail : List Gv → List Gv
tail [] = []
tail (g ∷ gs) = gs

longer : (g h : Gv) (x y : List Gv) → g ≡ h → IsPrefix x y ⊎ IsPrefix y x → IsPrefix (g ∷ x) (h ∷ y) ⊎ IsPrefix (h ∷ y) (g ∷ x)
longer g h x y e (inl p) = inl (p.0, λ i. e i ∷ p.1 i)
longer g h x y e (inr p) = inr (p.0, λ i. sym e i ∷ p.1 i)

either_way : (x y z : List Gv) → IsPrefix x z → IsPrefix y z → IsPrefix x y ⊎ IsPrefix y x
either_way [] y z p q = inl (y, refl)
either_way (g ∷ x) [] z p q = inr (g ∷ x, refl)
either_way (g ∷ x) (h ∷ y) z p q =
    let e : g ∷ (x ++ p.0) ≡ h ∷ (y ++ q.0) = p.1 ∙ sym q.1 in
    longer g h x y (ap (head g) e) (either_way x y (y ++ q.0) (p.0, ap tail e) (q.0, refl))

module _ {M : Type 1} {𝓤 : Ura M} (𝓛 : Logic 𝓤) {E : Type 0} (cv : Coded E) (η : ℕ) where
  abbrev pub Joined : List E → List E → List E → SProp 𝓤
  Joined a b l = guard 𝓤 (IsPrefix a l × IsPrefix b l × ((l ≡ a) ⊎ (l ≡ b))) (sem 𝓛 (had cv.code η l))

  chosen : (a b : List E) → IsPrefix (map cv.code a) (map cv.code b) ⊎ IsPrefix (map cv.code b) (map cv.code a)
      → ent 𝓤 (sep 𝓤 (sem 𝓛 (had cv.code η a)) (sem 𝓛 (had cv.code η b))) (ex 𝓤 (Joined a b))
  chosen a b (inl p) = qed 𝓛 (‵ (had cv.code η a) ∷ ‵ (had cv.code η b) ∷ []) ∵ drop ! $ show ! (Joined a b) b $ check ! (prefix_out cv a b p, ([], append-nil b), inr refl) $ done !
  chosen a b (inr p) = qed 𝓛 (‵ (had cv.code η a) ∷ ‵ (had cv.code η b) ∷ []) ∵ move ! (1 ∷ []) $ drop ! $ show ! (Joined a b) a $ check ! (([], append-nil a), prefix_out cv b a p, inl refl) $ done !

  pub joined : (a b : List E) → ent 𝓤 (sep 𝓤 (sem 𝓛 (had cv.code η a)) (sem 𝓛 (had cv.code η b))) (ex 𝓤 (Joined a b))
  unfolding at_least
  joined a b = let x = map cv.code a in let y = map cv.code b in
      own_sum 𝓛 (growing logs) η (none, x) (none, y) (ex 𝓤 (Joined a b)) (λ c m. let s = sum_out (grows logs) (none, x) (none, y) c m in chosen a b (either_way x y c.1 s.1.0.0 s.1.0.1))
