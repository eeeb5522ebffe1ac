-- Nodes that lose to none.
use Rattle.std.proofs.Common.{◌≡◌, ℕ, ◌+◌, ◌<◌, List, [], ◌∷◌, ◌++◌, take, sym, subst, ◌∙◌, arith, inl, inr, length, get_or}
use Rattle.std.specs.Prelude.{◌⊎◌, All, Contains}
use Rattle.std.proofs.lemmas.List.{take_more}
use Rattle.std.proofs.lemmas.List.Elements.{All-contains, All-push, All-weaker, Contains-push, Contains-append_left}
use Rattle.rendezvous.specs.Nodes.{Beats, GoesTo}

beats_trans : (hash a b c : ℕ) → Beats hash a b → Beats hash b c → Beats hash a c
beats_trans hash a b c (inl x) (inl y) = inl (omega arith)
beats_trans hash a b c (inl x) (inr y) = let same = y.0 in inl (omega arith)
beats_trans hash a b c (inr x) (inl y) = let same = x.0 in inl (omega arith)
beats_trans hash a b c (inr x) (inr y) = let one = x.1 in let two = y.1 in inr (y.0 ∙ x.0, omega arith)

beats_both : (hash a b : ℕ) → Beats hash a b → Beats hash b a → b ≡ a
beats_both hash a b (inl x) (inl y) = absurd (omega (arith, x, y))
beats_both hash a b (inl x) (inr y) = let same = y.0 in absurd (omega (arith, x, same))
beats_both hash a b (inr x) (inl y) = let same = x.0 in absurd (omega (arith, y, same))
beats_both hash a b (inr x) (inr y) = let one = x.1 in let two = y.1 in omega arith

-- one node more
pub more : (hash : ℕ) (seen : List ℕ) (best next winner : ℕ) → GoesTo hash seen best → (winner ≡ best) ⊎ (winner ≡ next) → Beats hash winner best → Beats hash winner next → GoesTo hash (seen ++ next ∷ []) winner
more hash seen best next winner g either one other =
    record { there = place either; wins = All-push (Beats hash winner) seen next (All-weaker (Beats hash best) (Beats hash winner) (λ n h. beats_trans hash winner best n one h) seen g.wins) other }
  where
    place : (winner ≡ best) ⊎ (winner ≡ next) → Contains (seen ++ next ∷ []) winner
    place (inl e) = subst (Contains (seen ++ next ∷ [])) (sym e) (Contains-append_left seen (next ∷ []) best g.there)
    place (inr e) = subst (Contains (seen ++ next ∷ [])) (sym e) (Contains-push seen next)

pub next_more : (hash : ℕ) (nodes : List ℕ) (i d best winner : ℕ) → i < length nodes → GoesTo hash (take i nodes) best → (winner ≡ best) ⊎ (winner ≡ get_or nodes i d) → Beats hash winner best → Beats hash winner (get_or nodes i d) → GoesTo hash (take (i + 1) nodes) winner
next_more hash nodes i d best winner lt g either one other =
    subst (λ seen. GoesTo hash seen winner) (sym (take_more nodes i d lt)) (more hash (take i nodes) best (get_or nodes i d) winner g either one other)

-- ---- the laws

pub one_alone : (hash : ℕ) (nodes : List ℕ) (a b : ℕ) → GoesTo hash nodes a → GoesTo hash nodes b → b ≡ a
one_alone hash nodes a b g h = beats_both hash a b (All-contains (Beats hash a) nodes b g.wins h.there) (All-contains (Beats hash b) nodes a h.wins g.there)

pub stay : (hash : ℕ) (nodes left : List ℕ) (node : ℕ) → GoesTo hash nodes node → All (Contains nodes) left → Contains left node → GoesTo hash left node
stay hash nodes left node g fewer there =
    record { there = there; wins = All-weaker (Contains nodes) (Beats hash node) (λ n has. All-contains (Beats hash node) nodes n g.wins has) left fewer }

pub gain : (hash : ℕ) (nodes wider : List ℕ) (node other : ℕ) → GoesTo hash nodes node → All (Contains wider) nodes → GoesTo hash wider other → Contains nodes other → other ≡ node
gain hash nodes wider node other g fewer h there = one_alone hash nodes node other g (stay hash wider nodes other h fewer there)
