-- Whether all names are answered, seen from the front.
use Rattle.std.specs.Prelude.{IsTrue}
use Rattle.std.proofs.lemmas.List.Elements.{All-nil, All-cons, All-head, All-rest, All-same}
use Rattle.pcache_http.proofs.Words.{◌≡◌, ◌↔◌, ℕ, Bool, true, false, List, [], ◌∷◌, sym, All}

pub holds : (b : Bool) (P : Type 0) → IsTrue b ↔ P → b ≡ true → P
holds b P is e = is.0 e

pub fails : (b : Bool) (P : Type 0) → IsTrue b ↔ P → b ≡ false → P → ⊥
fails b P is e p =
    let there : b ≡ true = is.1 p in
    absurd cc

pub no_truth : IsTrue false → ⊥
no_truth f = absurd cc

pub next : (P : List ℕ → Type 0) (S : Type 0) (x : List ℕ) (rest later : List (List ℕ)) → rest ≡ x ∷ later → P x → All P rest ↔ S → All P later ↔ S
next P S x rest later step p so = (λ all. so.0 (All-same P rest (x ∷ later) step (All-cons P x later p all)), λ s. All-rest P x later rest step (so.1 s))

pub stops : (P : List ℕ → Type 0) (S : Type 0) (x : List ℕ) (rest later : List (List ℕ)) → rest ≡ x ∷ later → (P x → ⊥) → All P rest ↔ S → S → ⊥
stops P S x rest later step not so s = not (All-head P x later (All-same P (x ∷ later) rest (sym step) (so.1 s)))

pub ends : (P : List ℕ → Type 0) (S : Type 0) (rest : List (List ℕ)) → rest ≡ [] → All P rest ↔ S → S
ends P S rest none so = so.0 (All-same P rest [] none (All-nil P))
