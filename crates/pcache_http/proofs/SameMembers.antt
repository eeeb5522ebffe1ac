-- Two lists, compared from their fronts.
use Rattle.pcache_http.proofs.Words.{◌≡◌, ◌↔◌, ℕ, List}

-- what is left of both is the same exactly if all is
abbrev pub AreSameSoFar : List (List ℕ) → List (List ℕ) → List (List ℕ) → List (List ℕ) → Type 0
AreSameSoFar first second a b = (a ≡ b) ↔ (first ≡ second)
