-- What was seen of a keeper's log is a beginning of it; of another keeper's log nothing is known. Assumes `Logic`.
use Rattle.std.proofs.Common.{subst}
use native.Mathlib.Decide.{ℕ_discrete}
use base.Logic.{guard_i}
use types.Growing.{latest_bounds}
use Rattle.pcache_keeper.proofs.Words.{◌≡◌, ◌⊎◌, inl, ℕ, List, [], ◌∷◌, map, refl, sym, append-nil, IsPrefix, Ura, full_share, SProp, ent, sep, ex, guard, Coded, ‵, ◌⊛◌, given, ◌$◌, ◌∵◌, !, qed, check, drop, learn, move, pick, show, some, split, use2, done, Logic, sem, logs, prefix_out, had, top}
use Rattle.pcache_keeper.proofs.Joined.{joined}

module _ {M : Type 1} {𝓤 : Ura M} (𝓛 : Logic 𝓤) {E : Type 0} (cv : Coded E) (η θ : ℕ) where
  abbrev Both : List E → List E → SProp 𝓤
  Both log seen = sep 𝓤 (sem 𝓛 (top cv.code η log)) (sem 𝓛 (had cv.code θ seen))

  abbrev pub Bound : List E → List E → SProp 𝓤
  Bound log seen = guard 𝓤 (θ ≡ η → IsPrefix seen log) (Both log seen)

  by_name : (log seen : List E) → Dec (θ ≡ η) → ent 𝓤 (Both log seen) (Bound log seen)
  by_name log seen (yes e) =
      let φ : Type 0 = IsPrefix (map cv.code seen) (map cv.code log) in
      subst (λ (n : ℕ). ent 𝓤 (sep 𝓤 (sem 𝓛 (top cv.code η log)) (sem 𝓛 (had cv.code n seen))) (guard 𝓤 (n ≡ η → IsPrefix seen log) (sep 𝓤 (sem 𝓛 (top cv.code η log)) (sem 𝓛 (had cv.code n seen))))) (sym e)
      (qed 𝓛 (‵ (top cv.code η log) ∷ ‵ (had cv.code η seen) ∷ []) ∵ use2 𝓛 (given φ (‵ (top cv.code η log) ⊛ ‵ (had cv.code η seen))) (latest_bounds logs 𝓛 full_share η (map cv.code log) (map cv.code seen)) $ learn ! (λ p. split ! $
      check ! (λ _. prefix_out cv seen log p) $ done !))
  by_name log seen (no n) = guard_i 𝓤 (θ ≡ η → IsPrefix seen log) (Both log seen) (λ e. absurd (n e))

  pub known : (log seen : List E) → ent 𝓤 (Both log seen) (Bound log seen)
  known log seen = by_name log seen (ℕ_discrete θ η)

  abbrev pub Both-seen : List E → List E → SProp 𝓤
  Both-seen a b = sep 𝓤 (sem 𝓛 (had cv.code η a)) (sem 𝓛 (had cv.code θ b))

  abbrev pub Longer : List E → List E → List E → SProp 𝓤
  Longer a b log = guard 𝓤 (IsPrefix a log × (θ ≡ η → IsPrefix b log) × ((log ≡ a) ⊎ (log ≡ b))) (sem 𝓛 (had cv.code η log))

  seen_by_name : (a b : List E) → Dec (θ ≡ η) → ent 𝓤 (Both-seen a b) (ex 𝓤 (Longer a b))
  seen_by_name a b (yes e) =
      subst (λ (n : ℕ). ent 𝓤 (sep 𝓤 (sem 𝓛 (had cv.code η a)) (sem 𝓛 (had cv.code n b))) (ex 𝓤 (λ (log : List E). guard 𝓤 (IsPrefix a log × (n ≡ η → IsPrefix b log) × ((log ≡ a) ⊎ (log ≡ b))) (sem 𝓛 (had cv.code η log))))) (sym e)
      (qed 𝓛 (‵ (had cv.code η a) ∷ ‵ (had cv.code η b) ∷ []) ∵ use2 𝓛 (some (λ (log : List E). given (IsPrefix a log × IsPrefix b log × ((log ≡ a) ⊎ (log ≡ b))) (‵ (had cv.code η log)))) (joined 𝓛 cv η a b) $ pick ! (λ log. learn ! (λ p.
      show ! (λ (log : List E). guard 𝓤 (IsPrefix a log × (η ≡ η → IsPrefix b log) × ((log ≡ a) ⊎ (log ≡ b))) (sem 𝓛 (had cv.code η log))) log $ check ! (p.0, λ _. p.1, p.2) $ done !)))
  seen_by_name a b (no n) = qed 𝓛 (‵ (had cv.code η a) ∷ ‵ (had cv.code θ b) ∷ []) ∵ move ! (1 ∷ []) $ drop ! $ show ! (Longer a b) a $ check ! (([], append-nil a), λ e. absurd (n e), inl refl) $ done !

  pub longer : (a b : List E) → ent 𝓤 (Both-seen a b) (ex 𝓤 (Longer a b))
  longer a b = seen_by_name a b (ℕ_discrete θ η)
