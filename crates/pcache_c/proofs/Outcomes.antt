-- How a call ended.
use Rattle.pcache_c.proofs.Words.{◌≡◌, ◌≢◌, ◌⊎◌, ℕ, inl, inr, refl, sym, suc-ne-zero, ErrorType, Outcome, code_of, ok}
use Rattle.pcache_c.specs.Codes.{wrong_call}

pub outcome_done : (may done none : Type 0) (refused : ErrorType → Type 0) (same : Type 0) → may → done → Outcome may done none refused same ok
outcome_done may done none refused same m d = record { wrong = ((λ e. absurd (suc-ne-zero 6 (sym e))), (λ no. absurd (no m))); how = inl (refl, d) }

pub outcome_refused : (may done none : Type 0) (refused : ErrorType → Type 0) (same : Type 0) (code : ℕ) (e : ErrorType) → may → code ≡ code_of e → code ≢ wrong_call → refused e → Outcome may done none refused same code
outcome_refused may done none refused same code e m is other r = record { wrong = ((λ so. absurd (other so)), (λ no. absurd (no m))); how = inr (inr (inr (e, is, r))) }
