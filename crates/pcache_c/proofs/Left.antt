-- What a call leaves that was refused.
use Rattle.pcache_c.specs.Codes.{nothing, wrong_call}
use Rattle.pcache_c.specs.Requests.{Reads, Views}
use Rattle.pcache_c.proofs.Words.{◌≡◌, ◌≢◌, ◌⊎◌, inl, inr, ℕ, List, Option, None, ErrorType, Parts, Outcome, code_of, ok, Fills, IsSame, PcacheHandle, Object, Open}

-- a handle that was not filled is as it was
pub fill_left : (x : Object) (old new : PcacheHandle) (code : ℕ) → Fills x old new code → code ≢ ok → IsSame old new
fill_left x old new code (inl f) bad = absurd (bad f.0)
fill_left x old new code (inr (inl f)) bad = f.2
fill_left x old new code (inr (inr f)) bad = f.2

module _ (done none : Type 0) (refused : ErrorType → Type 0) (same : Type 0) (code : ℕ) (P : Type 0) (bad : code ≢ ok) (s : same → P) (n : none → P) (r : (e : ErrorType) → refused e → P) where
  how_left : ((code ≡ ok) × done) ⊎ ((code ≡ wrong_call) × same) ⊎ ((code ≡ nothing) × none) ⊎ ((e : ErrorType) × (code ≡ code_of e) × refused e) → P
  how_left (inl h) = absurd (bad h.0)
  how_left (inr (inl h)) = s h.1
  how_left (inr (inr (inl h))) = n h.1
  how_left (inr (inr (inr h))) = r h.0 h.2

  -- what holds after each way in which a call was not done
  pub outcome_left : (may : Type 0) → Outcome may done none refused same code → P
  outcome_left may h = how_left h.how

-- a buffer that was not read to is as it was
pub read_left : (old new : List ℕ) (count more : ℕ) (c d : Parts) (o p : Open) (code : ℕ) → Reads old new count more c d o p code → code ≢ ok → new ≡ old
read_left old new count more c d o p code h bad = outcome_left _ _ _ _ code (new ≡ old) bad (λ s. s.1) (λ n. absurd n) (λ e r. r.buffer) _ h

-- the handle of a view that was not made has nothing
pub view_left : (view : Option Object) (count more : ℕ) (c d : Parts) (o p : Open) (code : ℕ) → Views view count more c d o p code → code ≢ ok → view ≡ None
view_left view count more c d o p code h bad = outcome_left _ _ _ _ code (view ≡ None) bad (λ s. s.1) (λ n. absurd n) (λ e r. r.none) _ h
