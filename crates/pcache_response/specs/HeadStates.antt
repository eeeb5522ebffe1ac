-- How the code finds the end of a head, byte by byte (own; `HeadEnd` defines where it is).
use Rattle.std.specs.Prelude.{◌≡◌, ◌≢◌, ℕ, ◌<◌, ◌≤◌, List, length, take, fold, ◌==◌, if◌then◌else◌}
use Rattle.pcache_response.specs.declared.head_end.HeadState.{HeadState}
use Rattle.pcache_response.specs.declared.head_end.HeadState.TheVariants.{Blank, BlankReturn, Inside, LineStart, LineReturn, Ended}

-- the state after byte b
abbrev pub next : HeadState → ℕ → HeadState
next Blank b = if b == 10 then Blank else if b == 13 then BlankReturn else Inside
next BlankReturn b = if b == 10 then Blank else Inside
next Inside b = if b == 10 then LineStart else Inside
next LineStart b = if b == 10 then Ended else if b == 13 then LineReturn else Inside
next LineReturn b = if b == 10 then Ended else Inside
next Ended b = Ended

-- the state after these bytes
abbrev pub state_after : HeadState → List ℕ → HeadState
state_after p bytes = fold next p bytes

-- the head ends after the first n bytes, and not before
pub record CutsAt (p : HeadState) (bytes : List ℕ) (n : ℕ) : Type 0 where
  pub within : n ≤ length bytes
  pub ended : state_after p (take n bytes) ≡ Ended
  pub no_sooner : (k : ℕ) → k < n → state_after p (take k bytes) ≢ Ended

-- the head does not end within these bytes
abbrev pub NeverCuts : List ℕ → Type 0
NeverCuts bytes = (k : ℕ) → k ≤ length bytes → state_after Blank (take k bytes) ≢ Ended
