-- The count of a body's bytes, and its limit (own).
use Rattle.std.specs.Prelude.{ℕ}

-- the number of counted bytes, and the largest allowed one
pub record Counted : Type 0 where
  pub bytes : ℕ
  pub limit : ℕ
