-- Bytes that are no text.
use Rattle.std.specs.Str.{is_utf8, IsUtf8}
use Rattle.std.proofs.lemmas.Str.{IsUtf8-from_is_utf8}
use Rattle.pcache_control.proofs.Words.{◌≡◌, ℕ, Bool, true, false, List, refl}

not_true : (b : Bool) → (b ≡ true → ⊥) → b ≡ false
not_true true none = absurd (none refl)
not_true false none = refl

pub not_text : (bytes : List ℕ) → (IsUtf8 bytes → ⊥) → is_utf8 bytes ≡ false
not_text bytes none = not_true (is_utf8 bytes) (λ e. none (IsUtf8-from_is_utf8 bytes e))
