-- A run of digits, one digit further.
use Rattle.std.proofs.Common.{◌*◌}
use Rattle.std.specs.Char.{digit_value}
use Rattle.std.proofs.lemmas.Int.Digits.{digits_value_more}
use Rattle.std.proofs.lemmas.List.Folds.{list_all_more}
use Rattle.std.proofs.lemmas.Str.{digit_value_digit}
use Rattle.pcache_control.proofs.Words.{◌≡◌, ℕ, ◌+◌, ◌-◌, ◌<◌, ◌≤◌, Bool, true, List, length, take, get_or, min, arith, refl, ◌∙◌, is_ascii_digit, list_all, digits_value}

pub list_all_step : (p : ℕ → Bool) (xs : List ℕ) (i : ℕ) → i < length xs → list_all p (take i xs) ≡ true → p (get_or xs i 0) ≡ true
    → list_all p (take (i + 1) xs) ≡ true
list_all_step p xs i lt front here = list_all_more p xs i 0 lt ∙ rw (front, here) refl

digit_low : (b : ℕ) → is_ascii_digit b ≡ true → 48 ≤ b
digit_low b e = Prim.grind (arith, e)

digit_high : (b : ℕ) → is_ascii_digit b ≡ true → b ≤ 57
digit_high b e = Prim.grind (arith, e)

-- the value so far, cut at a limit, and one more digit
pub value_step : (xs : List ℕ) (i limit v new : ℕ) → i < length xs → is_ascii_digit (get_or xs i 0) ≡ true
    → v ≡ min (digits_value 10 (take i xs)) limit → new ≡ min (v * 10 + (get_or xs i 0 - 48)) limit
    → new ≡ min (digits_value 10 (take (i + 1) xs)) limit
value_step xs i limit v new lt digit before now =
    let low = digit_low (get_or xs i 0) digit in
    let high = digit_high (get_or xs i 0) digit in
    let is : digit_value (get_or xs i 0) + 48 ≡ get_or xs i 0 = digit_value_digit (get_or xs i 0) (low, high) in
    omega (arith, digits_value_more 10 xs i lt, is, before, now)
