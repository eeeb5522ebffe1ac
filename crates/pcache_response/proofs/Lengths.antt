-- Lengths that are spelled in digits.
use Rattle.std.specs.Str.{IsAscii}
use Rattle.std.specs.Str.Parse.{AllDigits, IsNumeral, without_leading_plus}
use Rattle.std.proofs.lemmas.Str.Ascii.{IsAscii-nil, IsAscii-cons}
use Rattle.std.proofs.lemmas.Str.Parse.{digit_from_value}
use Rattle.pcache_response.proofs.Words.{◌≡◌, ℕ, Bool, true, false, cond, List, [], ◌∷◌, drop, refl, arith, ◌==◌, eqb-true}

digits_are_ascii : (ds : List ℕ) → AllDigits 10 ds → IsAscii ds
digits_are_ascii [] all = IsAscii-nil
digits_are_ascii (c ∷ cs) all =
    let range = digit_from_value c all.0 in
    IsAscii-cons c cs (omega (arith, range.1)) (digits_are_ascii cs all.1)

by_plus : (c : ℕ) (cs : List ℕ) (b : Bool) → (c == 43) ≡ b → AllDigits 10 (drop (cond b 1 0) (c ∷ cs)) → IsAscii (c ∷ cs)
by_plus c cs true plus all = let e : c ≡ 43 = eqb-true c 43 plus in IsAscii-cons c cs (omega (arith, e)) (digits_are_ascii cs all)
by_plus c cs false plus all = digits_are_ascii (c ∷ cs) all

-- a number is ASCII
pub numeral_is_ascii : (bytes : List ℕ) → IsNumeral 10 (without_leading_plus bytes) → IsAscii bytes
numeral_is_ascii [] h = IsAscii-nil
numeral_is_ascii (c ∷ cs) h = by_plus c cs (c == 43) refl h.1
