-- The lines of a head's text, one after the other.
use Rattle.std.specs.Prelude.{◌==◌, if◌then◌else◌}
use Rattle.pcache_meta.specs.HeaderReading.{field_at, append_at, fields_from, fields_at}
use Rattle.pcache_meta.proofs.Words.{◌≡◌, ℕ, ◌<◌, ◌≤◌, true, false, eqb, List, [], ◌∷◌, ◌++◌, length, Some, None, refl, sym, ap, ◌∙◌, arith, inl, inr, ◌&&◌, Option, some_pair_parts, Fields, Field, line_from, ◌>>=◌, Fails, FailsOrWants, ErrorType}
use Rattle.pcache_meta.proofs.Exact.{chosen}
use Rattle.pcache_meta.proofs.Refusals.{FailsOrWants-along, FailsOrWants-from_fails}

pub line_from_short : (front bytes : List ℕ) → length bytes ≤ 1 → line_from front bytes ≡ None
line_from_short front [] short = refl
line_from_short front (a ∷ []) short = refl
line_from_short front (a ∷ b ∷ bytes) short = absurd (omega arith)

pub line_shorter : (front bytes text behind : List ℕ) → line_from front bytes ≡ Some (text, behind) → length behind < length bytes
line_shorter front [] text behind e = absurd cc
line_shorter front (a ∷ []) text behind e = absurd cc
line_shorter front (a ∷ b ∷ bytes) text behind e = elim (chosen (eqb a 0x0D && eqb b 0x0A) _ _ _ e) [
  | inl p ↦ let size = ap (λ (r : List ℕ). length r) ((some_pair_parts front text bytes behind p.1).1) in omega (arith, size)
  | inr p ↦ omega (arith, line_shorter (front ++ a ∷ []) (b ∷ bytes) text behind p.1)
]

-- what a line says of the map that all lines make
abbrev pub line_then : Fields → List ℕ → List ℕ → Option Fields
line_then m text behind =
    if length text == 0 then (if length behind == 0 then Some m else None)
    else (field_at text >>= λ f. append_at m f >>= λ n. fields_from [] n behind)

line_step : (front : List ℕ) (m : Fields) (bytes text behind : List ℕ) → line_from front bytes ≡ Some (text, behind) → fields_from front m bytes ≡ line_then m text behind
line_step front m [] text behind e = absurd cc
line_step front m (a ∷ []) text behind e = absurd cc
line_step front m (a ∷ b ∷ bytes) text behind e = elim (chosen (eqb a 0x0D && eqb b 0x0A) _ _ _ e) [
  | inl p ↦ let same = some_pair_parts front text bytes behind p.1 in rw (p.0, ← same.0, ← same.1) refl
  | inr p ↦ rw p.0 (line_step (front ++ a ∷ []) m (b ∷ bytes) text behind p.1)
]

line_none : (front : List ℕ) (m : Fields) (bytes : List ℕ) → line_from front bytes ≡ None → fields_from front m bytes ≡ None
line_none front m [] e = refl
line_none front m (a ∷ []) e = refl
line_none front m (a ∷ b ∷ bytes) e = elim (chosen (eqb a 0x0D && eqb b 0x0A) _ _ _ e) [
  | inl p ↦ absurd (cc p.1)
  | inr p ↦ rw p.0 (line_none (front ++ a ∷ []) m (b ∷ bytes) p.1)
]

pub fields_step : (m : Fields) (bytes text behind : List ℕ) → line_from [] bytes ≡ Some (text, behind) → fields_at m bytes ≡ line_then m text behind
unfolding fields_at
fields_step m bytes text behind e = line_step [] m bytes text behind e

pub fields_none : (m : Fields) (bytes : List ℕ) → line_from [] bytes ≡ None → fields_at m bytes ≡ None
unfolding fields_at
fields_none m bytes e = line_none [] m bytes e

-- ---- the same as a loop goes through the lines; total is what all of them make

pub no_line : (e : ErrorType) (m : Fields) (rest : List ℕ) (total : Option Fields) → Fails e (line_from [] rest) → fields_at m rest ≡ total → FailsOrWants e total
no_line e m rest total h so_far = FailsOrWants-from_fails e (line_from [] rest) total h (λ none. sym so_far ∙ fields_none m rest none)

pub no_field : (e : ErrorType) (m : Fields) (rest text behind : List ℕ) (total : Option Fields) → line_from [] rest ≡ Some (text, behind)
    → eqb (length text) 0 ≡ false → FailsOrWants e (field_at text) → fields_at m rest ≡ total → FailsOrWants e total
no_field e m rest text behind total line some h so_far =
    FailsOrWants-along e (field_at text) total h (λ none. sym so_far ∙ fields_step m rest text behind line ∙ rw (some, none) refl)

pub no_room : (e : ErrorType) (m : Fields) (rest text behind : List ℕ) (f : Field) (total : Option Fields) → line_from [] rest ≡ Some (text, behind)
    → eqb (length text) 0 ≡ false → field_at text ≡ Some f → FailsOrWants e (append_at m f) → fields_at m rest ≡ total → FailsOrWants e total
no_room e m rest text behind f total line some field h so_far =
    FailsOrWants-along e (append_at m f) total h (λ none. sym so_far ∙ fields_step m rest text behind line ∙ rw (some, field, none) refl)

pub goes_on : (m : Fields) (rest text behind : List ℕ) (f : Field) (n : Fields) (total : Option Fields) → line_from [] rest ≡ Some (text, behind)
    → eqb (length text) 0 ≡ false → field_at text ≡ Some f → append_at m f ≡ Some n → fields_at m rest ≡ total → fields_at n behind ≡ total
unfolding fields_at
goes_on m rest text behind f n total line some field held so_far =
    sym (line_step [] m rest text behind line ∙ rw (some, field, held) refl) ∙ so_far

pub done : (m : Fields) (rest text behind : List ℕ) (total : Option Fields) → line_from [] rest ≡ Some (text, behind) → eqb (length text) 0 ≡ true
    → eqb (length behind) 0 ≡ true → fields_at m rest ≡ total → total ≡ Some m
done m rest text behind total line none end so_far = sym so_far ∙ fields_step m rest text behind line ∙ rw (none, end) refl

pub trailing : (m : Fields) (rest text behind : List ℕ) (total : Option Fields) → line_from [] rest ≡ Some (text, behind) → eqb (length text) 0 ≡ true
    → eqb (length behind) 0 ≡ false → fields_at m rest ≡ total → total ≡ None
trailing m rest text behind total line none more so_far = sym so_far ∙ fields_step m rest text behind line ∙ rw (none, more) refl
