-- The end of a line, found by searching for its CR.
use Rattle.std.specs.Prelude.{slice_index}
use Rattle.std.proofs.lemmas.List.{take_more, drop_more, drop-drop}
use Rattle.std.proofs.Math.Seq.{take-add}
use Rattle.memchr.specs.Find.{is_byte, Nowhere, Passes}
use Rattle.pcache_meta.proofs.Words.{◌≡◌, ℕ, zero, suc, ◌+◌, ◌<◌, false, eqb, List, [], ◌∷◌, ◌++◌, length, take, drop, refl, sym, ap, ◌∙◌, append_assoc, arith, ◌&&◌, eqb-true, append-nil, line_from}
use Rattle.pcache_meta.proofs.HeaderNames.{not_true, and_parts}

step : (front : List ℕ) (a : ℕ) (bytes : List ℕ) → eqb a 0x0D ≡ false → line_from (front ++ a ∷ []) bytes ≡ line_from front (a ∷ bytes)
step front a [] other = refl
step front a (b ∷ bytes) other = rw other refl

-- bytes without a CR stay in the line
pub skip : (front bytes : List ℕ) (k : ℕ) → ((j : ℕ) → j < k → j < length bytes → eqb (slice_index bytes j) 0x0D ≡ false)
    → line_from (front ++ take k bytes) (drop k bytes) ≡ line_from front bytes
skip front bytes zero none = ap (λ (x : List ℕ). line_from x bytes) (append-nil front)
skip front [] (suc k) none = ap (λ (x : List ℕ). line_from x []) (append-nil front)
skip front (a ∷ bytes) (suc k) none =
    let first : eqb a 0x0D ≡ false = none 0 (omega arith) (omega arith) in
    let later = skip (front ++ a ∷ []) bytes k (λ j below within. none (suc j) (omega (arith, below)) (omega (arith, within))) in
    ap (λ (x : List ℕ). line_from x (drop k bytes)) (sym (append_assoc front (a ∷ []) (take k bytes))) ∙ later ∙ step front a bytes first

no_return : (bytes : List ℕ) (k : ℕ) → Nowhere (Passes (is_byte 0x0D) bytes) 0 k → (j : ℕ) → j < k → j < length bytes → eqb (slice_index bytes j) 0x0D ≡ false
no_return bytes k none j below within = not_true (eqb (slice_index bytes j) 0x0D) (λ e. none j (omega arith) below e)

pub stays : (front bytes : List ℕ) (k : ℕ) → Nowhere (Passes (is_byte 0x0D) bytes) 0 k → line_from (front ++ take k bytes) (drop k bytes) ≡ line_from front bytes
stays front bytes k none = skip front bytes k (no_return bytes k none)

-- the same from a place in the bytes on
pub stays_on : (bytes part : List ℕ) (n r : ℕ) → part ≡ drop n bytes → ((front : List ℕ) → line_from (front ++ take r part) (drop r part) ≡ line_from front part)
    → line_from (take (n + r) bytes) (drop (n + r) bytes) ≡ line_from (take n bytes) (drop n bytes)
stays_on bytes part n r is stay =
    ap (λ (x : List ℕ). line_from x (drop (n + r) bytes)) (take-add n r bytes)
    ∙ ap (λ (x : List ℕ). line_from (take n bytes ++ take r (drop n bytes)) x) (sym (drop-drop r n bytes))
    ∙ rw (← is) (stay (take n bytes))

pair : (front : List ℕ) (a b : ℕ) (bytes : List ℕ) → (eqb a 0x0D && eqb b 0x0A) ≡ false → line_from (front ++ a ∷ []) (b ∷ bytes) ≡ line_from front (a ∷ b ∷ bytes)
pair front a b bytes other = rw other refl

-- a byte that no line ends with stays in the line
pub past : (bytes : List ℕ) (i : ℕ) → i + 1 < length bytes → (slice_index bytes i ≡ 0x0D → slice_index bytes (i + 1) ≡ 0x0A → ⊥)
    → line_from (take (i + 1) bytes) (drop (i + 1) bytes) ≡ line_from (take i bytes) (drop i bytes)
past bytes i within never =
    let a : ℕ = slice_index bytes i in
    let b : ℕ = slice_index bytes (i + 1) in
    let rest : List ℕ = drop (i + 1 + 1) bytes in
    let other : (eqb a 0x0D && eqb b 0x0A) ≡ false =
    not_true (eqb a 0x0D && eqb b 0x0A) (λ e. let both = and_parts (eqb a 0x0D) (eqb b 0x0A) e in never (eqb-true a 0x0D both.0) (eqb-true b 0x0A both.1)) in
    let second : drop (i + 1) bytes ≡ b ∷ rest = drop_more bytes (i + 1) 0 within in
    ap (λ (x : List ℕ). line_from x (drop (i + 1) bytes)) (take_more bytes i 0 (omega (arith, within)))
    ∙ ap (λ (x : List ℕ). line_from (take i bytes ++ a ∷ []) x) second
    ∙ pair (take i bytes) a b rest other
    ∙ ap (λ (x : List ℕ). line_from (take i bytes) (a ∷ x)) (sym second)
    ∙ ap (λ (x : List ℕ). line_from (take i bytes) x) (sym (drop_more bytes i 0 (omega (arith, within))))
