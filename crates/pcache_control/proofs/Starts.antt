-- Where a directive may start.
use Rattle.std.proofs.Common.{ltb}
use Rattle.std.proofs.lemmas.Bool.{le-ltb}
use Rattle.pcache_control.specs.Directives.{IsWhiteSpaceRun}
use Rattle.pcache_control.proofs.Words.{◌≡◌, ℕ, ◌+◌, ◌≤◌, inl, inr, Bool, true, false, List, slice_index, refl, arith, cases_lt, is_token_byte, is_white_space, IsTokenAt, Leads}

-- a test does not go both ways
pub clash : (b : Bool) → b ≡ true → b ≡ false → ⊥
clash true p q = absurd cc
clash false p q = absurd cc

-- white space is no token byte
pub white_space_no_token : (b : ℕ) → is_white_space b ≡ true → is_token_byte b ≡ false
white_space_no_token b e =
    let low : b ≤ 0x20 = Prim.grind (arith, e) in
    let above : ltb 0x20 b ≡ false = le-ltb 0x20 b low in
    rw above refl

-- a delimiter leads to the byte after its white space alone
pub Leads_end : (line : List ℕ) (d s e : ℕ) → Leads line d s → IsWhiteSpaceRun line (d + 1) e → s ≡ e
Leads_end line d s e leads run = elim (cases_lt s e) [
  | inl lt ↦
      let white = run.run s (omega (arith, leads.order)) lt in
      absurd (clash _ leads.start.token (white_space_no_token (slice_index line s) white))
  | inr ge ↦ elim (cases_lt e s) [
    | inl lt ↦
        let white = leads.between e (omega (arith, run.order)) lt in
        absurd (clash _ white (run.longest (omega (arith, leads.start.within))))
    | inr ge2 ↦ omega arith
  ]
]

-- no start, if the byte after the white space is not one
pub Leads_none : (line : List ℕ) (d e : ℕ) → IsWhiteSpaceRun line (d + 1) e → (IsTokenAt line e → ⊥) → (s : ℕ) → Leads line d s → ⊥
Leads_none line d e run none s leads =
    let same : s ≡ e = Leads_end line d s e leads run in
    none (rw (← same) leads.start)
