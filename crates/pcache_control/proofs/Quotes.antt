-- Where a quoted text is closed: as a scan finds it, byte by byte, and as it is defined.
use Rattle.std.proofs.Common.{suc, length-append, length-drop}
use Rattle.std.specs.Prelude.{◌==◌}
use Rattle.std.specs.List.{flat_map}
use Rattle.std.proofs.lemmas.Bool.{eqb-true, eqb-false, ne_eqb}
use Rattle.std.proofs.lemmas.List.Concat.{flat_map-cons}
use Rattle.std.proofs.lemmas.Option.{same_Some}
use Rattle.std.proofs.Math.Seq.{drop-cons}
use Rattle.std.proofs.lemmas.List.{nil_from_length}
use Rattle.pcache_control.specs.Directives.{IsUnit, IsClosed}
use Rattle.pcache_control.proofs.Words.{◌≡◌, ◌≢◌, ℕ, get_or, ◌+◌, ◌<◌, ◌≤◌, inl, inr, Bool, true, false, cond, List, [], ◌∷◌, ◌++◌, length, drop, Option, Some, None, refl, sym, ap, subst, ◌∙◌, append_assoc, arith, All, if◌then◌else◌, All-nil, All-cons, All-head, All-tail, IsTokenAt, IsLongestRun, IsText, HasValue}

-- the index after the quote that closes a text, from index `at` on; a backslash takes the next byte along
abbrev pub quote_end : Bool → ℕ → List ℕ → Option ℕ
quote_end escaped at [] = None
quote_end true at (b ∷ bytes) = if b == 0x0A then None else quote_end false (at + 1) bytes
quote_end false at (b ∷ bytes) =
    if b == 0x22 then Some (at + 1)
    else quote_end (b == 0x5C) (at + 1) bytes

abbrev joined : List (List ℕ) → List ℕ
joined units = flat_map (λ u. u) units

joined-cons : (u : List ℕ) (units : List (List ℕ)) → joined (u ∷ units) ≡ u ++ joined units
joined-cons u units = flat_map-cons (λ (x : List ℕ). x) u units

-- ---- what is defined is found

one_unit : (u : List ℕ) (at : ℕ) (rest : List ℕ) → IsUnit u → quote_end false at (u ++ rest) ≡ quote_end false (at + length u) rest
one_unit u at rest (inl (b, is, plain, bare)) =
    let P : List ℕ → Type 0 = λ x. quote_end false at (x ++ rest) ≡ quote_end false (at + length x) rest in
    let quote : (b == 0x22) ≡ false = ne_eqb b 0x22 plain in
    let slash : (b == 0x5C) ≡ false = ne_eqb b 0x5C bare in
    subst P (sym is) (rw (quote, slash) refl)
one_unit u at rest (inr (b, is, line)) =
    let P : List ℕ → Type 0 = λ x. quote_end false at (x ++ rest) ≡ quote_end false (at + length x) rest in
    let feed : (b == 0x0A) ≡ false = ne_eqb b 0x0A line in
    let two : at + 1 + 1 ≡ at + 2 = omega arith in
    subst P (sym is) (rw feed (ap (λ n. quote_end false n rest) two))

units_closed : (units : List (List ℕ)) (at : ℕ) (behind : List ℕ) → All IsUnit units → quote_end false at (joined units ++ 0x22 ∷ behind) ≡ Some (at + length (joined units) + 1)
units_closed [] at behind all = let sum : at + 1 ≡ at + 0 + 1 = omega arith in ap (λ n. Some n) sum
units_closed (u ∷ units) at behind all =
    let cons = joined-cons u units in
    let size : length (joined (u ∷ units)) ≡ length u + length (joined units) = ap (λ (x : List ℕ). length x) cons ∙ length-append u (joined units) in
    let sum : at + length u + length (joined units) + 1 ≡ at + length (joined (u ∷ units)) + 1 = omega (arith, size) in
    ap (λ (x : List ℕ). quote_end false at (x ++ 0x22 ∷ behind)) cons
    ∙ ap (quote_end false at) (append_assoc u (joined units) (0x22 ∷ behind))
    ∙ one_unit u at (joined units ++ 0x22 ∷ behind) (All-head IsUnit u units all)
    ∙ units_closed units (at + length u) behind (All-tail IsUnit u units all)
    ∙ ap (λ n. Some n) sum

pub closed_found : (line : List ℕ) (at end : ℕ) → IsClosed line at end → quote_end false at (drop at line) ≡ Some end
closed_found line at end closed =
    let (units, all, text) = closed.units in
    let bytes : drop at line ≡ joined units ++ 0x22 ∷ closed.behind = closed.whole ∙ ap (λ (x : List ℕ). x ++ 0x22 ∷ closed.behind) text in
    let place : at + length (joined units) + 1 ≡ end = ap (λ (x : List ℕ). at + length x + 1) (sym text) ∙ sym closed.ends in
    ap (quote_end false at) bytes ∙ units_closed units at closed.behind all ∙ ap (λ n. Some n) place

pub closed_once : (line : List ℕ) (at a b : ℕ) → IsClosed line at a → IsClosed line at b → a ≡ b
closed_once line at a b first second = same_Some a b (sym (closed_found line at a first) ∙ closed_found line at b second)

-- ---- what is found is so defined

record Found (at : ℕ) (bytes : List ℕ) (end : ℕ) : Type 0 where
  units : List (List ℕ)
  all : All IsUnit units
  behind : List ℕ
  whole : bytes ≡ joined units ++ 0x22 ∷ behind
  ends : end ≡ at + length (joined units) + 1

more : (u : List ℕ) (at next : ℕ) (rest : List ℕ) (end : ℕ) → IsUnit u → next ≡ at + length u → Found next rest end → Found at (u ++ rest) end
more u at next rest end unit place found =
    let cons = joined-cons u found.units in
    let size : length (joined (u ∷ found.units)) ≡ length u + length (joined found.units) = ap (λ (x : List ℕ). length x) cons ∙ length-append u (joined found.units) in
    record {
      units = u ∷ found.units;
      all = All-cons IsUnit u found.units unit found.all;
      behind = found.behind;
      whole = ap (λ (x : List ℕ). u ++ x) found.whole ∙ sym (append_assoc u (joined found.units) (0x22 ∷ found.behind)) ∙ ap (λ (x : List ℕ). x ++ 0x22 ∷ found.behind) (sym cons);
      ends = omega (arith, size, place, found.ends);
    }

-- a byte, with what is known of those after it
step : (b : ℕ) (bytes : List ℕ) (at end : ℕ) → quote_end false at (b ∷ bytes) ≡ Some end
    → (quote_end false (at + 1) bytes ≡ Some end → Found (at + 1) bytes end)
    → (quote_end true (at + 1) bytes ≡ Some end → (c : ℕ) × (rest : List ℕ) × (bytes ≡ c ∷ rest) × (c ≢ 0x0A) × Found (at + 1 + 1) rest end)
    → Found at (b ∷ bytes) end
step b bytes at end e later escaped = elim (b == 0x22) as (λ t. (b == 0x22) ≡ t → cond t (Some (at + 1)) (quote_end (b == 0x5C) (at + 1) bytes) ≡ Some end → Found at (b ∷ bytes) end) [
  | true ↦ λ t e.
      let place : at + 1 ≡ end = same_Some (at + 1) end e in
      let sum : at + 1 ≡ at + 0 + 1 = omega arith in
      record {
        units = [];
        all = All-nil IsUnit;
        behind = bytes;
        whole = ap (λ x. x ∷ bytes) (eqb-true b 0x22 t);
        ends = sym place ∙ sum;
      }
  | false ↦ λ t e. elim (b == 0x5C) as (λ s. (b == 0x5C) ≡ s → quote_end s (at + 1) bytes ≡ Some end → Found at (b ∷ bytes) end) [
    | false ↦ λ s e. more (b ∷ []) at (at + 1) bytes end (inl (b, refl, eqb-false b 0x22 t, eqb-false b 0x5C s)) refl (later e)
    | true ↦ λ s e.
        let next = escaped e in
        let P : List ℕ → Type 0 = λ x. Found at (b ∷ x) end in
        let place : at + 1 + 1 ≡ at + 2 = omega arith in
        subst P (sym next.2) (more (b ∷ next.0 ∷ []) at (at + 1 + 1) next.1 end (inr (next.0, ap (λ x. x ∷ next.0 ∷ []) (eqb-true b 0x5C s), next.3)) place next.4)
  ] refl e
] refl e

behind_slash : (c : ℕ) (bytes : List ℕ) (at end : ℕ) → (quote_end false (at + 1) bytes ≡ Some end → Found (at + 1) bytes end) → quote_end true at (c ∷ bytes) ≡ Some end
    → (d : ℕ) × (rest : List ℕ) × (c ∷ bytes ≡ d ∷ rest) × (d ≢ 0x0A) × Found (at + 1) rest end
behind_slash c bytes at end later e = elim (c == 0x0A)
    as (λ t. (c == 0x0A) ≡ t → cond t None (quote_end false (at + 1) bytes) ≡ Some end → (d : ℕ) × (rest : List ℕ) × (c ∷ bytes ≡ d ∷ rest) × (d ≢ 0x0A) × Found (at + 1) rest end) [
      | true ↦ λ t e. absurd cc
      | false ↦ λ t e. (c, bytes, refl, eqb-false c 0x0A t, later e)
    ] refl e

finds : (bytes : List ℕ) (at end : ℕ) → quote_end false at bytes ≡ Some end → Found at bytes end
finds [] at end e = absurd cc
finds (b ∷ []) at end e = step b [] at end e (λ n. absurd cc) (λ n. absurd cc)
finds (b ∷ c ∷ bytes) at end e = step b (c ∷ bytes) at end e (λ n. finds (c ∷ bytes) (at + 1) end n) (λ n. behind_slash c bytes (at + 1) end (λ m. finds bytes (at + 1 + 1) end m) n)

pub closed_from : (line : List ℕ) (at end : ℕ) → quote_end false at (drop at line) ≡ Some end → IsClosed line at end
closed_from line at end e =
    let found = finds (drop at line) at end e in
    record {
      text = joined found.units;
      behind = found.behind;
      units = (found.units, found.all, refl);
      whole = found.whole;
      ends = found.ends;
    }

pub never_closed : (line : List ℕ) (at end : ℕ) → quote_end false at (drop at line) ≡ None → IsClosed line at end → ⊥
never_closed line at end none closed = let both : ◌≡◌ {A = Option ℕ} None (Some end) = sym none ∙ closed_found line at end closed in cc both

-- ---- as a scan goes on, over what it knows at an index

at_byte : (escaped : Bool) (line : List ℕ) (i : ℕ) → i < length line → quote_end escaped i (drop i line) ≡ quote_end escaped i (get_or line i 0 ∷ drop (suc i) line)
at_byte escaped line i lt = ap (quote_end escaped i) (drop-cons line i 0 lt)

pub scan_stops : (line : List ℕ) (escaped : Bool) (at i end : ℕ) → quote_end escaped i (drop i line) ≡ quote_end false at (drop at line) → escaped ≡ true → i < length line → get_or line i 0 ≡ 0x0A
    → IsClosed line at end → ⊥
scan_stops line escaped at i end so_far is lt feed closed =
    let here : quote_end true i (get_or line i 0 ∷ drop (suc i) line) ≡ None = rw feed refl in
    never_closed line at end (sym so_far ∙ at_byte escaped line i lt ∙ ap (λ b. quote_end b i (get_or line i 0 ∷ drop (suc i) line)) is ∙ here) closed

pub scan_finds : (line : List ℕ) (escaped : Bool) (at i : ℕ) → quote_end escaped i (drop i line) ≡ quote_end false at (drop at line) → escaped ≡ false → i < length line → get_or line i 0 ≡ 0x22
    → IsClosed line at (i + 1)
scan_finds line escaped at i so_far is lt quote =
    let here : quote_end false i (get_or line i 0 ∷ drop (suc i) line) ≡ Some (i + 1) = rw quote refl in
    closed_from line at (i + 1) (sym so_far ∙ at_byte escaped line i lt ∙ ap (λ b. quote_end b i (get_or line i 0 ∷ drop (suc i) line)) is ∙ here)

pub scan_ends : (line : List ℕ) (escaped : Bool) (at i end : ℕ) → quote_end escaped i (drop i line) ≡ quote_end false at (drop at line) → length line ≤ i → IsClosed line at end → ⊥
scan_ends line escaped at i end so_far past closed =
    let none : drop i line ≡ [] = nil_from_length (drop i line) (omega (arith, length-drop i line, past)) in
    never_closed line at end (sym so_far ∙ ap (quote_end escaped i) none) closed

-- no value, if no token byte follows the equals sign and no quoted text is closed there
pub no_value : (line : List ℕ) (name_end e : ℕ) → IsLongestRun line (name_end + 1) e → (name_end + 1 < e → ⊥) → ((end : ℕ) → IsClosed line (name_end + 1 + 1) end → ⊥) → (v : ℕ × ℕ) → HasValue line name_end v → ⊥
no_value line name_end e run short never v value = by_text value.text where
  by_text : IsText line v → ⊥
  by_text (inl p) =
      let start = value.start in
      let place : e ≡ v.0 = omega (arith, run.order, short, start) in
      let token : IsTokenAt line v.0 = record { within = omega (arith, p.0, p.1.within); token = p.1.run v.0 (omega arith) p.0 } in
      run.longest (subst (IsTokenAt line) (sym place) token)
  by_text (inr q) = never v.1 (subst (λ n. IsClosed line (n + 1) v.1) value.start q.2)
