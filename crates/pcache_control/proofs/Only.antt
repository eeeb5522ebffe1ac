-- A line has one list of directives.
use Rattle.pcache_control.specs.Directives.{EndsWith}
use Rattle.pcache_control.proofs.Words.{◌≡◌, ℕ, ◌+◌, ◌≤◌, inl, inr, false, List, [], ◌∷◌, slice_index, Option, Some, None, refl, sym, ap, ◌∙◌, arith, cases_lt, is_token_byte, IsTokenAt, IsLongestRun, IsNextStart, IsText, HasValue, IsDirective, AreDirectivesFrom, Span}
use Rattle.pcache_control.proofs.Quotes.{closed_once}
use Rattle.pcache_control.proofs.Starts.{clash}

run_no_shorter : (line : List ℕ) (i j k : ℕ) → IsLongestRun line i j → IsLongestRun line i k → j ≤ k
run_no_shorter line i j k first second = elim (cases_lt k j) [
  | inl lt ↦
      let there : IsTokenAt line k = record { within = omega (arith, first.within); token = first.run k second.order lt } in
      absurd (second.longest there)
  | inr ge ↦ ge
]

run_only : (line : List ℕ) (i j k : ℕ) → IsLongestRun line i j → IsLongestRun line i k → j ≡ k
run_only line i j k first second =
    let a : j ≤ k = run_no_shorter line i j k first second in
    let b : k ≤ j = run_no_shorter line i k j second first in
    omega arith

-- a quote is no token byte
quote_no_token : (b : ℕ) → b ≡ 0x22 → is_token_byte b ≡ false
quote_no_token b e = rw e refl

text_only : (line : List ℕ) (start a b : ℕ) → IsText line (start, a) → IsText line (start, b) → a ≡ b
text_only line start a b (inl p) (inl q) = run_only line start a b p.1 q.1
text_only line start a b (inl p) (inr q) =
    absurd (clash (is_token_byte (slice_index line start)) (p.1.run start (omega arith) p.0) (quote_no_token (slice_index line start) q.1))
text_only line start a b (inr p) (inl q) =
    absurd (clash (is_token_byte (slice_index line start)) (q.1.run start (omega arith) q.0) (quote_no_token (slice_index line start) p.1))
text_only line start a b (inr p) (inr q) = closed_once line (start + 1) a b p.2 q.2

value_only : (line : List ℕ) (e : ℕ) (v w : ℕ × ℕ) → HasValue line e v → HasValue line e w → v ≡ w
value_only line e v w first second =
    let start : v.0 ≡ w.0 = first.start ∙ sym second.start in
    let text : IsText line (w.0, v.1) = rw (← start) first.text in
    let end : v.1 ≡ w.1 = text_only line w.0 v.1 w.1 text second.text in
    rw (start, end) refl

ends_only : (line : List ℕ) (e : ℕ) (v w : Option (ℕ × ℕ)) (a b : ℕ) → EndsWith line e v a → EndsWith line e w b → (v ≡ w) × (a ≡ b)
ends_only line e None None a b first second = (refl, first.0 ∙ sym second.0)
ends_only line e None (Some w) a b first second = absurd (first.1 w second.1)
ends_only line e (Some v) None a b first second = absurd (second.1 v first.1)
ends_only line e (Some v) (Some w) a b first second =
    let same : v ≡ w = value_only line e v w first.1 second.1 in
    (ap (λ (x : ℕ × ℕ). Some x) same, first.0 ∙ ap (λ (x : ℕ × ℕ). x.1) same ∙ sym second.0)

abbrev span_of : ℕ → ℕ → Option (ℕ × ℕ) → ℕ → Span
span_of start name_end value end = record { start = start; name_end = name_end; value = value; end = end }

same_span : (p q : Span) → p.start ≡ q.start → p.name_end ≡ q.name_end → p.value ≡ q.value → p.end ≡ q.end → p ≡ q
same_span p q a b c d =
    let e : span_of p.start p.name_end p.value p.end ≡ span_of q.start q.name_end q.value q.end = rw (a, b, c, d) refl in
    e

directive_only : (line : List ℕ) (p q : Span) → p.start ≡ q.start → IsDirective line p → IsDirective line q → p ≡ q
directive_only line p q start first second =
    let name : p.name_end ≡ q.name_end = run_only line q.start p.name_end q.name_end (rw (← start) first.name) second.name in
    let rest = ends_only line q.name_end p.value q.value p.end q.end (rw (← name) first.value) second.value in
    same_span p q start name rest.0 rest.1

next_no_later : (line : List ℕ) (from s t : ℕ) → IsNextStart line from s → IsNextStart line from t → s ≤ t
next_no_later line from s t first second = elim (cases_lt t s) [
  | inl lt ↦ absurd (first.none_before t second.behind lt second.admitted)
  | inr ge ↦ ge
]

pub directives_only : (line : List ℕ) (from : ℕ) (ps qs : List Span) → AreDirectivesFrom line from ps → AreDirectivesFrom line from qs → ps ≡ qs
directives_only line from [] [] first second = refl
directives_only line from [] (q ∷ qs) first second = absurd (first q.start second.0.behind second.0.admitted)
directives_only line from (p ∷ ps) [] first second = absurd (second p.start first.0.behind first.0.admitted)
directives_only line from (p ∷ ps) (q ∷ qs) first second =
    let a : p.start ≤ q.start = next_no_later line from p.start q.start first.0 second.0 in
    let b : q.start ≤ p.start = next_no_later line from q.start p.start second.0 first.0 in
    let same : p ≡ q = directive_only line p q (omega arith) first.1 second.1 in
    let end : p.end ≡ q.end = ap (λ (x : Span). x.end) same in
    let rest : ps ≡ qs = directives_only line q.end ps qs (rw (← end) first.2) second.2 in
    rw (same, rest) refl
