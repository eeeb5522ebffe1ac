-- The directives of a field's lines, one more line at a time.
use Rattle.std.specs.List.{AllZip}
use Rattle.std.proofs.lemmas.List.{map-append}
use Rattle.std.proofs.lemmas.Slice.Zip.{all_zipped_more}
use Rattle.pcache_control.specs.Directives.{AreDirectives}
use Rattle.pcache_http.specs.Said.{directives_of, AreSaid}
use Rattle.pcache_http.proofs.Words.{◌≡◌, ℕ, List, [], ◌∷◌, ◌++◌, refl, sym, ap, ◌∙◌, subst, append_assoc, append-nil, FieldValue, Span, lines_of, directives_only, Directive, directive_in, directives_in}

pub directives_in-more : (line : List ℕ) (ys : List Span) (p : Span) → directives_in line (ys ++ p ∷ []) ≡ directives_in line ys ++ directive_in line p ∷ []
directives_in-more line ys p = map-append (directive_in line) ys (p ∷ [])

-- some lines of all were heard, and these are the directives of them
pub record IsHeardSoFar {L : Type 0} (Heard : L → List Directive → L → Type 0) (all rest : List FieldValue) (first now : L) : Type 0 where
  pub done : List FieldValue
  pub spans : List (List Span)
  pub parts : done ++ rest ≡ all
  pub found : AllZip AreDirectives (lines_of done) spans
  pub heard : (start : L) → Heard start [] first → Heard start (directives_of (lines_of done) spans) now

directives_of-push : (lines : List (List ℕ)) (spans : List (List Span)) (line : List ℕ) (last : List Span) → AllZip AreDirectives lines spans
    → directives_of (lines ++ line ∷ []) (spans ++ last ∷ []) ≡ directives_of lines spans ++ directives_in line last
directives_of-push [] [] line last zip = append-nil (directives_in line last)
directives_of-push [] (s ∷ ss) line last zip = absurd zip
directives_of-push (l ∷ ls) [] line last zip = absurd zip
directives_of-push (l ∷ ls) (s ∷ ss) line last zip =
    ap (λ xs. directives_in l s ++ xs) (directives_of-push ls ss line last zip.1)
    ∙ sym (append_assoc (directives_in l s) (directives_of ls ss) (directives_in line last))

lines_of-push : (done : List FieldValue) (v : FieldValue) → lines_of (done ++ v ∷ []) ≡ lines_of done ++ v.bytes ∷ []
lines_of-push [] v = refl
lines_of-push (d ∷ done) v = ap (λ xs. d.bytes ∷ xs) (lines_of-push done v)

spans_only : (lines : List (List ℕ)) (first second : List (List Span)) → AllZip AreDirectives lines first → AllZip AreDirectives lines second → first ≡ second
spans_only [] [] [] a b = refl
spans_only [] [] (s ∷ ss) a b = absurd b
spans_only [] (s ∷ ss) second a b = absurd a
spans_only (l ∷ ls) [] second a b = absurd a
spans_only (l ∷ ls) (s ∷ ss) [] a b = absurd b
spans_only (l ∷ ls) (s ∷ ss) (t ∷ ts) a b =
    let head : s ≡ t = directives_only l 0 s t a.0 b.0 in
    let tail : ss ≡ ts = spans_only ls ss ts a.1 b.1 in
    rw (head, tail) refl

module _ {L : Type 0} (Heard : L → List Directive → L → Type 0) where
  pub begins : (all : List FieldValue) (first : L) → IsHeardSoFar Heard all all first first
  begins all first = record { done = []; spans = []; parts = refl; found = tt; heard = λ start is. is }

  pub goes_on : (all rest later : List FieldValue) (v : FieldValue) (first before after : L)
      → rest ≡ v ∷ later → IsHeardSoFar Heard all rest first before → ((spans : List Span) × AreDirectives v.bytes spans)
      → ((start : L) (said : List Directive) (spans : List Span) → AreDirectives v.bytes spans → Heard start said before → Heard start (said ++ directives_in v.bytes spans) after)
      → IsHeardSoFar Heard all later first after
  goes_on all rest later v first before after step so_far there heard =
      let same = lines_of-push so_far.done v in
      let zip : AllZip AreDirectives (lines_of so_far.done ++ v.bytes ∷ []) (so_far.spans ++ there.0 ∷ []) =
      all_zipped_more AreDirectives (lines_of so_far.done) so_far.spans v.bytes there.0 so_far.found there.1 in
      let are : directives_of (lines_of so_far.done) so_far.spans ++ directives_in v.bytes there.0 ≡ directives_of (lines_of (so_far.done ++ v ∷ [])) (so_far.spans ++ there.0 ∷ []) =
      sym (directives_of-push (lines_of so_far.done) so_far.spans v.bytes there.0 so_far.found)
      ∙ ap (λ ls. directives_of ls (so_far.spans ++ there.0 ∷ [])) (sym same) in
      record {
        done = so_far.done ++ v ∷ [];
        spans = so_far.spans ++ there.0 ∷ [];
        parts = append_assoc so_far.done (v ∷ []) later ∙ ap (λ xs. so_far.done ++ xs) (sym step) ∙ so_far.parts;
        found = rw same zip;
        heard = λ start is. subst (λ ds. Heard start ds after) are
            (heard start (directives_of (lines_of so_far.done) so_far.spans) there.0 there.1 (so_far.heard start is));
      }

  pub ends : (all rest : List FieldValue) (first now : L) → rest ≡ [] → IsHeardSoFar Heard all rest first now
      → (start : L) (said : List Directive) → AreSaid (lines_of all) said → Heard start [] first → Heard start said now
  ends all rest first now none so_far start said is was =
      let whole : so_far.done ≡ all = sym (append-nil so_far.done) ∙ ap (λ xs. so_far.done ++ xs) (sym none) ∙ so_far.parts in
      let found : AllZip AreDirectives (lines_of all) so_far.spans = subst (λ ds. AllZip AreDirectives (lines_of ds) so_far.spans) whole so_far.found in
      let same : directives_of (lines_of so_far.done) so_far.spans ≡ said =
      ap (λ ds. directives_of (lines_of ds) so_far.spans) whole
      ∙ ap (λ ss. directives_of (lines_of all) ss) (spans_only (lines_of all) so_far.spans is.spans found is.found)
      ∙ sym is.are in
      subst (λ ds. Heard start ds now) same (so_far.heard start was)

  pub there : (all rest : List FieldValue) (first now : L) → rest ≡ [] → IsHeardSoFar Heard all rest first now
      → (said : List Directive) × AreSaid (lines_of all) said
  there all rest first now none so_far =
      let whole : so_far.done ≡ all = sym (append-nil so_far.done) ∙ ap (λ xs. so_far.done ++ xs) (sym none) ∙ so_far.parts in
      let found : AllZip AreDirectives (lines_of all) so_far.spans = subst (λ ds. AllZip AreDirectives (lines_of ds) so_far.spans) whole so_far.found in
      (directives_of (lines_of all) so_far.spans, record { spans = so_far.spans; found = found; are = refl })
