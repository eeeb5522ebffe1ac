-- The directives of a field's lines, one more line at a time.
use Rattle.std.specs.List.{AllZip}
use Rattle.std.proofs.lemmas.Slice.Zip.{all_zipped_more}
use Rattle.pcache_control.specs.Maps.{all_directives, by_name, lines_of, AreNamed, AreRead, AreReadOnce}
use Rattle.pcache_control.proofs.Words.{◌≡◌, ℕ, List, [], ◌∷◌, ◌++◌, Option, refl, sym, ap, ◌∙◌, append_assoc, append-nil, bytes_eq, fold-append, FieldValue, insert_all, insert_entry, DirectiveKey, Span, DirectiveValue, AreDirectives, entries_of, directives_at}
use Rattle.pcache_control.proofs.Keys.{AreNamed-nil}
use Rattle.pcache_control.proofs.Only.{directives_only}

-- some lines of all were read, and these are the directives of them
pub record IsReadSoFar (all rest : List FieldValue) (entries : List (DirectiveKey × Option DirectiveValue)) : Type 0 where
  pub done : List FieldValue
  pub spans : List (List Span)
  pub parts : done ++ rest ≡ all
  pub found : AllZip AreDirectives (lines_of done) spans
  pub added : entries_of entries ≡ insert_all bytes_eq [] (all_directives (lines_of done) spans)
  pub named : AreNamed entries

pub begins : (all : List FieldValue) → IsReadSoFar all all []
begins all = record { done = []; spans = []; parts = refl; found = tt; added = refl; named = AreNamed-nil }

all_directives-push : (lines : List (List ℕ)) (spans : List (List Span)) (line : List ℕ) (last : List Span) → AllZip AreDirectives lines spans
    → all_directives (lines ++ line ∷ []) (spans ++ last ∷ []) ≡ all_directives lines spans ++ directives_at line last
all_directives-push [] [] line last zip = append-nil (directives_at line last)
all_directives-push [] (s ∷ ss) line last zip = absurd zip
all_directives-push (l ∷ ls) [] line last zip = absurd zip
all_directives-push (l ∷ ls) (s ∷ ss) line last zip =
    ap (λ xs. directives_at l s ++ xs) (all_directives-push ls ss line last zip.1)
    ∙ sym (append_assoc (directives_at l s) (all_directives ls ss) (directives_at line last))

lines_of-push : (done : List FieldValue) (v : FieldValue) → lines_of (done ++ v ∷ []) ≡ lines_of done ++ v.bytes ∷ []
lines_of-push [] v = refl
lines_of-push (d ∷ done) v = ap (λ xs. d.bytes ∷ xs) (lines_of-push done v)

pub goes_on : (all rest later : List FieldValue) (v : FieldValue) (before after : List (DirectiveKey × Option DirectiveValue))
    → rest ≡ v ∷ later → IsReadSoFar all rest before → ((spans : List Span) × AreDirectives v.bytes spans)
    → ((spans : List Span) → AreDirectives v.bytes spans → entries_of after ≡ insert_all bytes_eq (entries_of before) (directives_at v.bytes spans))
    → AreNamed after → IsReadSoFar all later after
goes_on all rest later v before after step so_far there added named =
    let same = lines_of-push so_far.done v in
    let zip : AllZip AreDirectives (lines_of so_far.done ++ v.bytes ∷ []) (so_far.spans ++ there.0 ∷ []) =
    all_zipped_more AreDirectives (lines_of so_far.done) so_far.spans v.bytes there.0 so_far.found there.1 in
    record {
      done = so_far.done ++ v ∷ [];
      spans = so_far.spans ++ there.0 ∷ [];
      parts = append_assoc so_far.done (v ∷ []) later ∙ ap (λ xs. so_far.done ++ xs) (sym step) ∙ so_far.parts;
      found = rw same zip;
      added =
          added there.0 there.1
          ∙ ap (λ es. insert_all bytes_eq es (directives_at v.bytes there.0)) so_far.added
          ∙ sym (fold-append (λ done p. insert_entry bytes_eq done p.0 p.1) [] (all_directives (lines_of so_far.done) so_far.spans) (directives_at v.bytes there.0))
          ∙ ap (insert_all bytes_eq []) (sym (all_directives-push (lines_of so_far.done) so_far.spans v.bytes there.0 so_far.found))
          ∙ ap (λ ls. insert_all bytes_eq [] (all_directives ls (so_far.spans ++ there.0 ∷ []))) (sym same);
      named = named;
    }

pub ends : (all rest : List FieldValue) (entries : List (DirectiveKey × Option DirectiveValue)) → rest ≡ [] → IsReadSoFar all rest entries → AreRead (lines_of all) entries
ends all rest entries none so_far =
    let whole : so_far.done ≡ all = sym (append-nil so_far.done) ∙ ap (λ xs. so_far.done ++ xs) (sym none) ∙ so_far.parts in
    record {
      spans = so_far.spans;
      found = rw (← whole) so_far.found;
      directives = rw (← whole) so_far.added;
      named = so_far.named;
    }

spans_only : (lines : List (List ℕ)) (first second : List (List Span)) → AllZip AreDirectives lines first → AllZip AreDirectives lines second → first ≡ second
spans_only [] [] [] a b = refl
spans_only [] [] (s ∷ ss) a b = absurd b
spans_only [] (s ∷ ss) second a b = absurd a
spans_only (l ∷ ls) [] second a b = absurd a
spans_only (l ∷ ls) (s ∷ ss) [] a b = absurd b
spans_only (l ∷ ls) (s ∷ ss) (t ∷ ts) a b =
    let head : s ≡ t = directives_only l 0 s t a.0 b.0 in
    let tail : ss ≡ ts = spans_only ls ss ts a.1 b.1 in
    rw (head, tail) refl

pub once : (lines : List (List ℕ)) (entries : List (DirectiveKey × Option DirectiveValue)) → AreRead lines entries → AreReadOnce lines entries
once lines entries read spans found = read.directives ∙ ap (λ s. by_name (all_directives lines s)) (spans_only lines read.spans spans read.found found)
