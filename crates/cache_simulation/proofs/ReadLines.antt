-- The requests of lines, one part after the other.
use Rattle.cache_simulation.specs.declared.player.Player.{Player}
use Rattle.cache_simulation.specs.declared.report.Row.{Row}
use Rattle.cache_simulation.specs.declared.runs.Runs.{Runs}
use Rattle.cache_simulation.specs.Reading.{request_of}
use Rattle.cache_simulation.specs.Sampled.{expected, expected_bytes}
use Rattle.cache_simulation.proofs.Words.{◌≡◌, ◌+◌, length, List, [], ◌++◌, ◌∷◌, ap, sym, subst, ◌∙◌, cons_option, append_assoc, filter_map-append, Span, Setting, Request, HasPlayed, IsRow, Line, requests_of, bytes_in, HasAsked, IsRowOf}

pub moved-on : (s t : Setting) (before lines : List Line) (runs : Runs) → t ≡ s → HasPlayed (requests_of s before ++ requests_of s lines) [] runs → HasPlayed (requests_of t (before ++ lines)) [] runs
moved-on s t before lines runs same h =
    subst (λ (r : List Request). HasPlayed r [] runs) (sym (filter_map-append (request_of s) before lines) ∙ ap (λ x. requests_of x (before ++ lines)) (sym same)) h

-- one more line
pub read-on : (s t : Setting) (before lines : List Line) (l : Line) (p : Player) → t ≡ s → HasAsked (requests_of s before) (requests_of s lines ++ cons_option (request_of s l) []) p → HasAsked (requests_of t before) (requests_of t (lines ++ l ∷ [])) p
read-on s t before lines l p same h =
    subst (λ (x : Setting). HasAsked (requests_of x before) (requests_of x (lines ++ l ∷ [])) p) (sym same)
    (subst (λ (r : List Request). HasAsked (requests_of s before) r p) (sym (filter_map-append (request_of s) lines (l ∷ []))) h)

-- a row of the requests made is a row of the lines that were read
pub row-of : (setting other : Setting) (span : Span) (before lines : List Line) (row : Row) → other ≡ setting → span.from ≡ length before → span.until ≡ length before + length lines → span.all.requests ≡ length lines → span.all.bytes ≡ bytes_in lines
    → IsRow other span (requests_of setting before) (requests_of setting lines) row → IsRowOf setting before lines row
row-of setting other span before lines row same begins ends requests bytes is =
    let h = subst (λ (x : Setting). IsRow x span (requests_of setting before) (requests_of setting lines) row) same is in
    record {
      by = h.by;
      ran = h.ran;
      begins = h.begins ∙ begins;
      ends = h.ends ∙ ends;
      requests = h.requests ∙ ap (expected setting.sample.rate) requests;
      bytes = h.bytes ∙ ap (expected_bytes setting.sample.rate) bytes;
    }

-- the same requests of the same setting
pub kept-on : (s t : Setting) (before lines : List Line) (p : Player) → t ≡ s → HasAsked (requests_of s before) (requests_of s lines) p → HasAsked (requests_of t before) (requests_of t lines) p
kept-on s t before lines p same h = subst (λ (x : Setting). HasAsked (requests_of x before) (requests_of x lines) p) (sym same) h

-- one more request waits
pub waits-on : (asked made batch pushed : List Request) (r s : Request) → asked ≡ made ++ batch → pushed ≡ batch ++ s ∷ [] → s ≡ r → asked ++ r ∷ [] ≡ made ++ pushed
waits-on asked made batch pushed r s is more same =
    ap (λ x. x ++ r ∷ []) is ∙ append_assoc made batch (r ∷ []) ∙ ap (λ x. made ++ x) (sym (more ∙ ap (λ x. batch ++ x ∷ []) same))
