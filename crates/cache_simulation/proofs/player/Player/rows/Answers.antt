use Rattle.std.proofs.lemmas.List.Elements.{All-weaker}
use Rattle.cache_simulation.proofs.Words.{◌≡◌, ◌∙◌, ◌++◌, ◌+◌, length, List, ap, sym, arith, append-nil, Span, Request, IsRow, IsRowOf, requests_of, bytes_in}
use Rattle.cache_simulation.proofs.ReadLines.{row-of, kept-on}
use Rattle.cache_simulation.proofs.player.Player.rows.Goals as goal

pub returns-clause-rows : goal.returns-clause-rows
returns-clause-rows g c = λ before lines read.
    let setting = c.args.self.now.runs.setting in
    let other = c.play.new.self.runs.setting in
    let span : Span = record { from = c.play.new.self.from; until = c.in_ok-until.field-0; all = c.play.new.self.all } in
    let begins : c.play.new.self.from ≡ length before = c.play.ensures.from ∙ read.first in
    let requests : c.play.new.self.all.requests ≡ length lines = ap (λ k. k.requests) c.play.ensures.all ∙ read.requests in
    let bytes : c.play.new.self.all.bytes ≡ bytes_in lines = ap (λ k. k.bytes) c.play.ensures.all ∙ read.bytes in
    let until = c.in_ok-until.ensures.ok in
    let ends : c.in_ok-until.field-0 ≡ length before + length lines = omega arith in
    All-weaker (IsRow other span (requests_of setting before) (requests_of setting lines)) (IsRowOf setting before lines)
    (λ row is. row-of setting other span before lines row c.play.ensures.setting begins ends requests bytes is) c.in_ok-rows.field-0.items
    (c.in_ok-rows.ensures.rows (requests_of setting before) (requests_of setting lines) (c.in_ok-play.ensures.asked (requests_of setting before) (requests_of setting lines) read.asked))

pub returns-clause-read : goal.returns-clause-read
returns-clause-read g c = λ before lines read.
    let s = c.args.self.now.runs.setting in
    let asked : List Request = requests_of s lines in
    record {
      asked = kept-on s c.play.new.self.runs.setting before lines c.play.new.self c.play.ensures.setting
          (asked, c.in_ok-play.ensures.asked (requests_of s before) asked read.asked, sym (append-nil asked) ∙ ap (λ x. asked ++ x) (sym c.in_ok-play.ensures.none));
      first = c.play.ensures.from ∙ read.first;
      requests = ap (λ k. k.requests) c.play.ensures.all ∙ read.requests;
      bytes = ap (λ k. k.bytes) c.play.ensures.all ∙ read.bytes;
    }
