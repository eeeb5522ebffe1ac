use Rattle.std.proofs.Common.{length-append}
use Rattle.cache_simulation.specs.Reading.{line}
use Rattle.cache_simulation.proofs.Words.{◌∷◌, ℕ, [], ap, arith, sum_by-append, sum_by-cons, Line, requests_of}
use Rattle.cache_simulation.proofs.ReadLines.{read-on}
use Rattle.cache_simulation.proofs.player.Player.take.Goals as goal

pub returns-clause-read : goal.returns-clause-read
returns-clause-read g c = λ before lines read.
    let s = c.args.self.now.runs.setting in
    let l : Line = line c.args.key.now c.args.size c.args.second in
    let size : Line → ℕ = λ l. l.size in
    let same = c.pick.ensures.setting in
    let first = read.first in
    let requests = read.requests in
    let bytes = read.bytes in
    let from = c.pick.ensures.from in
    let had = ap (λ k. k.requests) c.pick.ensures.all in
    let had_bytes = ap (λ k. k.bytes) c.pick.ensures.all in
    let more = c.note.ensures.requests in
    let more_bytes = c.note.ensures.bytes in
    let longer = length-append lines (l ∷ []) in
    let sum = sum_by-append size lines (l ∷ []) in
    let one = sum_by-cons size l [] in
    record {
      asked = read-on s c.pick.new.self.runs.setting before lines l c.pick.new.self same (c.in_ok-is_sampled.ensures.asked (requests_of s before) (requests_of s lines) read.asked);
      first = omega arith;
      requests = omega arith;
      bytes = omega arith;
    }
