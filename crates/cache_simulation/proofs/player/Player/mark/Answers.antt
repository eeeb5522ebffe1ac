use Rattle.std.proofs.Common.{length-append}
use Rattle.cache_simulation.proofs.Words.{◌≡◌, ◌∙◌, ◌++◌, ◌+◌, [], List, ap, sym, refl, length, arith, requests_of}
use Rattle.cache_simulation.proofs.ReadLines.{moved-on}
use Rattle.cache_simulation.proofs.player.Player.mark.Goals as goal

pub returns-clause-read : goal.returns-clause-read
returns-clause-read g c = λ before lines read.
    let s = c.args.self.now.runs.setting in
    let same = c.mark.ensures.setting ∙ c.play.ensures.setting in
    let led = c.mark.ensures.served (requests_of s before) (requests_of s lines) (c.in_ok-play.ensures.asked (requests_of s before) (requests_of s lines) read.asked) in
    let (none, no_hits, no_bytes, no_hit_bytes) = c.none-self.ensures in
    let until = c.in_ok-self.ensures.ok in
    let from = c.play.ensures.from in
    let all = ap (λ x. x.requests) c.play.ensures.all in
    let first = read.first in
    let requests = read.requests in
    let joined = length-append before lines in
    record {
      asked = ([], moved-on s _ before lines c.mark.new.self same led, sym c.in_ok-play.ensures.none);
      first = omega arith;
      requests = none;
      bytes = no_bytes;
    }
