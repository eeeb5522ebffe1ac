use Rattle.cache_simulation.proofs.Words.{◌∙◌, ◌+◌, ◌<◌, ap, length, arith, length_push, All-same, All-push}
use Rattle.cache_simulation.proofs.Visits.{numbers-more}
use Rattle.cache_simulation.proofs.tiers.calls.numbers.Goals as goal

pub loop-number-preserved : goal.loop-number-preserved
loop-number-preserved c =
    let so_far = c.loop-number.invariant in
    let test = c.loop-number-test.true in
    let number = c.loop-number.number in
    record {
      long = ap length c.in_ok-push.ensures.items ∙ length_push c.loop-number.there.items number ∙ ap (λ n. n + 1) so_far.long;
      each = numbers-more c.loop-number.there.items c.push.new.self.items number so_far.long c.in_ok-push.ensures.items so_far.each;
      below = All-same (λ n. n < c.args.count) _ _ c.in_ok-push.ensures.items (All-push (λ n. n < c.args.count) c.loop-number.there.items number so_far.below c.loop-number-test.true);
      upto = omega arith;
    }

pub returns-clause-all : goal.returns-clause-all
returns-clause-all c =
    let so_far = c.loop-number.invariant in
    let long = so_far.long in
    let upto = so_far.upto in
    let end = c.loop-number-test.false in
    (omega arith, so_far.each)

pub returns-clause-below : goal.returns-clause-below
returns-clause-below c = c.loop-number.invariant.below
