use Rattle.cache_simulation.proofs.Words.{◌∙◌, ◌+◌, [], ap, length, arith, length_push, All-same, All-push, Got}
use Rattle.cache_simulation.proofs.tiers.calls.empty_nodes.Goals as goal

pub loop-preserved : goal.loop-preserved
loop-preserved c =
    let so_far = c.loop.invariant in
    let test = c.loop-test.true in
    let cache = c.in_ok-new.field-0 in
    record {
      all = All-same (Got c.args.setting c.args.policy c.args.size []) _ _ c.in_ok-push.ensures.items
          (All-push (Got c.args.setting c.args.policy c.args.size []) c.loop.nodes.items cache so_far.all (record { stands = c.in_ok-new.ensures.empty; shape = c.in_ok-new.ensures.shape }));
      long = ap length c.in_ok-push.ensures.items ∙ length_push c.loop.nodes.items cache ∙ ap (λ n. n + 1) so_far.long;
      upto = omega arith;
    }
