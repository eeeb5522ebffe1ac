use Rattle.std.proofs.lemmas.List.{append-nil}
use Rattle.pcache_evict.specs.Recency.{weight}
use Rattle.pcache_evict.proofs.Words.{[], ◌∙◌, ap, sym, arith, length, refl, Recency, others}
use Rattle.pcache_evict.proofs.Chains.{walk-ends}
use Rattle.pcache_evict.proofs.eviction.recency.RecencyList.walk.Goals as goal

-- nothing was passed yet
pub loop-left-init : goal.loop-left-init
loop-left-init g c =
    let same = c.iter-left.ensures.rest ∙ c.self.view_is in
    let light = ap (λ (l : Recency). weight (others c.args.item.now l)) same in
    let few = ap (λ (l : Recency). length (others c.args.item.now l)) same in
    record {
      passed = [];
      split = sym same ∙ sym (append-nil c.iter-left.result);
      sum = omega (arith, light, c.requires.sum);
      count = omega (arith, few, c.requires.count);
      room = omega arith;
      fits = omega arith;
    }

pub returns : goal.returns
returns g c = λ policy.
    walk-ends _ c.args.item.now c.args.self.now c.loop-left.left _ _ c.requires.sum c.requires.count c.loop-left.invariant (c.loop-left-test.ensures.small policy refl)
