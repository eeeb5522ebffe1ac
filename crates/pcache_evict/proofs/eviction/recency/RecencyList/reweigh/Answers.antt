use Rattle.pcache_evict.specs.Recency.{weight}
use Rattle.pcache_evict.proofs.Words.{◌∙◌, ap, subst, sym, arith, ◌+◌, others, moved, IsKept}
use Rattle.pcache_evict.proofs.Recency.{kept-moved}
use Rattle.pcache_evict.proofs.eviction.recency.RecencyList.reweigh.Goals as goal

pub invariant_of-self : goal.invariant_of-self
invariant_of-self g c =
    subst (λ n. IsKept c.set_weight.new.cache (n + c.args.size)) (ap (λ l. weight (others c.args.item.now l)) c.self.view_is ∙ sym c.requires.sum)
    (kept-moved c.self.inside.cache c.set_weight.new.cache c.self.inside.weight c.args.item.now c.args.size c.self.invariant c.set_weight.ensures c.len.ensures.valid.0 (let few = c.len.ensures.fits in let len = c.len.ensures.len in omega arith) (let fits = c.ranges.size in omega arith)).1

pub returns-clause-list : goal.returns-clause-list
returns-clause-list g c =
    (kept-moved c.self.inside.cache c.set_weight.new.cache c.self.inside.weight c.args.item.now c.args.size c.self.invariant c.set_weight.ensures c.len.ensures.valid.0 (let few = c.len.ensures.fits in let len = c.len.ensures.len in omega arith) (let fits = c.ranges.size in omega arith)).0
    ∙ ap (moved c.args.item.now c.args.size) c.self.view_is
