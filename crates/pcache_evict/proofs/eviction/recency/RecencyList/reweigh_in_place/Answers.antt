use Rattle.pcache_evict.specs.Recency.{weight}
use Rattle.pcache_evict.proofs.Words.{◌∙◌, ap, subst, sym, arith, ◌+◌, IsSome, weight_of, others, IsKept}
use Rattle.pcache_evict.proofs.Reweighs.{kept-reweighed}
use Rattle.pcache_evict.proofs.eviction.recency.RecencyList.reweigh_in_place.Goals as goal

pub invariant_of-self : goal.invariant_of-self
invariant_of-self g c =
    subst (λ n. IsKept c.write_weight.new.cache (n + c.args.size)) (ap (λ l. weight (others c.args.item.now l)) c.self.view_is ∙ sym c.requires.sum)
    (kept-reweighed c.self.inside.cache c.write_weight.new.cache c.self.inside.weight c.args.item.now c.args.size c.self.invariant (subst (λ l. IsSome (weight_of c.args.item.now l)) (sym c.self.view_is) c.requires.there) c.write_weight.ensures (let fits = c.ranges.size in omega arith))
