use Rattle.pcache_evict.specs.Recency.{weight}
use Rattle.pcache_evict.proofs.Words.{◌≡◌, ◌∙◌, ap, arith, length, not-true, Lru, Recency}
use Rattle.pcache_evict.proofs.Recency.{weight_bound}
use Rattle.pcache_evict.proofs.Chains.{small_inside}
use Rattle.pcache_evict.proofs.eviction.recency.RecencyList.allows.Goals as goal

pub overflow_add-self-inside : goal.overflow_add-self-inside
overflow_add-self-inside g c =
    let bound = weight_bound c.self.inside.cache.entries c.self.invariant.small c.self.invariant.few in
    let fits = c.ranges.size in
    omega (arith, c.self.invariant.summed)

pub returns-clause-inside : goal.returns-clause-inside
returns-clause-inside g c = λ e l light short.
    let whole : c.self.inside.weight ≡ weight c.args.self.now = c.self.invariant.summed ∙ ap weight c.self.view_is in
    let many = ap (λ (l : Recency). length l) c.self.view_is in
    small_inside _ _ _ (c.exceeds.ensures.small Lru (not-true c.exceeds.result e)) l (omega (arith, light, whole)) (omega (arith, short, many, c.len.ensures.len))
