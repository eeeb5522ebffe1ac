use Rattle.pcache_evict.specs.Recency.{weight}
use Rattle.pcache_evict.proofs.Words.{◌≡◌, ap, subst, ◌∙◌, refl, arith, length, Lru, Recency, IsOnce}
use Rattle.pcache_evict.proofs.Recency.{weight_bound, weight-others, length-others}
use Rattle.pcache_evict.proofs.Chains.{enough_above}
use Rattle.pcache_evict.proofs.eviction.recency.RecencyList.room_at_most.Goals as goal

pub overflow_add-start : goal.overflow_add-start
overflow_add-start g c =
    let bound = weight_bound c.self.inside.cache.entries c.self.invariant.small c.self.invariant.few in
    let fits = c.ranges.size in
    omega (arith, c.self.invariant.summed)

pub walk-requires-clause-sum : goal.walk-requires-clause-sum
walk-requires-clause-sum g c =
    let whole : c.self.inside.weight ≡ weight c.args.self.now = c.self.invariant.summed ∙ ap weight c.self.view_is in
    let parts = weight-others c.args.item.now c.args.self.now (subst IsOnce c.self.view_is c.self.invariant.distinct) in
    omega (arith, whole, parts)

pub walk-requires-clause-count : goal.walk-requires-clause-count
walk-requires-clause-count g c =
    let many = ap (λ (l : Recency). length l) c.self.view_is in
    let parts = length-others c.args.item.now c.args.self.now (subst IsOnce c.self.view_is c.self.invariant.distinct) in
    omega (arith, c.len.ensures.len, many, parts)

pub returns : goal.returns
returns g c =
    let once = subst IsOnce c.self.view_is c.self.invariant.distinct in
    let whole : c.self.inside.weight ≡ weight c.args.self.now = c.self.invariant.summed ∙ ap weight c.self.view_is in
    let parts = weight-others c.args.item.now c.args.self.now once in
    let many = ap (λ (l : Recency). length l) c.self.view_is in
    let longer = length-others c.args.item.now c.args.self.now once in
    enough_above _ _ c.args.size _ _ _ (c.walk.ensures Lru) refl (omega (arith, whole, parts)) (omega (arith, c.len.ensures.len, many, longer))

pub overflow_add-result : goal.overflow_add-result
overflow_add-result g c =
    let w = c.walk.ensures Lru in
    let count = w.count in
    let room = w.room in
    let few = c.self.invariant.few in
    let long = c.len.ensures.len in
    omega arith
