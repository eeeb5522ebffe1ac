use Rattle.pcache_evict.proofs.Words.{◌∙◌, ap, subst, sym, arith, ◌+◌, ◌-◌, unwrap_or, raised, weight_of, moved, IsKept}
use Rattle.pcache_evict.proofs.Recency.{kept-moved, weight_bound}
use Rattle.pcache_evict.proofs.Raised.{left_over}
use Rattle.pcache_evict.proofs.eviction.recency.RecencyList.raise.Goals as goal

pub overflow_sub-self : goal.overflow_sub-self
overflow_sub-self g c =
    let over = left_over c.args.item.now c.self.inside.cache.entries c.in-Some.before c.self.invariant.distinct (ap (λ o. unwrap_or o 0) c.in-Some.ensures.there.0) in
    omega (arith, c.self.invariant.summed, over.0)

pub overflow_add-self : goal.overflow_add-self
overflow_add-self g c =
    let bound = weight_bound c.self.inside.cache.entries c.self.invariant.small c.self.invariant.few in
    let fits = c.type_inv.after in
    omega (arith, c.self.invariant.summed)

pub invariant_of-self-2 : goal.invariant_of-self-2
invariant_of-self-2 g c =
    let over = left_over c.args.item.now c.self.inside.cache.entries c.in-Some.before c.self.invariant.distinct (ap (λ o. unwrap_or o 0) c.in-Some.ensures.there.0) in
    subst (λ n. IsKept c.raise_in-raised.new.cache (n + c.in-Some.after)) (sym over.1 ∙ ap (λ n. n - c.in-Some.before) (sym c.self.invariant.summed))
    (kept-moved c.self.inside.cache c.raise_in-raised.new.cache c.self.inside.weight c.args.item.now c.in-Some.after c.self.invariant c.in-Some.ensures.there.2 c.len.ensures.valid.0 (let few = c.len.ensures.fits in let len = c.len.ensures.len in omega arith) (let fits = c.in-Some.ensures.fits in omega arith)).1

pub returns-clause-there : goal.returns-clause-there
returns-clause-there g c = λ _.
    let there = c.in-Some.ensures.there in
    (kept-moved c.self.inside.cache c.raise_in-raised.new.cache c.self.inside.weight c.args.item.now c.in-Some.after c.self.invariant there.2 c.len.ensures.valid.0 (let few = c.len.ensures.fits in let len = c.len.ensures.len in omega arith) (let fits = c.in-Some.ensures.fits in omega arith)).0
    ∙ ap (moved c.args.item.now c.in-Some.after) c.self.view_is
    ∙ ap (λ n. moved c.args.item.now n c.args.self.now) (there.1 ∙ ap (raised c.args.delta c.args.max_weight) (sym (there.0) ∙ ap (weight_of c.args.item.now) c.self.view_is))
