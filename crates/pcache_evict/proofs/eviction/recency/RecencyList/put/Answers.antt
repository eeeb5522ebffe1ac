use Rattle.pcache_evict.proofs.Words.{◌∙◌, ap, subst, sym, arith, ◌+◌, ◌-◌, unwrap_or, moved, IsKept}
use Rattle.pcache_evict.proofs.Recency.{kept-moved, weight_bound}
use Rattle.pcache_evict.proofs.Raised.{left_over}
use Rattle.pcache_evict.proofs.eviction.recency.RecencyList.put.Goals as goal

pub overflow_sub-self : goal.overflow_sub-self
overflow_sub-self g c =
    let over = left_over c.args.item c.self.inside.cache.entries c.unwrap_or-before.result c.self.invariant.distinct (ap (λ o. unwrap_or o 0) (sym c.in_ok-put.ensures.old) ∙ sym c.unwrap_or-before.ensures) in
    omega (arith, c.self.invariant.summed, over.0)

pub overflow_add-self : goal.overflow_add-self
overflow_add-self g c =
    let bound = weight_bound c.self.inside.cache.entries c.self.invariant.small c.self.invariant.few in
    let fits = c.ranges.size in
    omega (arith, c.self.invariant.summed)

pub invariant_of-self-2 : goal.invariant_of-self-2
invariant_of-self-2 g c =
    let over = left_over c.args.item c.self.inside.cache.entries c.unwrap_or-before.result c.self.invariant.distinct (ap (λ o. unwrap_or o 0) (sym c.in_ok-put.ensures.old) ∙ sym c.unwrap_or-before.ensures) in
    subst (λ n. IsKept c.put.new.self (n + c.args.size)) (sym over.1 ∙ ap (λ n. n - c.unwrap_or-before.result) (sym c.self.invariant.summed))
    (kept-moved c.self.inside.cache c.put.new.self c.self.inside.weight c.args.item c.args.size c.self.invariant c.in_ok-put.ensures.entries c.len.ensures.valid.0 (let few = c.len.ensures.fits in let len = c.len.ensures.len in omega arith) (let fits = c.ranges.size in omega arith)).1

pub returns-clause-ok : goal.returns-clause-ok
returns-clause-ok g c =
    (kept-moved c.self.inside.cache c.put.new.self c.self.inside.weight c.args.item c.args.size c.self.invariant c.in_ok-put.ensures.entries c.len.ensures.valid.0 (let few = c.len.ensures.fits in let len = c.len.ensures.len in omega arith) (let fits = c.ranges.size in omega arith)).0
    ∙ ap (moved c.args.item c.args.size) c.self.view_is
