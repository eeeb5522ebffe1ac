use Rattle.pcache_evict.proofs.Words.{◌∙◌, ◌-◌, ap, subst, sym, arith, unwrap_or, others, IsKept}
use Rattle.pcache_evict.proofs.Recency.{kept-others}
use Rattle.pcache_evict.proofs.Raised.{left_over}
use Rattle.pcache_evict.proofs.eviction.recency.RecencyList.remove.Goals as goal

pub overflow_sub-self : goal.overflow_sub-self
overflow_sub-self g c =
    let over = left_over c.args.item.now c.self.inside.cache.entries c.unwrap_or-gone.result c.self.invariant.distinct (ap (λ o. unwrap_or o 0) (sym c.pop.ensures.value) ∙ sym c.unwrap_or-gone.ensures) in
    omega (arith, c.self.invariant.summed, over.0)

pub invariant_of-self : goal.invariant_of-self
invariant_of-self g c =
    let over = left_over c.args.item.now c.self.inside.cache.entries c.unwrap_or-gone.result c.self.invariant.distinct (ap (λ o. unwrap_or o 0) (sym c.pop.ensures.value) ∙ sym c.unwrap_or-gone.ensures) in
    subst (IsKept c.pop.new.self) (sym over.1 ∙ ap (λ n. n - c.unwrap_or-gone.result) (sym c.self.invariant.summed))
    (kept-others c.self.inside.cache c.pop.new.self c.self.inside.weight c.args.item.now c.self.invariant c.pop.ensures.entries).1

pub returns : goal.returns
returns g c = (kept-others c.self.inside.cache c.pop.new.self c.self.inside.weight c.args.item.now c.self.invariant c.pop.ensures.entries).0 ∙ ap (others c.args.item.now) c.self.view_is
