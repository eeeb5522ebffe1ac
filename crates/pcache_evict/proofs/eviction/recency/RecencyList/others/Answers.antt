use Rattle.pcache_evict.specs.Recency.{weight}
use Rattle.pcache_evict.proofs.Words.{◌≡◌, ℕ, ◌∙◌, ap, sym, subst, arith, Some, None, is_some, cond, unwrap_or, length, Recency, weight_of, IsOnce}
use Rattle.pcache_evict.proofs.Recency.{weight-others, length-others, weight_bound, others-none}
use Rattle.pcache_evict.proofs.eviction.recency.RecencyList.others.Goals as goal

pub overflow_sub-result : goal.overflow_sub-result
overflow_sub-result g c =
    let found : weight_of c.args.item.now c.args.self.now ≡ Some c.in-Some.size = cc in
    let parts = weight-others c.args.item.now c.args.self.now (subst IsOnce c.self.view_is c.self.invariant.distinct) in
    let present = ap (λ o. unwrap_or o 0) found in
    let whole : c.self.inside.weight ≡ weight c.args.self.now = c.self.invariant.summed ∙ ap weight c.self.view_is in
    omega arith

pub returns-in-Some-clause-sum : goal.returns-in-Some-clause-sum
returns-in-Some-clause-sum g c =
    let found : weight_of c.args.item.now c.args.self.now ≡ Some c.in-Some.size = cc in
    let parts = weight-others c.args.item.now c.args.self.now (subst IsOnce c.self.view_is c.self.invariant.distinct) in
    let present = ap (λ o. unwrap_or o 0) found in
    let whole : c.self.inside.weight ≡ weight c.args.self.now = c.self.invariant.summed ∙ ap weight c.self.view_is in
    omega arith

pub returns-in-Some-clause-sum_fits : goal.returns-in-Some-clause-sum_fits
returns-in-Some-clause-sum_fits g c =
    let bound = weight_bound c.self.inside.cache.entries c.self.invariant.small c.self.invariant.few in
    omega (arith, c.self.invariant.summed)

pub returns-in-Some-clause-count : goal.returns-in-Some-clause-count
returns-in-Some-clause-count g c =
    let found : weight_of c.args.item.now c.args.self.now ≡ Some c.in-Some.size = cc in
    let parts = length-others c.args.item.now c.args.self.now (subst IsOnce c.self.view_is c.self.invariant.distinct) in
    let present = ap (λ o. cond {A = ℕ} (is_some o) 1 0) found in
    let many = ap (λ (l : Recency). length l) c.self.view_is in
    omega (arith, c.len.ensures.len)

pub returns-in-None-clause-sum : goal.returns-in-None-clause-sum
returns-in-None-clause-sum g c =
    let missing : weight_of c.args.item.now c.args.self.now ≡ None = cc in
    c.self.invariant.summed ∙ ap weight (c.self.view_is ∙ sym (others-none c.args.item.now c.args.self.now missing))

pub returns-in-None-clause-sum_fits : goal.returns-in-None-clause-sum_fits
returns-in-None-clause-sum_fits g c =
    let bound = weight_bound c.self.inside.cache.entries c.self.invariant.small c.self.invariant.few in
    omega (arith, c.self.invariant.summed)

pub returns-in-None-clause-count : goal.returns-in-None-clause-count
returns-in-None-clause-count g c =
    let missing : weight_of c.args.item.now c.args.self.now ≡ None = cc in
    c.len-in-None.ensures.len ∙ ap (λ (l : Recency). length l) (c.self.view_is ∙ sym (others-none c.args.item.now c.args.self.now missing))
