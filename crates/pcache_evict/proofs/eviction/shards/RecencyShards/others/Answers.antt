use Rattle.pcache_evict.proofs.Words.{◌≡◌, ℕ, ◌∙◌, ap, arith, Some, None, unwrap_or, weight_of, list_at}
use Rattle.pcache_evict.proofs.Sharded.{rest-kept}
use Rattle.pcache_evict.proofs.eviction.shards.RecencyShards.others.Goals as goal

pub overflow_sub-result : goal.overflow_sub-result
overflow_sub-result g c =
    let r = rest-kept g.row.N c.self.inside.lists.items c.args.self.now c.args.item.now c.self.inside.weight c.self.inside.items (Some c.in-Some.size) c.self.invariant c.self.view_is (c.in-Some.ensures.value ∙ ap (weight_of c.args.item.now) (c.list-list.ensures ∙ ap (list_at c.args.self.now) c.place_of-place.ensures.value)) in
    omega (arith, r.sum)

pub overflow_sub-result-in-Some : goal.overflow_sub-result-in-Some
overflow_sub-result-in-Some g c =
    let r = rest-kept g.row.N c.self.inside.lists.items c.args.self.now c.args.item.now c.self.inside.weight c.self.inside.items (Some c.in-Some.size) c.self.invariant c.self.view_is (c.in-Some.ensures.value ∙ ap (weight_of c.args.item.now) (c.list-list.ensures ∙ ap (list_at c.args.self.now) c.place_of-place.ensures.value)) in
    omega (arith, r.count)

pub returns-in-Some-clause-sum : goal.returns-in-Some-clause-sum
returns-in-Some-clause-sum g c =
    let r = rest-kept g.row.N c.self.inside.lists.items c.args.self.now c.args.item.now c.self.inside.weight c.self.inside.items (Some c.in-Some.size) c.self.invariant c.self.view_is (c.in-Some.ensures.value ∙ ap (weight_of c.args.item.now) (c.list-list.ensures ∙ ap (list_at c.args.self.now) c.place_of-place.ensures.value)) in
    omega (arith, r.sum)

pub returns-in-Some-clause-sum_fits : goal.returns-in-Some-clause-sum_fits
returns-in-Some-clause-sum_fits g c =
    let r = rest-kept g.row.N c.self.inside.lists.items c.args.self.now c.args.item.now c.self.inside.weight c.self.inside.items (Some c.in-Some.size) c.self.invariant c.self.view_is (c.in-Some.ensures.value ∙ ap (weight_of c.args.item.now) (c.list-list.ensures ∙ ap (list_at c.args.self.now) c.place_of-place.ensures.value)) in
    omega (arith, r.fits)

pub returns-in-Some-clause-count : goal.returns-in-Some-clause-count
returns-in-Some-clause-count g c =
    let r = rest-kept g.row.N c.self.inside.lists.items c.args.self.now c.args.item.now c.self.inside.weight c.self.inside.items (Some c.in-Some.size) c.self.invariant c.self.view_is (c.in-Some.ensures.value ∙ ap (weight_of c.args.item.now) (c.list-list.ensures ∙ ap (list_at c.args.self.now) c.place_of-place.ensures.value)) in
    omega (arith, r.count)

pub returns-in-Some-clause-present : goal.returns-in-Some-clause-present
returns-in-Some-clause-present g c =
    let r = rest-kept g.row.N c.self.inside.lists.items c.args.self.now c.args.item.now c.self.inside.weight c.self.inside.items (Some c.in-Some.size) c.self.invariant c.self.view_is (c.in-Some.ensures.value ∙ ap (weight_of c.args.item.now) (c.list-list.ensures ∙ ap (list_at c.args.self.now) c.place_of-place.ensures.value)) in
    λ w h.
    let same : ◌≡◌ {A = ℕ} c.in-Some.size w = ap (λ o. unwrap_or o 0) (c.in-Some.ensures.value ∙ ap (weight_of c.args.item.now) (c.list-list.ensures ∙ ap (list_at c.args.self.now) c.place_of-place.ensures.value) ∙ h) in
    omega (arith, r.sum, r.whole)

pub returns-in-None-clause-sum : goal.returns-in-None-clause-sum
returns-in-None-clause-sum g c =
    let r = rest-kept g.row.N c.self.inside.lists.items c.args.self.now c.args.item.now c.self.inside.weight c.self.inside.items None c.self.invariant c.self.view_is (c.in-None.ensures.value ∙ ap (weight_of c.args.item.now) (c.list-list.ensures ∙ ap (list_at c.args.self.now) c.place_of-place.ensures.value)) in
    omega (arith, r.sum)

pub returns-in-None-clause-sum_fits : goal.returns-in-None-clause-sum_fits
returns-in-None-clause-sum_fits g c =
    let r = rest-kept g.row.N c.self.inside.lists.items c.args.self.now c.args.item.now c.self.inside.weight c.self.inside.items None c.self.invariant c.self.view_is (c.in-None.ensures.value ∙ ap (weight_of c.args.item.now) (c.list-list.ensures ∙ ap (list_at c.args.self.now) c.place_of-place.ensures.value)) in
    omega (arith, r.fits)

pub returns-in-None-clause-count : goal.returns-in-None-clause-count
returns-in-None-clause-count g c =
    let r = rest-kept g.row.N c.self.inside.lists.items c.args.self.now c.args.item.now c.self.inside.weight c.self.inside.items None c.self.invariant c.self.view_is (c.in-None.ensures.value ∙ ap (weight_of c.args.item.now) (c.list-list.ensures ∙ ap (list_at c.args.self.now) c.place_of-place.ensures.value)) in
    omega (arith, r.count)
