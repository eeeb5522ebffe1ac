use Rattle.pcache_shared_cache.proofs.Words.{◌≡◌, take, arith, ap, ◌∙◌, take_all, whole_weight, stored_bytes, limits_in}
use Rattle.pcache_shared_cache.proofs.Together.{begun-limits, limits_begun, told-more, told-none, within}
use Rattle.pcache_shared_cache.proofs.shared.SharedCache.stored_bytes.Goals as goal

pub loop-part-init : goal.loop-part-init
loop-part-init g c = told-none c.deref-part-items.result.now (λ p. stored_bytes p.store)

pub overflow_add-total : goal.overflow_add-total
overflow_add-total g c =
    let bound = c.loop-part.invariant.1 in
    let small = c.stored_bytes.type_inv in
    let long = c.self.inside.parts.small in
    omega (arith, bound, small, long, c.loop-part-test.true, c.deref-part-items.ensures.len)

pub loop-part-preserved : goal.loop-part-preserved
loop-part-preserved g c = told-more c.deref-part-items.result.now c.loop-part.part-index (λ p. stored_bytes p.store) c.loop-part.total c.stored_bytes.result c.part-item.result c.loop-part-test.true c.part-item.is c.stored_bytes.type_inv c.loop-part.invariant c.stored_bytes.ensures

pub returns-clause-value : goal.returns-clause-value
returns-clause-value g c =
    let t = c.loop-part.invariant.0 in
    let all : limits_begun (take c.loop-part.part-index c.deref-part-items.result.now) ≡ limits_in c.args.self.now =
    ap limits_begun (take_all c.loop-part.part-index c.deref-part-items.result.now (omega arith) ∙ c.deref-part-items.ensures.value) ∙ begun-limits c.self.inside.parts.items ∙ ap limits_in c.self.view_is in
    (t.0, t.1 ∙ all, t.2, t.3)

pub returns-clause-within : goal.returns-clause-within
returns-clause-within g c =
    let t = c.loop-part.invariant.0 in
    let all : limits_begun (take c.loop-part.part-index c.deref-part-items.result.now) ≡ limits_in c.args.self.now =
    ap limits_begun (take_all c.loop-part.part-index c.deref-part-items.result.now (omega arith) ∙ c.deref-part-items.ensures.value) ∙ begun-limits c.self.inside.parts.items ∙ ap limits_in c.self.view_is in
    let w = within t.0 t.2 in
    let is = ap whole_weight (t.1 ∙ all) in
    omega (arith, w, is, t.3)
