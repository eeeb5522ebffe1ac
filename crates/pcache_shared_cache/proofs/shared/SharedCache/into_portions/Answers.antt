use Rattle.pcache_shared_cache.proofs.Words.{rules, [], ◌≡◌, ◌∙◌, length, ap, refl, sym, subst, arith, nil_from_length, limits_in}
use Rattle.pcache_shared_cache.proofs.Parting.{HandedOut, out-all, out-limits, out-more}
use Rattle.pcache_shared_cache.proofs.Together.{begun-limits, limits_begun}
use Rattle.pcache_shared_cache.proofs.shared.SharedCache.into_portions.Goals as goal

pub loop-part-init : goal.loop-part-init
loop-part-init g c =
    let tracked = g.M.EvictionManager.tracked in
    let evicted = g.M.EvictionManager.evicted in
    let limits = limits_in c.args.self in
    let parts = c.self.inside.parts.items in
    let none : HandedOut tracked evicted limits (limits_begun parts) [] = ([], begun-limits parts ∙ ap limits_in c.self.view_is, (λ k d lt. absurd (omega arith)), refl) in (
      search rules,
      subst (HandedOut tracked evicted limits (limits_begun c.into_iter-part-iterator.result.rest.items)) (sym c.self.invariant.3) (subst (λ rest. HandedOut tracked evicted limits (limits_begun rest) []) (sym c.into_iter-part-iterator.ensures.into_iter_gives.0) none),
    )

pub loop-part-preserved : goal.loop-part-preserved
loop-part-preserved g c =
    let i = c.loop-part.invariant in
    let p = c.push_reserved.ensures in
    let steps = c.in-Some.ensures.steps.0 in
    let out = c.loop-part.portions.items in
    let left = c.next.new.self.rest.items in
    let portion = c.into_portion.result in
    let long = ap length steps in (
      omega (arith, long, i.0, p.len, p.capacity),
      subst (HandedOut g.M.EvictionManager.tracked g.M.EvictionManager.evicted (limits_in c.args.self) (limits_begun left)) (sym p.items)
          (out-more g.M.EvictionManager.tracked g.M.EvictionManager.evicted (limits_in c.args.self) (limits_begun left) c.in-Some.part.first.limits out portion (subst (λ rest. HandedOut g.M.EvictionManager.tracked g.M.EvictionManager.evicted (limits_in c.args.self) (limits_begun rest) out) steps i.1) c.into_portion.ensures),
    )

pub returns-clause-portions : goal.returns-clause-portions
returns-clause-portions g c =
    let none : length c.loop-part.part-iterator.rest.items ≡ 0 = search rules in
    out-all g.M.EvictionManager.tracked g.M.EvictionManager.evicted (limits_in c.args.self) c.loop-part.portions.items (subst (λ rest. HandedOut g.M.EvictionManager.tracked g.M.EvictionManager.evicted (limits_in c.args.self) (limits_begun rest) c.loop-part.portions.items) (nil_from_length c.loop-part.part-iterator.rest.items none) c.loop-part.invariant.1)

pub returns-clause-limits : goal.returns-clause-limits
returns-clause-limits g c =
    let none : length c.loop-part.part-iterator.rest.items ≡ 0 = search rules in
    out-limits g.M.EvictionManager.tracked g.M.EvictionManager.evicted (limits_in c.args.self) c.loop-part.portions.items (subst (λ rest. HandedOut g.M.EvictionManager.tracked g.M.EvictionManager.evicted (limits_in c.args.self) (limits_begun rest) c.loop-part.portions.items) (nil_from_length c.loop-part.part-iterator.rest.items none) c.loop-part.invariant.1)
