use Rattle.pcache_shared_cache.proofs.Words.{rules, ℕ, [], ◌≡◌, ◌∙◌, length, ap, sym, subst, arith, nil_from_length, map-map, as_nanos, Parts, Evicted, Tracked, Unmade, opened, unmade_managed, IsNamed}
use Rattle.pcache_shared_cache.proofs.Placing.{Made, made_all, made_count, made_more, made_none, made_placed, named_next}
use Rattle.pcache_shared_cache.proofs.shared.locks_of.Goals as goal

-- what becomes of a part that is to be made
abbrev begins : {M : Type 0} → ℕ → (M → Tracked) → (M → Evicted) → Unmade M → Parts
begins age tracked evicted u = opened age (unmade_managed tracked evicted u)

pub loop-new_part-init : goal.loop-new_part-init
loop-new_part-init g c =
    let all = c.args.new_parts.items in
    let b = begins (as_nanos c.args.age_timeout) g.M.EvictionManager.tracked g.M.EvictionManager.evicted in (
      search rules,
      subst (Made b all c.into_iter-new_part-iterator.result.rest.items) (sym c.in_ok-parts.ensures.items) (subst (λ rest. Made b all rest []) (sym c.into_iter-new_part-iterator.ensures.into_iter_gives.0) (made_none b all)),
    )

pub new-requires : goal.new-requires
new-requires g c =
    let b = begins (as_nanos c.args.age_timeout) g.M.EvictionManager.tracked g.M.EvictionManager.evicted in
    let here : c.len-place.result ≡ length c.loop-new_part.parts.items = search rules in
    subst (λ n. IsNamed (g.K.Mark.names n) c.in-Some.new_part.name) (sym here) (named_next b g.K.Mark.names c.args.new_parts.items c.next.new.self.rest.items c.in-Some.new_part c.loop-new_part.parts.items c.requires
    (subst (λ rest. Made b c.args.new_parts.items rest c.loop-new_part.parts.items) c.in-Some.ensures.steps.0 c.loop-new_part.invariant.1))

pub loop-new_part-preserved : goal.loop-new_part-preserved
loop-new_part-preserved g c =
    let b = begins (as_nanos c.args.age_timeout) g.M.EvictionManager.tracked g.M.EvictionManager.evicted in
    let i = c.loop-new_part.invariant in
    let p = c.push_reserved.ensures in
    let steps = c.in-Some.ensures.steps.0 in
    let long = ap length steps in
    let here : c.len-place.result ≡ length c.loop-new_part.parts.items = search rules in
    let parts = c.loop-new_part.parts.items in
    let left = c.next.new.self.rest.items in (
      omega (arith, long, i.0, p.len, p.capacity),
      subst (Made b c.args.new_parts.items left) (sym p.items)
          (made_more b c.args.new_parts.items left c.in-Some.new_part parts c.new.result (subst (λ rest. Made b c.args.new_parts.items rest parts) steps i.1) (c.new.ensures.place ∙ here) c.new.ensures.first),
    )

pub returns : goal.returns
returns g c =
    let b = begins (as_nanos c.args.age_timeout) g.M.EvictionManager.tracked g.M.EvictionManager.evicted in
    let all = c.args.new_parts.items in
    let parts = c.loop-new_part.parts.items in
    let none : length c.loop-new_part.new_part-iterator.rest.items ≡ 0 = search rules in
    let made = subst (λ rest. Made b all rest parts) (nil_from_length c.loop-new_part.new_part-iterator.rest.items none) c.loop-new_part.invariant.1 in
    record {
      made = (made_count b all parts made, made_placed b all parts made, made_all b all parts made ∙ sym (map-map (opened (as_nanos c.args.age_timeout)) (unmade_managed g.M.EvictionManager.tracked g.M.EvictionManager.evicted) all));
    }
