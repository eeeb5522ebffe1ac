use Rattle.pcache_evict.proofs.Words.{refl, ◌∙◌, sym, ap, subst, is_some, IsFair, IsWithin, without, evicted_with, raised, incremented, moved, weight_of, map_of}
use Rattle.std.specs.FinMap as fin
use Rattle.pcache_evict.proofs.Maps.{moved-fair, moved-left, moved-evicted, get-map_of, map-moved, inside}
use Rattle.pcache_evict.proofs.Recency.{distinct-moved}
use Rattle.pcache_evict.proofs.eviction.simple_lru.ManagerEvictionManager.increment_weight.Goals as goal

pub returns-clause-fair : goal.returns-clause-fair
returns-clause-fair g c =
    subst (λ o. IsFair c.args.self.now.limits (fin.insert (map_of c.args.self.now.entries) c.args.item.now (raised c.args.delta c.args.max_weight o)) c.in_ok-out.out.items) (sym (get-map_of c.args.self.now.entries c.args.item.now))
    (moved-fair c.args.self.now c.increment_weight.new.self c.args.item.now _ c.in_ok-out.out.items c.in_ok-out.ensures.ok)

pub returns-clause-tracked : goal.returns-clause-tracked
returns-clause-tracked g c =
    moved-left c.args.self.now c.increment_weight.new.self c.args.item.now _ c.in_ok-out.out.items c.in_ok-out.ensures.ok
    ∙ ap (λ o. without c.in_ok-out.out.items (fin.insert (map_of c.args.self.now.entries) c.args.item.now (raised c.args.delta c.args.max_weight o))) (sym (get-map_of c.args.self.now.entries c.args.item.now))

pub returns-clause-evicted : goal.returns-clause-evicted
returns-clause-evicted g c =
    moved-evicted c.args.self.now c.increment_weight.new.self c.args.item.now _ c.in_ok-out.out.items c.in_ok-out.ensures.ok
    ∙ ap (λ o. evicted_with c.args.self.now.evicted (fin.insert (map_of c.args.self.now.entries) c.args.item.now (raised c.args.delta c.args.max_weight o)) c.in_ok-out.out.items) (sym (get-map_of c.args.self.now.entries c.args.item.now))

pub returns-in_err-out-clause-within : goal.returns-in_err-out-clause-within
returns-in_err-out-clause-within g c = λ has fits.
    let weight = get-map_of c.args.self.now.entries c.args.item.now in
    let list = incremented c.args.item.now c.args.delta c.args.max_weight c.args.self.now.entries in
    let same = map-moved c.args.item.now (raised c.args.delta c.args.max_weight (fin.get (map_of c.args.self.now.entries) c.args.item.now)) c.args.self.now.entries in
    let mapped = subst (λ o. IsWithin c.args.self.now.limits (map_of (moved c.args.item.now (raised c.args.delta c.args.max_weight o) c.args.self.now.entries))) weight (subst (IsWithin c.args.self.now.limits) (sym same) fits) in
    let given = c.in_err-out.ensures.within (ap is_some (sym weight) ∙ has) (inside c.args.self.now.limits list (distinct-moved c.args.item.now (raised c.args.delta c.args.max_weight (weight_of c.args.item.now c.args.self.now.entries)) c.args.self.now.entries c.in_err-out.ensures.once) mapped) in
    cc

pub returns-clause-order : goal.returns-clause-order
returns-clause-order g c = (c.args.self.now.entries, c.increment_weight.new.self.entries, refl, refl, c.in_ok-out.ensures.ok.evicts)
