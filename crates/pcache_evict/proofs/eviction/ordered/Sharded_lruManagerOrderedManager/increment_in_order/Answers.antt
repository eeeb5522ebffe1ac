use Rattle.pcache_evict.proofs.Words.{◌∙◌, ap, subst, sym, is_some, IsFair, IsWithin, without, evicted_with, all, in_shard, grown}
use Rattle.pcache_evict.proofs.Maps.{inside}
use Rattle.pcache_evict.proofs.ShardMaps.{run-of, run-evicted, map-grown-in, found-map, once-grown}
use Rattle.pcache_evict.proofs.eviction.ordered.Sharded_lruManagerOrderedManager.increment_in_order.Goals as goal

pub returns-clause-fair : goal.returns-clause-fair
returns-clause-fair g c =
    subst (λ m. IsFair c.args.self.now.limits m c.in_ok-out.out.items) (map-grown-in g.row.N c.args.item.now c.args.delta c.args.max_weight c.args.self.now.shards c.in_ok-out.ensures.placed)
    (run-of g.row.N c.args.self.now c.increment_weight.new.self _ c.in_ok-out.out.items c.in_ok-out.ensures.ok).fair

pub returns-clause-tracked : goal.returns-clause-tracked
returns-clause-tracked g c =
    (run-of g.row.N c.args.self.now c.increment_weight.new.self _ c.in_ok-out.out.items c.in_ok-out.ensures.ok).left
    ∙ ap (without c.in_ok-out.out.items) (map-grown-in g.row.N c.args.item.now c.args.delta c.args.max_weight c.args.self.now.shards c.in_ok-out.ensures.placed)

pub returns-clause-evicted : goal.returns-clause-evicted
returns-clause-evicted g c =
    run-evicted g.row.N c.args.self.now c.increment_weight.new.self _ c.in_ok-out.out.items c.in_ok-out.ensures.ok
    ∙ ap (λ m. evicted_with c.args.self.now.evicted m c.in_ok-out.out.items) (map-grown-in g.row.N c.args.item.now c.args.delta c.args.max_weight c.args.self.now.shards c.in_ok-out.ensures.placed)

pub returns-in_err-out-clause-within : goal.returns-in_err-out-clause-within
returns-in_err-out-clause-within g c = λ has fits.
    let placed = c.in_err-out.ensures.placed in
    let list = all (in_shard g.row.N c.args.item.now (grown c.args.item.now c.args.delta c.args.max_weight) c.args.self.now.shards) in
    let given = c.in_err-out.ensures.within (ap is_some (sym (found-map g.row.N c.args.item.now c.args.self.now.shards placed)) ∙ has)
    (inside c.args.self.now.limits list (once-grown g.row.N c.args.item.now c.args.delta c.args.max_weight c.args.self.now.shards placed) (subst (IsWithin c.args.self.now.limits) (sym (map-grown-in g.row.N c.args.item.now c.args.delta c.args.max_weight c.args.self.now.shards placed)) fits)) in
    cc
