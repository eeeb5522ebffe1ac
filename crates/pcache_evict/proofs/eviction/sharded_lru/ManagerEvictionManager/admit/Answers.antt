use Rattle.pcache_evict.proofs.Words.{refl, ◌∙◌, ap, subst, IsFair, without, evicted_with}
use Rattle.pcache_evict.proofs.ShardMaps.{run-of, run-evicted, map-moved-in}
use Rattle.pcache_evict.proofs.eviction.sharded_lru.ManagerEvictionManager.admit.Goals as goal

pub returns-clause-fair : goal.returns-clause-fair
returns-clause-fair g c =
    subst (λ m. IsFair c.args.self.now.limits m c.in_ok-out.out.items) (map-moved-in g.row.N c.args.item c.args.size c.args.self.now.shards c.in_ok-out.ensures.placed)
    (run-of g.row.N c.args.self.now c.admit.new.self _ c.in_ok-out.out.items c.in_ok-out.ensures.ok).fair

pub returns-clause-tracked : goal.returns-clause-tracked
returns-clause-tracked g c =
    (run-of g.row.N c.args.self.now c.admit.new.self _ c.in_ok-out.out.items c.in_ok-out.ensures.ok).left
    ∙ ap (without c.in_ok-out.out.items) (map-moved-in g.row.N c.args.item c.args.size c.args.self.now.shards c.in_ok-out.ensures.placed)

pub returns-clause-evicted : goal.returns-clause-evicted
returns-clause-evicted g c =
    run-evicted g.row.N c.args.self.now c.admit.new.self _ c.in_ok-out.out.items c.in_ok-out.ensures.ok
    ∙ ap (λ m. evicted_with c.args.self.now.evicted m c.in_ok-out.out.items) (map-moved-in g.row.N c.args.item c.args.size c.args.self.now.shards c.in_ok-out.ensures.placed)

pub returns-clause-order : goal.returns-clause-order
returns-clause-order g c = (c.args.self.now.shards, c.admit.new.self.shards, refl, refl, c.in_ok-out.ensures.ok.runs)
