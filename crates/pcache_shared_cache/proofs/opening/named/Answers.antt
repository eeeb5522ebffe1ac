use Rattle.pcache_shared_cache.specs.Managed.{managed_limits}
use Rattle.pcache_shared_cache.proofs.Words.{List, subst, sym, map-map, Limits, unmade_managed}
use Rattle.pcache_shared_cache.proofs.opening.named.Goals as goal

pub run-requires : goal.run-requires
run-requires g c =
    subst (λ (ls : List Limits). g.P.OverParts.asks c.args.program ls) (sym (map-map managed_limits (unmade_managed g.M.EvictionManager.tracked g.M.EvictionManager.evicted) c.args.parts.items)) c.requires.asked

pub returns : goal.returns
returns g c =
    subst (λ (ls : List Limits). g.P.OverParts.gives c.args.program ls c.run.result) (map-map managed_limits (unmade_managed g.M.EvictionManager.tracked g.M.EvictionManager.evicted) c.args.parts.items) c.run.ensures
