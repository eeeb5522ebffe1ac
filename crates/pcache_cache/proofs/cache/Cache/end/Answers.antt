use Rattle.pcache_request.specs.StorePasts.{dropped_past, left_past}
use Rattle.pcache_cache.proofs.Adding.{dropped_keeps, left_keeps}
use Rattle.pcache_cache.proofs.Naming.{names_done, names_kept}
use Rattle.pcache_cache.proofs.Kept.{kept_ended}
use Rattle.pcache_cache.proofs.Words.{Some, let_go_deeds}
use Rattle.pcache_cache.proofs.Adding.{let_go_keeps}
use Rattle.pcache_cache.proofs.Unlocking.{once_done, none_kept}
use Rattle.pcache_cache.proofs.cache.Cache.end.Goals as goal

pub invariant_of-self : goal.invariant_of-self
invariant_of-self g c =
    let limits = g.M.EvictionManager.limits c.self.inside.manager in
    let tracked = g.M.EvictionManager.tracked c.self.inside.manager in (
      kept_ended c.self.inside.weighing limits tracked c.self.inside.store.state c.end.new.storage.state c.into_cache.result.reader c.into_cache.result.write c.end.ensures.ends.gives.store c.self.invariant.0,
      once_done (let_go_deeds c.into_cache.result.held) (Some c.self.inside.lock.past) (Some c.end.new.lock.past) (let_go_keeps none_kept c.into_cache.result.held) c.end.ensures.ends.deeds c.self.invariant.1,
      names_done (λ x. left_past c.into_cache.result.reader (dropped_past c.into_cache.result.write x)) (Some c.self.inside.store.past) (Some c.end.new.storage.past) (λ x is. left_keeps names_kept c.into_cache.result.reader (dropped_past c.into_cache.result.write x) (dropped_keeps names_kept c.into_cache.result.write x is)) c.end.ensures.ends.gives.past c.self.invariant.2,
    )
