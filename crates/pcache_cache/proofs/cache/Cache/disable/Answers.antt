use Rattle.pcache_request.specs.StorePasts.{dropped_past, left_past}
use Rattle.pcache_cache.proofs.Adding.{dropped_keeps, left_keeps}
use Rattle.pcache_cache.proofs.Naming.{names_done, names_kept}
use Rattle.pcache_cache.proofs.Kept.{kept_ended}
use Rattle.pcache_cache.proofs.Words.{Some, status_for, GiveUp, settled_deeds}
use Rattle.pcache_cache.proofs.Adding.{settled_keeps}
use Rattle.pcache_cache.proofs.Unlocking.{once_done, none_kept}
use Rattle.pcache_cache.proofs.cache.Cache.disable.Goals as goal

pub invariant_of-self : goal.invariant_of-self
invariant_of-self g c =
    let limits = g.M.EvictionManager.limits c.self.inside.manager in
    let tracked = g.M.EvictionManager.tracked c.self.inside.manager in (
      kept_ended c.self.inside.weighing limits tracked c.self.inside.store.state c.disable.new.storage.state c.args.request.now.cache.reader c.args.request.now.cache.write c.disable.ensures.disables.gives.store c.self.invariant.0,
      once_done (settled_deeds (status_for (λ text. GiveUp) c.args.reason) c.args.request.now.cache.held) (Some c.self.inside.lock.past) (Some c.disable.new.lock.past) (settled_keeps none_kept (status_for (λ text. GiveUp) c.args.reason) c.args.request.now.cache.held) c.disable.ensures.disables.settles.deeds c.self.invariant.1,
      names_done (λ x. left_past c.args.request.now.cache.reader (dropped_past c.args.request.now.cache.write x)) (Some c.self.inside.store.past) (Some c.disable.new.storage.past) (λ x is. left_keeps names_kept c.args.request.now.cache.reader (dropped_past c.args.request.now.cache.write x) (dropped_keeps names_kept c.args.request.now.cache.write x is)) c.disable.ensures.disables.gives.past c.self.invariant.2,
    )
