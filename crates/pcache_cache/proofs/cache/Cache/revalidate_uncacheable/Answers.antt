use Rattle.pcache_cache.proofs.Words.{Some, status_for, GiveUp, settled_deeds}
use Rattle.pcache_cache.proofs.Adding.{settled_keeps}
use Rattle.pcache_cache.proofs.Unlocking.{once_done, none_kept}
use Rattle.pcache_cache.proofs.cache.Cache.revalidate_uncacheable.Goals as goal

pub invariant_of-self : goal.invariant_of-self
invariant_of-self g c = (
  c.self.invariant.0,
  once_done (settled_deeds (status_for (λ text. GiveUp) c.args.reason) c.args.request.now.cache.held) (Some c.self.inside.lock.past) (Some c.revalidate_uncacheable.new.lock.past) (settled_keeps none_kept (status_for (λ text. GiveUp) c.args.reason) c.args.request.now.cache.held) c.revalidate_uncacheable.ensures.settles.deeds c.self.invariant.1,
  c.self.invariant.2,
)
