use Rattle.pcache_cache.proofs.Words.{Some, refl, status_for, GiveUp, settled_deeds}
use Rattle.pcache_cache.proofs.Adding.{settled_keeps}
use Rattle.pcache_cache.proofs.Unlocking.{once_done, none_kept}
use Rattle.pcache_cache.proofs.cache.Cache.release_write_lock.Goals as goal

pub invariant_of-self : goal.invariant_of-self
invariant_of-self g c = (
  c.self.invariant.0,
  once_done (settled_deeds (status_for (λ text. GiveUp) c.args.reason) c.args.request.now.cache.held) (Some c.self.inside.lock.past) (Some c.release_write_lock.new.lock.past) (settled_keeps none_kept (status_for (λ text. GiveUp) c.args.reason) c.args.request.now.cache.held) c.release_write_lock.ensures.releases.settles.deeds c.self.invariant.1,
  c.self.invariant.2,
)

pub returns : goal.returns
returns g c = rw (← c.self.view_is) (record { takes = record { takes = c.release_write_lock.ensures.releases; rest = refl }; fetch = refl })
