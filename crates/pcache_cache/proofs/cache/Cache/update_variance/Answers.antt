use Rattle.pcache_cache.proofs.Words.{Some, varied_deeds}
use Rattle.pcache_cache.proofs.Adding.{varied_keeps}
use Rattle.pcache_cache.proofs.Unlocking.{once_done, none_kept}
use Rattle.pcache_cache.proofs.cache.Cache.update_variance.Goals as goal

pub invariant_of-self : goal.invariant_of-self
invariant_of-self g c = (
  c.self.invariant.0,
  once_done (varied_deeds c.args.variance c.args.request.now.cache) (Some c.self.inside.lock.past) (Some c.update_variance.new.lock.past) (varied_keeps none_kept c.args.variance c.args.request.now.cache) c.update_variance.ensures.varies.deeds c.self.invariant.1,
  c.self.invariant.2,
)
