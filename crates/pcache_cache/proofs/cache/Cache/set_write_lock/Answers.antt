use Rattle.pcache_cache.proofs.Words.{Some, handed_deeds}
use Rattle.pcache_cache.proofs.Adding.{handed_keeps}
use Rattle.pcache_cache.proofs.Unlocking.{once_done, none_kept}
use Rattle.pcache_cache.proofs.cache.Cache.set_write_lock.Goals as goal

pub invariant_of-self : goal.invariant_of-self
invariant_of-self g c = (
  c.self.invariant.0,
  once_done (handed_deeds c.args.permit c.args.request.now.cache) (Some c.self.inside.lock.past) (Some c.set_write_lock.new.lock.past) (handed_keeps none_kept c.args.permit c.args.request.now.cache) c.set_write_lock.ensures.takes.deeds c.self.invariant.1,
  c.self.invariant.2,
)
