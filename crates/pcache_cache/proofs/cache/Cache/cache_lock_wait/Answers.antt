use Rattle.pcache_cache.proofs.Words.{Some, waited_deeds}
use Rattle.pcache_cache.proofs.Adding.{waited_keeps}
use Rattle.pcache_cache.proofs.Unlocking.{if_done, none_kept}
use Rattle.pcache_cache.proofs.cache.Cache.cache_lock_wait.Goals as goal

pub invariant_of-self : goal.invariant_of-self
invariant_of-self g c = (
  c.self.invariant.0,
  if_done c.cache_lock_wait.result (waited_deeds c.self.inside.lock.table c.args.now c.args.request.now.cache.held c.args.request.now.cache) (Some c.self.inside.lock.past) (Some c.cache_lock_wait.new.lock.past) (waited_keeps none_kept c.self.inside.lock.table c.args.now c.args.request.now.cache.held c.args.request.now.cache) c.cache_lock_wait.ensures.waits.deeds c.cache_lock_wait.ensures.waits.same_deeds c.self.invariant.1,
  c.self.invariant.2,
)
