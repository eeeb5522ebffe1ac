use Rattle.pcache_cache.proofs.Words.{Some, published_deeds}
use Rattle.pcache_cache.proofs.Adding.{published_keeps}
use Rattle.pcache_cache.proofs.Unlocking.{if_done, none_kept}
use Rattle.pcache_cache.proofs.cache.Cache.lock_publish_fill_tokens.Goals as goal

pub invariant_of-self : goal.invariant_of-self
invariant_of-self g c = (
  c.self.invariant.0,
  if_done c.lock_publish_fill_tokens.result (published_deeds c.args.tokens.now c.args.request.now.cache.held) (Some c.self.inside.lock.past) (Some c.lock_publish_fill_tokens.new.lock.past) (published_keeps none_kept c.args.tokens.now c.args.request.now.cache.held) c.lock_publish_fill_tokens.ensures.publishes.deeds c.lock_publish_fill_tokens.ensures.publishes.same_deeds c.self.invariant.1,
  c.self.invariant.2,
)
