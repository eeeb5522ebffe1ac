use Rattle.pcache_evict.proofs.Words.{ap, lru_cache}
use Rattle.pcache_evict.proofs.Recency.{written-put}
use Rattle.pcache_evict.proofs.eviction.recency.set_weight.Goals as goal

pub returns : goal.returns
returns g c = ap (λ l. lru_cache l c.args.cache.now.cap) (written-put c.args.cache.now c.args.item.now c.args.size c.requires)
