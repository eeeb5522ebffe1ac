use Rattle.pcache_evict.proofs.Words.{◌∙◌, sym}
use Rattle.pcache_evict.proofs.Maps.{len-map_of}
use Rattle.pcache_evict.proofs.eviction.simple_lru.ManagerEvictionManager.total_items.Goals as goal

pub returns : goal.returns
returns g c = c.total_items.ensures.value ∙ sym (len-map_of c.args.self.now.entries c.total_items.ensures.once)
