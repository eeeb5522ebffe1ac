use Rattle.pcache_evict.proofs.Words.{◌∙◌, sym, all}
use Rattle.pcache_evict.proofs.Maps.{len-map_of}
use Rattle.pcache_evict.proofs.Sharded.{once-all}
use Rattle.pcache_evict.proofs.eviction.sharded_lru.ManagerEvictionManager.total_items.Goals as goal

pub returns : goal.returns
returns g c = c.total_items.ensures.value ∙ sym (len-map_of (all c.args.self.now.shards) (once-all g.row.N c.args.self.now.shards c.total_items.ensures.placed))
