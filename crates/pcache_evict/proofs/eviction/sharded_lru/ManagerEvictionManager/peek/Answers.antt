use Rattle.pcache_evict.proofs.Words.{◌∙◌, sym, ap, is_some}
use Rattle.pcache_evict.proofs.ShardMaps.{found-map}
use Rattle.pcache_evict.proofs.eviction.sharded_lru.ManagerEvictionManager.peek.Goals as goal

pub returns : goal.returns
returns g c = c.peek.ensures.value ∙ ap is_some (sym (found-map g.row.N c.args.item.now c.args.self.now.shards c.peek.ensures.placed))
