use Rattle.pcache_evict.proofs.Words.{◌∙◌, sym, ap, min, ◌^◌, ◌-◌, all}
use Rattle.pcache_evict.proofs.Maps.{weight-map_of}
use Rattle.pcache_evict.proofs.Sharded.{once-all}
use Rattle.pcache_evict.proofs.eviction.sharded_lru.ManagerEvictionManager.total_size.Goals as goal

pub returns : goal.returns
returns g c = c.total_size.ensures.value ∙ ap (λ n. min n (2 ^ 64 - 1)) (sym (weight-map_of (all c.args.self.now.shards) (once-all g.row.N c.args.self.now.shards c.total_size.ensures.placed)))
