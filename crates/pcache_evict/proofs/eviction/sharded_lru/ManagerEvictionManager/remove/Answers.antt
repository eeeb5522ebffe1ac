use Rattle.pcache_evict.proofs.Words.{refl, ◌∙◌, ap, map_of, all}
use Rattle.pcache_evict.proofs.ShardMaps.{map-others-in}
use Rattle.pcache_evict.proofs.eviction.sharded_lru.ManagerEvictionManager.remove.Goals as goal

pub returns-clause-tracked : goal.returns-clause-tracked
returns-clause-tracked g c = ap (λ s. map_of (all s.shards)) c.remove.ensures.ok ∙ map-others-in g.row.N c.args.item.now c.args.self.now.shards c.remove.ensures.placed

pub returns-clause-order : goal.returns-clause-order
returns-clause-order g c = (c.args.self.now.shards, c.remove.new.self.shards, refl, refl, ap (λ s. s.shards) c.remove.ensures.ok)
