use Rattle.pcache_table.proofs.ShardLists.{own-remove}
use Rattle.pcache_table.proofs.hashtable.lru_shard.LruShard.pop.Goals as goal

pub invariant_of-self : goal.invariant_of-self
invariant_of-self g c = (c.self.invariant.0, rw c.pop.ensures.entries (own-remove g.row.N c.self.inside.place c.args.key c.self.inside.cache.entries c.self.invariant.1))
