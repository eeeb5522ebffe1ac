use Rattle.pcache_table.proofs.Sharded.{belongs-remove}
use Rattle.pcache_table.proofs.hashtable.shard.Shard.remove.Goals as goal

pub invariant_of-self : goal.invariant_of-self
invariant_of-self g c = (c.self.invariant.0, rw c.remove.ensures.removed (belongs-remove g.row.N c.self.inside.place c.args.key c.self.inside.table c.self.invariant.1))
