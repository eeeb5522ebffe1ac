use Rattle.pcache_table.proofs.Sharded.{belongs-empty}
use Rattle.pcache_table.proofs.hashtable.shard.Shard.at.Goals as goal

pub invariant_of-result : goal.invariant_of-result
invariant_of-result g c = (c.requires, rw c.new.ensures (belongs-empty g.row.N c.args.place))
