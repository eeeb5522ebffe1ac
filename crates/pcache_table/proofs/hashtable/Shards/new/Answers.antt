use Rattle.pcache_table.proofs.Sharded.{made-empty, made-placed}
use Rattle.pcache_table.proofs.hashtable.Shards.new.Goals as goal

pub invariant_of-result : goal.invariant_of-result
invariant_of-result g c = (c.requires, made-placed g.row.N c.from_fn.result c.from_fn.ensures.items.long (λ i e lt. (c.from_fn.ensures.items.at i e lt).2.met.1))

pub returns : goal.returns
returns g c = made-empty g.row.N c.from_fn.result c.from_fn.ensures.items.long (λ i e lt. (c.from_fn.ensures.items.at i e lt).2.met.1)
