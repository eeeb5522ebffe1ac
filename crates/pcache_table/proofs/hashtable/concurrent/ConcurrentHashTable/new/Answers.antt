use Rattle.pcache_table.proofs.Seats.{all-places}
use Rattle.pcache_table.proofs.hashtable.concurrent.ConcurrentHashTable.new.Goals as goal

pub invariant_of-result : goal.invariant_of-result
invariant_of-result g c = (c.requires, all-places c.from_fn.result g.row.N c.from_fn.ensures.items.long (λ i e lt. (c.from_fn.ensures.items.at i e lt).2.met.1))

pub returns : goal.returns
returns g c = all-places c.from_fn.result g.row.N c.from_fn.ensures.items.long (λ i e lt. (c.from_fn.ensures.items.at i e lt).2.met.1)
