use Rattle.pcache_table.proofs.Seats.{place-at}
use Rattle.pcache_table.proofs.Words.{arith}
use Rattle.pcache_table.proofs.hashtable.concurrent.ConcurrentHashTable.get_shard_at_idx.Goals as goal

pub returns-then-place-clause-place : goal.returns-then-place-clause-place
returns-then-place-clause-place g c =
    let within = c.if-place.true in
    place-at c.self.inside.tables g.row.N c.args.place c.index-tables-place.result c.self.invariant.1 (omega arith)
