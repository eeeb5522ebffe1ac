use Rattle.pcache_table.proofs.Words.{◌%◌, arith}
use Rattle.pcache_table.proofs.Seats.{place-at}
use Rattle.pcache_table.proofs.hashtable.concurrent.ConcurrentHashTable.get.Goals as goal

pub returns : goal.returns
returns g c =
    let some = c.self.invariant.0 in
    place-at c.self.inside.tables g.row.N (c.args.key % g.row.N) c.index-tables-key.result c.self.invariant.1 (omega arith)
