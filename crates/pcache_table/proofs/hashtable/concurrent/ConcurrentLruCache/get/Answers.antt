use Rattle.pcache_table.proofs.Words.{◌%◌, ◌∙◌, ap, arith}
use Rattle.pcache_table.proofs.Seats.{seats-long, seat-at}
use Rattle.pcache_table.proofs.hashtable.concurrent.ConcurrentLruCache.get.Goals as goal

pub index-requires : goal.index-requires
index-requires g c =
    let locks = c.self.inside.lrus in
    omega (arith, c.self.invariant.0, locks.ok.0, seats-long locks.items g.row.N c.self.inside.capacity c.self.invariant.1)

pub returns : goal.returns
returns g c =
    let some = c.self.invariant.0 in
    c.index.ensures
    ∙ seat-at c.self.inside.lrus.items g.row.N c.self.inside.capacity (c.args.key % g.row.N) c.index.result.now c.self.invariant.1 (omega arith)
    ∙ ap (λ n. record { place = c.args.key % g.row.N; cap = n }) c.self.view_is
