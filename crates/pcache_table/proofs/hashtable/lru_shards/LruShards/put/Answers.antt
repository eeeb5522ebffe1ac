use Rattle.pcache_table.proofs.Words.{◌%◌, ◌<◌, ◌∙◌, arith, refl, sym, slice_get_read, slice_get_within, length-set, InPlace}
use Rattle.pcache_table.proofs.ShardLists.{each-set, in-place-either}
use Rattle.pcache_table.proofs.hashtable.lru_shards.LruShards.put.Goals as goal

pub invariant_of-self : goal.invariant_of-self
invariant_of-self g c =
    let ps = c.self.inside.shards.items in
    let within : c.args.key % g.row.N < g.row.N = omega (arith, c.self.invariant.0) in
    let at = slice_get_read ps g.row.N (c.args.key % g.row.N) c.index_mut-shard.result.now (sym c.self.invariant.1) within c.index_mut-shard.ensures.value in (
      c.self.invariant.0,
      length-set ps (c.args.key % g.row.N) c.put.new.self ∙ c.self.invariant.1,
      each-set (InPlace g.row.N) (c.args.key % g.row.N) ps c.put.new.self (slice_get_within ps (c.args.key % g.row.N) _ at) c.self.invariant.2 (in-place-either g.row.N (c.args.key % g.row.N) c.args.key c.args.value _ c.put.new.self c.put.result refl c.put.ensures.ok c.put.ensures.err (c.self.invariant.2 (c.args.key % g.row.N) _ at)),
    )
