use Rattle.pcache_evict.proofs.Words.{arith}
use Rattle.pcache_evict.proofs.Sharded.{kept-reweighed-at}
use Rattle.pcache_evict.proofs.eviction.shards.RecencyShards.reweigh.Goals as goal

pub invariant_of-self : goal.invariant_of-self
invariant_of-self g c =
    kept-reweighed-at g.row.N c.self.inside.lists.items c.args.self.now c.self.inside.weight c.self.inside.items c.args.item.now c.args.size c.place_of-place.result c.index_mut-list.result.now c.reweigh_in_place.new.self c.args.rest c.self.invariant c.self.view_is c.place_of-place.ensures.value c.index_mut-list.ensures.value c.reweigh_in_place.ensures.list
    (let fits = c.ranges.size in omega arith) c.requires.sum c.requires.there
