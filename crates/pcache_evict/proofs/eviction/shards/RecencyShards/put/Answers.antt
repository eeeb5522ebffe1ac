use Rattle.pcache_evict.proofs.Words.{arith}
use Rattle.pcache_evict.proofs.Cuts.{put-back}
use Rattle.pcache_evict.proofs.Sharded.{kept-put-at, not-full}
use Rattle.pcache_evict.proofs.eviction.shards.RecencyShards.put.Goals as goal

pub invariant_of-self-2 : goal.invariant_of-self-2
invariant_of-self-2 g c =
    kept-put-at g.row.N c.self.inside.lists.items c.args.self.now c.self.inside.weight c.self.inside.items c.args.item c.args.size c.place_of-place.result c.index_mut-list.result.now c.put.new.self c.others-rest.result.0 c.others-rest.result.1 c.self.invariant c.self.view_is c.place_of-place.ensures.value c.index_mut-list.ensures.value c.in_ok-put.ensures.ok
    (let fits = c.ranges.size in omega arith) c.others-rest.ensures.sum c.others-rest.ensures.count (let few = not-full c.is_full.result c.others-rest.result.1 c.is_full.ensures c.if-is_full.false in omega arith)

pub returns-in_err-put-clause-err : goal.returns-in_err-put-clause-err
returns-in_err-put-clause-err g c =
    put-back c.from_residual.result c.self.inside.lists.items c.args.self.now c.place_of-place.result c.index_mut-list.result.now c.put.new.self c.self.view_is c.index_mut-list.ensures.value c.in_err-put.ensures.err
