use Rattle.pcache_evict.proofs.Words.{arith}
use Rattle.pcache_evict.proofs.Sharded.{kept-bound, not-full}
use Rattle.pcache_evict.proofs.Cuts.{kept-pushed, put-back}
use Rattle.pcache_evict.proofs.eviction.shards.RecencyShards.push_last.Goals as goal

pub overflow_add-self : goal.overflow_add-self
overflow_add-self g c =
    let bound = kept-bound g.row.N c.self.inside.lists.items c.self.inside.weight c.self.inside.items c.self.invariant in
    let fits = c.ranges.size in
    omega arith

pub invariant_of-self-2 : goal.invariant_of-self-2
invariant_of-self-2 g c =
    kept-pushed g.row.N c.self.inside.lists.items c.args.self.now c.self.inside.weight c.self.inside.items c.args.item c.args.size c.place_of-shard.result c.index_mut-list.result.now c.push_last.new.self c.self.invariant c.self.view_is c.place_of-shard.ensures.value c.index_mut-list.ensures.value c.in_ok-push_last.ensures.ok
    (let fits = c.ranges.size in omega arith) c.requires
    (let few = not-full c.is_full.result c.self.inside.items c.is_full.ensures c.if-is_full.false in omega arith)

pub returns-in_err-push_last-clause-err : goal.returns-in_err-push_last-clause-err
returns-in_err-push_last-clause-err g c =
    put-back c.from_residual.result c.self.inside.lists.items c.args.self.now c.place_of-shard.result c.index_mut-list.result.now c.push_last.new.self c.self.view_is c.index_mut-list.ensures.value c.in_err-push_last.ensures.err
