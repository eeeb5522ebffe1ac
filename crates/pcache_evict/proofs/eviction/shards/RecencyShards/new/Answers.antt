use Rattle.pcache_evict.proofs.Words.{arith}
use Rattle.pcache_evict.proofs.Sharded.{kept-empty}
use Rattle.pcache_evict.proofs.eviction.shards.RecencyShards.new.Goals as goal

pub invariant_of-result : goal.invariant_of-result
invariant_of-result g c = kept-empty g.row.N c.loop-place._place c.loop-place.lists.items c.requires (omega arith) c.loop-place.invariant
