use Rattle.pcache_evict.proofs.Words.{length, list_at}
use Rattle.pcache_evict.proofs.Cuts.{CutTo}
use Rattle.pcache_evict.proofs.eviction.shards.RecencyShards.truncate.Given as goal

abbrev pub invariant-loop-self : goal.invariant-loop-self
invariant-loop-self g l = CutTo l.place l.len l.fn.self l.self

abbrev pub decreases-loop-self : goal.decreases-loop-self
decreases-loop-self g l = length (list_at l.self l.place)
