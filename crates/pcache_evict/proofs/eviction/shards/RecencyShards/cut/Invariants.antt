use Rattle.pcache_evict.proofs.Words.{List, Recency, AreLengths, AreLonger}
use Rattle.pcache_evict.proofs.Cuts.{IsCut}
use Rattle.pcache_evict.proofs.eviction.shards.RecencyShards.cut.Given as goal

abbrev pub invariant-loop-place : goal.invariant-loop-place
invariant-loop-place g l = (shards : List Recency) → AreLengths g.row.N l.lens shards → AreLonger shards l.fn.self → IsCut l.place shards l.self
