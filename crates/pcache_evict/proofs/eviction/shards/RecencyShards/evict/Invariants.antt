use Rattle.pcache_evict.specs.Recency.{weight}
use Rattle.pcache_evict.proofs.Words.{◌≡◌, ◌≤◌, length, vec_capacity, ShardedLru, limits_of, all, chain}
use Rattle.pcache_evict.proofs.Walks.{Pops}
use Rattle.pcache_evict.proofs.Chains.{RunsTo}
use Rattle.pcache_evict.proofs.eviction.shards.RecencyShards.evict.Given as goal

abbrev pub invariant-loop-watermark : goal.invariant-loop-watermark
invariant-loop-watermark g l =
    record {
      runs : RunsTo (limits_of ShardedLru l.limit l.watermark) l.fn.self l.out.items l.self;
      pops : Pops (limits_of ShardedLru l.limit l.watermark) (chain g.row.N l.place l.fn.self) (chain g.row.N l.place l.self) l.out.items;
      lighter : weight (all l.self) ≤ weight (all l.fn.self);
      room : vec_capacity l.out ≡ vec_capacity l.fn.out;
    }

abbrev pub decreases-loop-watermark : goal.decreases-loop-watermark
decreases-loop-watermark g l = length (all l.self)
