use Rattle.pcache_evict.proofs.Words.{◌≡◌, length, vec_capacity, Lru, limits_of}
use Rattle.pcache_evict.proofs.Walks.{Pops}
use Rattle.pcache_evict.proofs.eviction.recency.RecencyList.evict.Given as goal

abbrev pub invariant-loop-watermark : goal.invariant-loop-watermark
invariant-loop-watermark g l =
    record {
      pops : Pops (limits_of Lru l.limit l.watermark) l.fn.self l.self l.out.items;
      room : vec_capacity l.out ≡ vec_capacity l.fn.out;
    }

abbrev pub decreases-loop-watermark : goal.decreases-loop-watermark
decreases-loop-watermark g l = length l.self
