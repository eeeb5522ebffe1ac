use Rattle.pcache_evict.proofs.Words.{◌-◌, ◌≤◌, ShardedLru, limits_of, Walks, span}
use Rattle.pcache_evict.proofs.eviction.shards.RecencyShards.walk.Given as goal

abbrev pub invariant-loop-place : goal.invariant-loop-place
invariant-loop-place g l = record {
  walks : Walks (limits_of ShardedLru l.limit l.watermark) l.item (span l.self l.from (l.place - l.from)) l.fn.start l.walk;
  order : l.from ≤ l.place;
}
