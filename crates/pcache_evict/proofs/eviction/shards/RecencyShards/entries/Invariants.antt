use Rattle.std.proofs.Common.{drop}
use Rattle.pcache_evict.proofs.Words.{◌≡◌, ◌++◌, all}
use Rattle.pcache_evict.proofs.eviction.shards.RecencyShards.entries.Given as goal

abbrev pub invariant-loop-list : goal.invariant-loop-list
invariant-loop-list g l = all l.list-items ≡ l.entries.items ++ all (drop l.list-index l.list-items)
