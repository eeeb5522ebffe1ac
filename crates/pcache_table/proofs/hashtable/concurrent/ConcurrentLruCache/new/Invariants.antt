use Rattle.pcache_table.proofs.Words.{◌≡◌, max, seats}
use Rattle.pcache_table.proofs.hashtable.concurrent.ConcurrentLruCache.new.Given as goal

-- the locks below the place are made
abbrev pub invariant-loop-place : goal.invariant-loop-place
invariant-loop-place g l = l.lrus.items ≡ seats l.place (max l.shard_capacity 1)
