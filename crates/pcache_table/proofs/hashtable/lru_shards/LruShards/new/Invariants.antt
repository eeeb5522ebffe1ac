use Rattle.pcache_table.proofs.Words.{◌≡◌, max, new_lists}
use Rattle.pcache_table.proofs.hashtable.lru_shards.LruShards.new.Given as goal

-- the shards below the place are made
abbrev pub invariant-loop-place : goal.invariant-loop-place
invariant-loop-place g l = l.shards.items ≡ new_lists l.place (max l.shard_capacity 1)
