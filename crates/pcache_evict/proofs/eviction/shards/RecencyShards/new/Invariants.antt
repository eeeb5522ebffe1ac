use Rattle.pcache_evict.proofs.Words.{◌≡◌, no_entries}
use Rattle.pcache_evict.proofs.eviction.shards.RecencyShards.new.Given as goal

abbrev pub invariant-loop-place : goal.invariant-loop-place
invariant-loop-place g l = l.lists.items ≡ no_entries l._place
