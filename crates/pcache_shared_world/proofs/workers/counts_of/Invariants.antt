use Rattle.pcache_shared_world.proofs.Words.{◌≡◌, map, take, length, vec_capacity, vec_len}
use Rattle.pcache_shared_world.proofs.workers.counts_of.Given as goal

abbrev pub invariant-loop-share : goal.invariant-loop-share
invariant-loop-share g l = (l.counts.items ≡ map length (take l.share-index l.shares)) × (vec_len l.counts ≡ l.share-index) × (vec_capacity l.counts ≡ length l.shares)
