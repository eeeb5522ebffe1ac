use Rattle.pcache_evict.proofs.Words.{◌≡◌, ℕ, ◌<◌, ◌≤◌, [], list_at}
use Rattle.pcache_evict.proofs.eviction.shards.RecencyShards.first_of.Given as goal

abbrev pub invariant-loop-place : goal.invariant-loop-place
invariant-loop-place g l = (i : ℕ) → l.from ≤ i → i < l.place → list_at l.self i ≡ []
