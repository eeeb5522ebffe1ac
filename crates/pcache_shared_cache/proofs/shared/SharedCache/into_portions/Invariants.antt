use Rattle.pcache_shared_cache.proofs.Words.{◌+◌, ◌≤◌, length, vec_len, vec_capacity, limits_in}
use Rattle.pcache_shared_cache.proofs.Parting.{HandedOut}
use Rattle.pcache_shared_cache.proofs.Together.{limits_begun}
use Rattle.pcache_shared_cache.proofs.shared.SharedCache.into_portions.Given as goal

-- the managers of the parts that were taken so far are handed out, and there is room for the rest
abbrev pub invariant-loop-part : goal.invariant-loop-part
invariant-loop-part g l =
    (vec_len l.portions + length l.part-iterator.rest.items ≤ vec_capacity l.portions)
    × HandedOut g.M.EvictionManager.tracked g.M.EvictionManager.evicted (limits_in l.fn.self) (limits_begun l.part-iterator.rest.items) l.portions.items
