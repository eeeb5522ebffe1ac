use Rattle.pcache_shared_cache.proofs.Words.{◌+◌, ◌≤◌, length, vec_len, vec_capacity, as_nanos, opened, unmade_managed}
use Rattle.pcache_shared_cache.proofs.Placing.{Made}
use Rattle.pcache_shared_cache.proofs.shared.locks_of.Given as goal

-- the parts that were taken so far have their locks, and there is room for the rest
abbrev pub invariant-loop-new_part : goal.invariant-loop-new_part
invariant-loop-new_part g l = (vec_len l.parts + length l.new_part-iterator.rest.items ≤ vec_capacity l.parts) × Made (λ u. opened (as_nanos l.fn.age_timeout) (unmade_managed g.M.EvictionManager.tracked g.M.EvictionManager.evicted u)) l.fn.new_parts.items l.new_part-iterator.rest.items l.parts.items
