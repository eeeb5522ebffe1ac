use Rattle.pcache_shared_cache.proofs.Words.{◌≡◌, ◌+◌, ◌≤◌, ◌++◌, length, map, vec_len, vec_capacity, unmade_portion}
use Rattle.pcache_shared_cache.proofs.opening.new_parts.Given as goal

-- the portions that were taken so far are in their parts, and there is room for the rest
abbrev pub invariant-loop-portion : goal.invariant-loop-portion
invariant-loop-portion g l =
    (vec_len l.parts + length l.portion-iterator.rest.items ≤ vec_capacity l.parts) × (map unmade_portion l.parts.items ++ l.portion-iterator.rest.items ≡ l.fn.portions.items)
