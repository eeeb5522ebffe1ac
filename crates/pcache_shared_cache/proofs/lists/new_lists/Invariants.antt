use Rattle.pcache_shared_cache.proofs.Words.{◌≡◌, ◌≤◌, length, map, vec_capacity, range_with_len, Lru, listed, no_entries, unmade_limits, unmade_portion, portion_at}
use Rattle.pcache_shared_cache.proofs.lists.new_lists.Given as goal

-- the lists below the place are made, and there is room for the rest
abbrev pub invariant-loop-place : goal.invariant-loop-place
invariant-loop-place l =
    (map unmade_limits l.lists.items ≡ map (portion_at Lru l.fn.parts l.fn.limit l.fn.watermark) (range_with_len 0 l.place))
    × (map listed (map unmade_portion l.lists.items) ≡ map no_entries (map (portion_at Lru l.fn.parts l.fn.limit l.fn.watermark) (range_with_len 0 l.place)))
    × (length l.lists.items ≡ l.place)
    × (l.fn.parts ≤ vec_capacity l.lists)
