-- How a limit is split among parts, and which part a key belongs to (own).
use Rattle.std.specs.Prelude.{ℕ, ◌+◌, ◌/◌, ◌%◌, ◌^◌, List, [], ◌∷◌, Option, None, Some, cond, map, nat_lt, option_map, sum_by}
use Rattle.std.specs.List.{range_with_len}
use Rattle.pcache_base.specs.Key.{Key, number_of, primary_of}
use Rattle.pcache_evict.specs.declared.eviction.policy.EvictionPolicy.{EvictionPolicy}
use Rattle.pcache_evict.specs.Tracked.{Limits, limits_of}

-- the portion of a whole for the part at a place, of n parts: all get the same, and the first ones get one more each, for
-- the remainder
abbrev pub portion : ℕ → ℕ → ℕ → ℕ
portion whole n place = whole / n + cond (nat_lt place (whole % n)) 1 0

-- the limits of the part at a place, of n parts that go by one policy, and those of all parts
abbrev pub portion_at : EvictionPolicy → ℕ → ℕ → Option ℕ → ℕ → Limits
portion_at policy n limit watermark place = limits_of policy (portion limit n place) (option_map (λ w. portion w n place) watermark)

abbrev pub portions : EvictionPolicy → ℕ → ℕ → Option ℕ → List Limits
portions policy n limit watermark = map (portion_at policy n limit watermark) (range_with_len 0 n)

-- the place of a key's part, of n parts: the first eight bytes of its primary hash as a number, modulo n
abbrev pub place_of : ℕ → Key → ℕ
place_of n k = (number_of (primary_of k) / 2 ^ 64) % n

-- the sum of the limits on weight
abbrev pub whole_weight : List Limits → ℕ
whole_weight ls = sum_by (λ l. l.weight) ls

-- the sum of the watermarks, if each part has one
abbrev pub added_watermark : Option ℕ → Option ℕ → Option ℕ
added_watermark None rest = None
added_watermark (Some most) None = None
added_watermark (Some most) (Some rest) = Some (most + rest)

abbrev pub whole_watermark : List Limits → Option ℕ
whole_watermark [] = Some 0
whole_watermark (l ∷ ls) = added_watermark l.watermark (whole_watermark ls)
