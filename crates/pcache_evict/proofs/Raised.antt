-- What one look-up gives: the weight of the others, and how much heavier a change makes a list.
use Rattle.std.proofs.Common.{append-nil}
use Rattle.pcache_evict.specs.Recency.{weight}
use Rattle.pcache_evict.proofs.Words.{◌≡◌, ℕ, ◌+◌, ◌-◌, ◌≤◌, true, Option, None, Some, is_some, cond, unwrap_or, [], refl, ap, sym, subst, arith, length, CacheEntryKey, Limits, raised, Recency, weight_of, others, moved, incremented, IsWithinAsList, IsEnough, IsOnce}
use Rattle.pcache_evict.proofs.Recency.{weight-others, length-others, weight-moved}

-- what the others weigh is what is left without the entry's own weight
pub left_over : (k : CacheEntryKey) (l : Recency) (w : ℕ) → IsOnce l → unwrap_or (weight_of k l) 0 ≡ w → (w ≤ weight l) × (weight l - w ≡ weight (others k l))
left_over k l w once e =
    let whole = weight-others k l once in
    (omega (arith, whole, e), omega (arith, whole, e))

-- if the limits hold, nothing has to go
pub enough_inside : (limits : Limits) (l : Recency) (room : ℕ) → IsWithinAsList limits l → IsEnough limits l room
enough_inside limits l room inside = (l, [], sym (append-nil l), omega arith, inside)

-- an entry in front makes a list heavier by its weight at most, and longer by one
pub moved_less : (k : CacheEntryKey) (n : ℕ) (l : Recency) → IsOnce l → (weight (moved k n l) ≤ weight l + n) × (length (moved k n l) ≤ length l + 1)
moved_less k n l once =
    let whole = weight-moved k n l in
    let heavy = weight-others k l once in
    let long = length-others k l once in
    (omega (arith, whole, heavy), omega (arith, long))

raised_less : (w delta : ℕ) (cap : Option ℕ) → raised delta cap (Some w) ≤ w + delta
raised_less w delta cap = omega arith

-- a raised weight makes it heavier by so much at most, and no longer
pub incremented_less : (k : CacheEntryKey) (delta : ℕ) (cap : Option ℕ) (l : Recency) → IsOnce l → is_some (weight_of k l) ≡ true
    → (weight (incremented k delta cap l) ≤ weight l + delta) × (length (incremented k delta cap l) ≤ length l)
incremented_less k delta cap l once there = by_weight (weight_of k l) refl there where
  by_weight : (o : Option ℕ) → weight_of k l ≡ o → is_some o ≡ true → (weight (incremented k delta cap l) ≤ weight l + delta) × (length (incremented k delta cap l) ≤ length l)
  by_weight None e none = cc
  by_weight (Some w) e some =
      let more : raised delta cap (weight_of k l) ≤ w + delta = subst (λ o. raised delta cap o ≤ w + delta) (sym e) (raised_less w delta cap) in
      let whole = weight-moved k (raised delta cap (weight_of k l)) l in
      let heavy = weight-others k l once in
      let own = ap (λ o. unwrap_or o 0) e in
      let long = length-others k l once in
      let one = ap (λ o. cond {A = ℕ} (is_some o) 1 0) e in
      (omega (arith, more, whole, heavy, own), omega (arith, long, one))
