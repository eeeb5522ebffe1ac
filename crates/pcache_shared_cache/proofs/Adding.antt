-- Portions of a whole add up to it.
use Rattle.std.proofs.Common.{◌/◌, ◌%◌, nat_lt}
use Rattle.std.specs.Prelude.{min}
use Rattle.std.proofs.Math.Nat.{mod-add-div}
use Rattle.pcache_shared_cache.proofs.Words.{◌≡◌, ℕ, ◌+◌, ◌*◌, ◌<◌, zero, suc, cond, map, ap, arith, sum, range_with_len, sum_by-cons, portion}

rest : (i r : ℕ) → cond (nat_lt i r) 1 0 + min i r ≡ min (i + 1) r
rest i r = grind arith

added : (q r n i : ℕ) → sum (map (λ j. q + cond (nat_lt j r) 1 0) (range_with_len i n)) + min i r ≡ n * q + min (i + n) r
added q r zero i = omega arith
added q r (suc n) i =
    let first = sum_by-cons (λ x. x) (q + cond (nat_lt i r) 1 0) (map (λ j. q + cond (nat_lt j r) 1 0) (range_with_len (i + 1) n)) in
    let tail = added q r n (i + 1) in
    let one = rest i r in
    let times : suc n * q ≡ n * q + q = omega arith in
    let same : min (i + suc n) r ≡ min (i + 1 + n) r = ap (λ k. min k r) (omega arith) in
    omega (arith, first, tail, one, times, same)

pub add_up : (whole n : ℕ) → 0 < n → sum (map (portion whole n) (range_with_len 0 n)) ≡ whole
add_up whole n some =
    let r = whole % n in
    let all = added (whole / n) r n 0 in
    let split = mod-add-div whole n in
    let small : r < n = omega arith in
    let is : min (0 + n) r ≡ r = omega arith in
    let none : min 0 r ≡ 0 = omega arith in
    omega (arith, all, split, is, none)
