-- Reading the bytes of a hash one after the other, as a loop does.
use Rattle.std.proofs.lemmas.List.{take_more_set, take_all}
use Rattle.pcache_meta.specs.Reading.{number_below_at, small_numbers_at}
use Rattle.pcache_meta.proofs.Words.{◌≡◌, ℕ, suc, ◌-◌, ◌+◌, ◌≤◌, ◌<◌, List, [], ◌∷◌, ◌++◌, Option, Some, None, length, take, refl, sym, ap, ◌∙◌, append_assoc, arith, append-nil, slice_set, ErrorType, ◌>>=◌, Fails}
use Rattle.pcache_meta.proofs.Refusals.{Fails-along}

-- what was read before, and what is still read
abbrev pub with_front : List ℕ → Option (List ℕ × List ℕ) → Option (List ℕ × List ℕ)
with_front front read = read >>= λ x. Some (front ++ x.0, x.1)

regroup : (front : List ℕ) (b : ℕ) (read : Option (List ℕ × List ℕ)) → with_front front (read >>= λ x. Some (b ∷ x.0, x.1)) ≡ with_front (front ++ b ∷ []) read
regroup front b (Some x) = ap (λ (bs : List ℕ). Some (bs, x.1)) (simp append_assoc)
regroup front b None = refl

-- one more number
pub goes_on : (out : List ℕ) (i : ℕ) (bytes : List ℕ) (b : ℕ) (after : List ℕ) (total : Option (List ℕ × List ℕ)) → i < 16 → length out ≡ 16
    → number_below_at 256 bytes ≡ Some (b, after) → with_front (take i out) (small_numbers_at (16 - i) bytes) ≡ total
    → with_front (take (i + 1) (slice_set out i b)) (small_numbers_at (16 - (i + 1)) after) ≡ total
unfolding small_numbers_at
goes_on out i bytes b after total lt len h so_far =
    let k : 16 - i ≡ suc (16 - (i + 1)) = omega arith in
    let one : with_front (take i out) (small_numbers_at (16 - i) bytes) ≡ with_front (take i out ++ b ∷ []) (small_numbers_at (16 - (i + 1)) after) =
    rw (k, h) (regroup (take i out) b (small_numbers_at (16 - (i + 1)) after)) in
    rw (take_more_set out i b (omega arith)) (sym one ∙ so_far)

-- no further number
pub ends : (e : ErrorType) (front : List ℕ) (i : ℕ) (bytes : List ℕ) (total : Option (List ℕ × List ℕ)) → i < 16 → Fails e (number_below_at 256 bytes)
    → with_front front (small_numbers_at (16 - i) bytes) ≡ total → Fails e total
unfolding small_numbers_at
ends e front i bytes total lt h so_far = Fails-along e (number_below_at 256 bytes) total h (λ none.
    let k : 16 - i ≡ suc (16 - (i + 1)) = omega arith in
    let one : with_front front (small_numbers_at (16 - i) bytes) ≡ None = rw (k, none) refl in
    sym so_far ∙ one)

pub is_done : (out : List ℕ) (i : ℕ) (bytes : List ℕ) (total : Option (List ℕ × List ℕ)) → 16 ≤ i → length out ≡ 16
    → with_front (take i out) (small_numbers_at (16 - i) bytes) ≡ total → total ≡ Some (out, bytes)
unfolding small_numbers_at
is_done out i bytes total le len so_far =
    let k : 16 - i ≡ 0 = omega arith in
    let all : take i out ≡ out = take_all i out (omega arith) in
    let one : with_front (take i out) (small_numbers_at (16 - i) bytes) ≡ Some (out, bytes) =
    rw (k, all) (ap (λ (bs : List ℕ). Some (bs, bytes)) (append-nil out)) in
    sym so_far ∙ one
