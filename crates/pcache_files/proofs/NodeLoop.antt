-- Reading nodes one after the other, as a loop does.
use Rattle.pcache_meta.specs.Reading.{FailsOrWants}
use Rattle.pcache_meta.proofs.Refusals.{FailsOrWants-along}
use Rattle.pcache_files.specs.FileReading.{node_at, nodes_at}
use Rattle.pcache_files.proofs.Words.{◌≡◌, ℕ, suc, ◌-◌, ◌+◌, ◌≤◌, ◌<◌, List, [], ◌∷◌, ◌++◌, Option, Some, None, refl, sym, ap, ◌∙◌, append_assoc, arith, append-nil, ErrorType, ◌>>=◌, CacheEntryKey, Recency}

-- what was read before, and what is still read
abbrev pub with_front : Recency → Option (Recency × List ℕ) → Option (Recency × List ℕ)
with_front front read = read >>= λ x. Some (front ++ x.0, x.1)

regroup : (front : Recency) (node : CacheEntryKey × ℕ) (read : Option (Recency × List ℕ)) → with_front front (read >>= λ x. Some (node ∷ x.0, x.1)) ≡ with_front (front ++ node ∷ []) read
regroup front node (Some x) = ap (λ (l : Recency). Some (l, x.1)) (simp append_assoc)
regroup front node None = refl

-- one more node
pub goes_on : (front : Recency) (n i : ℕ) (bytes : List ℕ) (node : CacheEntryKey × ℕ) (after : List ℕ) (total : Option (Recency × List ℕ)) → i < n
    → node_at bytes ≡ Some (node, after) → with_front front (nodes_at (n - i) bytes) ≡ total → with_front (front ++ node ∷ []) (nodes_at (n - (i + 1)) after) ≡ total
unfolding nodes_at
goes_on front n i bytes node after total lt h so_far =
    let k : n - i ≡ suc (n - (i + 1)) = omega arith in
    let one : with_front front (nodes_at (n - i) bytes) ≡ with_front (front ++ node ∷ []) (nodes_at (n - (i + 1)) after) = rw (k, h) (regroup front node (nodes_at (n - (i + 1)) after)) in
    sym one ∙ so_far

-- no further node
pub ends : (e : ErrorType) (front : Recency) (n i : ℕ) (bytes : List ℕ) (total : Option (Recency × List ℕ)) → i < n → FailsOrWants e (node_at bytes)
    → with_front front (nodes_at (n - i) bytes) ≡ total → FailsOrWants e total
unfolding nodes_at
ends e front n i bytes total lt h so_far = FailsOrWants-along e (node_at bytes) total h (λ none.
    let k : n - i ≡ suc (n - (i + 1)) = omega arith in
    let one : with_front front (nodes_at (n - i) bytes) ≡ None = rw (k, none) refl in
    sym so_far ∙ one)

pub is_done : (front : Recency) (n i : ℕ) (bytes : List ℕ) (total : Option (Recency × List ℕ)) → n ≤ i
    → with_front front (nodes_at (n - i) bytes) ≡ total → total ≡ Some (front, bytes)
unfolding nodes_at
is_done front n i bytes total le so_far =
    let k : n - i ≡ 0 = omega arith in
    let one : with_front front (nodes_at (n - i) bytes) ≡ Some (front, bytes) = rw k (ap (λ (l : Recency). Some (l, bytes)) (append-nil front)) in
    sym so_far ∙ one
