-- A weight set in place.
use Rattle.std.specs.List.{IsDistinct}
use Rattle.std.proofs.lemmas.Map.{keys-set_value}
use Rattle.pcache_evict.specs.Recency.{weight}
use Rattle.pcache_evict.proofs.Words.{◌≡◌, ℕ, ◌+◌, ◌-◌, ◌≤◌, ◌^◌, true, false, cond, not, Some, [], ◌∷◌, refl, ap, sym, subst, ◌∙◌, arith, length, All, IsSome, keys_of, All-cons, All-head, All-tail, sum_by-cons, length-set_value, IsDistinct-head, IsDistinct-tail, LruCache, lru_cache, CacheEntryKey, entry_eq, Recency, weight_of, others, IsKept, IsOnce, reweighed}
use Rattle.pcache_evict.proofs.Recency.{all_apart}

pub once-reweighed : (k : CacheEntryKey) (n : ℕ) (l : Recency) → IsOnce l → IsOnce (reweighed k n l)
once-reweighed k n l d = subst (IsDistinct entry_eq) (sym (keys-set_value (entry_eq k) l n)) d

-- its weight is the new one, with those of the others
pub weight-reweighed : (k : CacheEntryKey) (n : ℕ) (l : Recency) → IsOnce l → IsSome (weight_of k l) → weight (reweighed k n l) ≡ weight (others k l) + n
weight-reweighed k n [] d h = cc
weight-reweighed k n (e ∷ l) d h =
    elim (entry_eq k e.0) as (λ b. entry_eq k e.0 ≡ b → IsSome (cond b (Some e.1) (weight_of k l)) → weight (cond b ((e.0, n) ∷ l) (e ∷ reweighed k n l)) ≡ weight (cond (not b) (e ∷ others k l) (others k l)) + n) [
      | true ↦ λ t _.
          let same = ap weight (all_apart k e.0 l t (IsDistinct-head entry_eq e.0 (keys_of l) d)) in
          let whole : weight ((e.0, n) ∷ l) ≡ n + weight l = sum_by-cons (λ (e : CacheEntryKey × ℕ). e.1) (e.0, n) l in
          omega arith
      | false ↦ λ t there.
          let rest = weight-reweighed k n l (IsDistinct-tail entry_eq e.0 (keys_of l) d) there in
          let whole : weight (e ∷ reweighed k n l) ≡ e.1 + weight (reweighed k n l) = sum_by-cons (λ (e : CacheEntryKey × ℕ). e.1) e (reweighed k n l) in
          let split : weight (e ∷ others k l) ≡ e.1 + weight (others k l) = sum_by-cons (λ (e : CacheEntryKey × ℕ). e.1) e (others k l) in
          omega arith
    ] refl h

pub small-reweighed : (k : CacheEntryKey) (n : ℕ) (l : Recency) → n ≤ 2 ^ 64 - 1 → All (λ e. e.1 ≤ 2 ^ 64 - 1) l → All (λ e. e.1 ≤ 2 ^ 64 - 1) (reweighed k n l)
small-reweighed k n [] fits a = a
small-reweighed k n (e ∷ l) fits a =
    elim (entry_eq k e.0) as (λ b. All (λ e. e.1 ≤ 2 ^ 64 - 1) (cond b ((e.0, n) ∷ l) (e ∷ reweighed k n l))) [
      | true ↦ All-cons (λ (e : CacheEntryKey × ℕ). e.1 ≤ 2 ^ 64 - 1) (e.0, n) l fits (All-tail (λ (e : CacheEntryKey × ℕ). e.1 ≤ 2 ^ 64 - 1) e l a)
      | false ↦ All-cons (λ (e : CacheEntryKey × ℕ). e.1 ≤ 2 ^ 64 - 1) e (reweighed k n l) (All-head (λ (e : CacheEntryKey × ℕ). e.1 ≤ 2 ^ 64 - 1) e l a) (small-reweighed k n l fits (All-tail (λ (e : CacheEntryKey × ℕ). e.1 ≤ 2 ^ 64 - 1) e l a))
    ]

pub kept-reweighed : (c d : LruCache CacheEntryKey ℕ) (total : ℕ) (k : CacheEntryKey) (n : ℕ) → IsKept c total → IsSome (weight_of k c.entries) → d ≡ lru_cache (reweighed k n c.entries) c.cap → n ≤ 2 ^ 64 - 1 → IsKept d (weight (others k c.entries) + n)
kept-reweighed c d total k n kept there e fits =
    let is : d.entries ≡ reweighed k n c.entries = ap (λ (c : LruCache CacheEntryKey ℕ). c.entries) e in
    let many : length d.entries ≡ length c.entries = ap (λ (l : Recency). length l) is ∙ length-set_value (entry_eq k) c.entries n in
    let few = kept.few in
    record {
      summed = sym (ap weight is ∙ weight-reweighed k n c.entries kept.distinct there);
      room = ap (λ (c : LruCache CacheEntryKey ℕ). c.cap) e ∙ kept.room;
      few = omega arith;
      small = subst (All (λ e. e.1 ≤ 2 ^ 64 - 1)) (sym is) (small-reweighed k n c.entries fits kept.small);
      distinct = subst IsOnce (sym is) (once-reweighed k n c.entries kept.distinct);
    }
