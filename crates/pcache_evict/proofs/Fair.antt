-- An eviction that is fair takes nothing while the limits hold.
use Rattle.std.specs.FinMap.{get, len, remove}
use Rattle.pcache_base.proofs.Totals.{len-total, total-remove}
use Rattle.pcache_base.specs.Totals.{share, total}
use Rattle.pcache_evict.specs.Tracked.{weight}
use Rattle.pcache_evict.proofs.Words.{◌≡◌, ℕ, ◌+◌, ◌≤◌, Option, None, Some, List, [], ◌∷◌, ◌++◌, IfSome, refl, ap, arith, entries_total, IsFair, IsWithin, Limits, Tracked, without, CacheEntryKey}
use Rattle.pcache_evict.proofs.EntryOrder.{exact_entries}

-- what is left of a map adds up to no more
shrinks : (f : ℕ → ℕ) (out : List CacheEntryKey) (m : Tracked) → total f (without out m) ≤ total f m
shrinks f [] m = omega arith
shrinks f (e ∷ out) m =
    let rest = shrinks f out (remove m e) in
    let one : total f (remove m e) + share f (get m e) ≡ total f m = total-remove entries_total f exact_entries m e in
    omega arith

still-within : (limits : Limits) (out : List CacheEntryKey) (m : Tracked) → IsWithin limits m → IsWithin limits (without out m)
still-within limits out m held = record {
  weight = let less : weight (without out m) ≤ weight m = shrinks (λ x. x) out m in let most = held.weight in omega arith;
  count = count limits.watermark held.count;
}
  where
    count : (o : Option ℕ) → IfSome o (λ most. len m ≤ most) → IfSome o (λ most. len (without out m) ≤ most)
    count None h = tt
    count (Some most) h =
        let less = shrinks (λ _. 1) out m in
        let a = len-total m in
        let b = len-total (without out m) in
        omega arith

front-last : (e : CacheEntryKey) (out : List CacheEntryKey) → (front : List CacheEntryKey) × (last : CacheEntryKey) × (e ∷ out ≡ front ++ last ∷ [])
front-last e [] = ([], e, refl)
front-last e (x ∷ out) = let p = front-last x out in (e ∷ p.0, p.1, ap (λ xs. e ∷ xs) p.2)

-- a fair eviction takes nothing if the limits hold
pub none-within : (limits : Limits) (m : Tracked) (out : List CacheEntryKey) → IsFair limits m out → IsWithin limits m → out ≡ []
none-within limits m [] fair held = refl
none-within limits m (e ∷ out) fair held = let p = front-last e out in absurd (fair.needed p.0 p.1 p.2 (still-within limits p.0 m held))
