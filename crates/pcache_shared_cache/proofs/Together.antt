-- All parts together.
use Rattle.std.proofs.Common.{◌-◌, ◌^◌}
use Rattle.std.proofs.lemmas.List.{take_more}
use Rattle.std.proofs.lemmas.List.Sums.{sum_by-append}
use Rattle.pcache_evict.specs.declared.eviction.policy.EvictionPolicy.{EvictionPolicy}
use Rattle.pcache_shared_cache.specs.Portions.{added_watermark}
use Rattle.pcache_shared_cache.proofs.Words.{◌≡◌, ℕ, ◌+◌, ◌*◌, ◌<◌, ◌≤◌, suc, zero, List, [], ◌∷◌, ◌++◌, map, take, length, refl, ap, sym, ◌∙◌, arith, IfOk, IfSome, Option, None, Some, Result, Ok, Err, slice_index_or, sum, sum_by, All, range_with_len, map-append, All-push, map-map, sum_by-cons, Limits, Parts, IsKept, slots, stored_bytes, portion, portion_at, portions, whole_watermark, whole_weight, Begun, begun_first, limits_in, OfPart}
use Rattle.pcache_shared_cache.proofs.Adding.{add_up}

abbrev pub Kept : Parts → Type 0
Kept p = IsKept p.weighing p.limits p.tracked p.store

pub within : (ps : List Parts) → All Kept ps → sum_by (λ (p : Parts). stored_bytes p.store) ps ≤ whole_weight (map (λ (p : Parts). p.limits) ps)
within [] all = omega arith
within (p ∷ ps) all =
    let first : stored_bytes p.store ≤ p.limits.weight = (all 0 p (omega arith)).bounded.bytes in
    let rest = within ps (λ k d lt. all (suc k) d (omega arith)) in
    let left = sum_by-cons (λ (p : Parts). stored_bytes p.store) p ps in
    let right = sum_by-cons (λ (l : Limits). l.weight) p.limits (map (λ (p : Parts). p.limits) ps) in
    omega (arith, first, rest, left, right)

-- the limits with which parts began
abbrev pub limits_begun : List Begun → List Limits
limits_begun = map (λ (b : Begun). b.first.limits)

pub begun-limits : (bs : List Begun) → limits_begun bs ≡ limits_in (map begun_first bs)
begun-limits bs = sym (map-map (λ (p : Parts). p.limits) begun_first bs)

-- so many parts were asked, and their results sum to this
abbrev pub Told : List Begun → ℕ → (Parts → ℕ) → ℕ → Type 0
Told parts i of total =
    ((ps : List Parts) × (map (λ (p : Parts). p.limits) ps ≡ limits_begun (take i parts)) × All Kept ps × (total ≡ sum_by of ps)) × (total ≤ i * (2 ^ 64 - 1))

pub told-none : (parts : List Begun) (of : Parts → ℕ) → Told parts 0 of 0
told-none parts of = (([], refl, (λ k d lt. absurd (omega arith)), refl), omega arith)

pub told-more : (parts : List Begun) (i : ℕ) (of : Parts → ℕ) (total n : ℕ) (b : Begun) → i < length parts → b ≡ slice_index_or parts i b → n < 2 ^ 64 → Told parts i of total → OfPart b.first.limits (λ p. n ≡ of p) → Told parts (i + 1) of (total + n)
told-more parts i of total n b lt at small t h =
    let ps = t.0.0 in
    let more : map (λ (p : Parts). p.limits) (ps ++ h.0 ∷ []) ≡ limits_begun (take (i + 1) parts) =
    map-append (λ (p : Parts). p.limits) ps (h.0 ∷ []) ∙ ap (λ ls. ls ++ h.0.limits ∷ []) t.0.1 ∙ ap (λ (x : Limits). limits_begun (take i parts) ++ x ∷ []) (h.1 ∙ ap (λ (x : Begun). x.first.limits) at)
    ∙ sym (map-append (λ (x : Begun). x.first.limits) (take i parts) (slice_index_or parts i b ∷ [])) ∙ ap limits_begun (sym (take_more parts i b lt)) in
    let sums : total + n ≡ sum_by of (ps ++ h.0 ∷ []) = let a = sum_by-append of ps (h.0 ∷ []) in let b = sum_by-cons of h.0 [] in let c = t.0.3 in let d = h.3 in omega (arith, a, b, c, d) in
    let bound : total + n ≤ (i + 1) * (2 ^ 64 - 1) = let b = t.1 in omega (arith, b, small) in
    ((ps ++ h.0 ∷ [], more, All-push Kept ps h.0 t.0.2 h.2, sums), bound)

sums-same : {X : Type 0} (g : X → ℕ) (f : ℕ → X) (h : ℕ → ℕ) → ((j : ℕ) → g (f j) ≡ h j) → (a n : ℕ) → sum_by g (map f (range_with_len a n)) ≡ sum (map h (range_with_len a n))
sums-same g f h same a zero = refl
sums-same g f h same a (suc n) =
    let left = sum_by-cons g (f a) (map f (range_with_len (a + 1) n)) in
    let right = sum_by-cons (λ x. x) (h a) (map h (range_with_len (a + 1) n)) in
    let first = same a in
    let rest = sums-same g f h same (a + 1) n in
    omega (arith, left, right, first, rest)

pub portions-whole : (policy : EvictionPolicy) (n limit : ℕ) (watermark : Option ℕ) → 0 < n → whole_weight (portions policy n limit watermark) ≡ limit
portions-whole policy n limit watermark some = sums-same (λ (l : Limits). l.weight) (portion_at policy n limit watermark) (portion limit n) (λ j. refl) 0 n ∙ add_up limit n some

-- what a call that may fail makes has the whole, if its parts have their portions
pub ok-whole : {E : Type 0} (policy : EvictionPolicy) (n limit : ℕ) (watermark : Option ℕ) (result : Result (List Parts) E) → 0 < n → IfOk result (λ c. limits_in c ≡ portions policy n limit watermark) → IfOk result (λ c. whole_weight (limits_in c) ≡ limit)
ok-whole policy n limit watermark (Ok c) some is = ap whole_weight is ∙ portions-whole policy n limit watermark some
ok-whole policy n limit watermark (Err e) some is = tt

-- the numbers of bodies, if each part has a watermark
pub within-count : (ps : List Parts) → All Kept ps → IfSome (whole_watermark (map (λ (p : Parts). p.limits) ps)) (λ most. sum_by (λ (p : Parts). slots p.store) ps ≤ most)
within-count [] all = omega arith
within-count (p ∷ ps) all =
    one p.limits.watermark (whole_watermark (map (λ (q : Parts). q.limits) ps)) (all 0 p (omega arith)).bounded.count (within-count ps (λ k d lt. all (suc k) d (omega arith)))
  where
    one : (w rest : Option ℕ) → IfSome w (λ most. slots p.store ≤ most) → IfSome rest (λ most. sum_by (λ (q : Parts). slots q.store) ps ≤ most)
        → IfSome (added_watermark w rest) (λ most. sum_by (λ (q : Parts). slots q.store) (p ∷ ps) ≤ most)
    one None None first after = tt
    one None (Some n) first after = tt
    one (Some m) None first after = tt
    one (Some m) (Some n) first after = let sums = sum_by-cons (λ (q : Parts). slots q.store) p ps in omega (arith, first, after, sums)
