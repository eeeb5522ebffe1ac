-- Shards in the order in which they give up their entries.
use Rattle.std.specs.Prelude.{IfNone}
use Rattle.std.specs.List.{IsDistinct}
use Rattle.pcache_evict.specs.Recency.{weight}
use Rattle.pcache_evict.specs.Chain.{Pops, IsWithinTotals, RoomFor, IsFirst, IsFirstFrom}
use Rattle.pcache_evict.proofs.Words.{◌≡◌, ℕ, zero, suc, ◌+◌, ◌-◌, ◌<◌, ◌≤◌, true, false, cond, not, Option, None, Some, is_some, List, [], ◌∷◌, ◌++◌, refl, ap, sym, subst, ◌∙◌, arith, length, append_assoc, length-append, inl, inr, IsSome, IfSome, slice_set, slice_index_or, AllByRecursion, keys_of, cases_eq, cases_lt, get_or-set_same, get_or-set_other, filter-append, sum_by-append, length-set_value, IsDistinct-tail, CacheEntryKey, Walk, entry_eq, Limits, Recency, weight_of, others, moved, IsWithinAsList, IsOnce, IsEnough, ArePlaced, AreKept, RunsOut, all, list_at, shard_of, in_shard, reweighed, span, chain, Walks}
use Rattle.pcache_evict.proofs.Recency.{distinct-front, length-others, others-none, weight-moved}
use Rattle.pcache_evict.proofs.Reweighs.{weight-reweighed}
use Rattle.pcache_evict.proofs.Walks.{append_nil, Walking}
use Rattle.pcache_evict.proofs.Sharded.{E, Apart, both, weaker, separate, once-append, at_home, others-all, others-apart, elsewhere, in_range, weight-around, length-around, lookup-before, kept-popped}

-- ---- spans

span-set : (shards : List Recency) (p : ℕ) (x : Recency) (i n : ℕ) → ((j : ℕ) → i ≤ j → j < i + n → j ≡ p → ⊥) → span (slice_set shards p x) i n ≡ span shards i n
span-set shards p x i zero off = refl
span-set shards p x i (suc n) off =
    ap (λ t. t ++ list_at (slice_set shards p x) i) (span-set shards p x (suc i) n (λ j le lt. off j (omega arith) (omega arith)))
    ∙ ap (λ t. span shards (suc i) n ++ t) (get_or-set_other shards p i x [] (off i (omega arith) (omega arith)))

span-pop : (shards : List Recency) (p : ℕ) (front : Recency) (e : E) (i n : ℕ) → p < length shards → i ≤ p → p < i + n → ((j : ℕ) → i ≤ j → j < p → list_at shards j ≡ []) → list_at shards p ≡ front ++ e ∷ [] → span shards i n ≡ span (slice_set shards p front) i n ++ e ∷ []
span-pop shards p front e i zero within le lt none is = absurd (omega arith)
span-pop shards p front e i (suc n) within le lt none is = elim (cases_eq i p) [
  | inl same ↦
      ap (λ t. span shards (suc i) n ++ t) (ap (list_at shards) same ∙ is)
      ∙ ap (λ t. t ++ (front ++ e ∷ [])) (sym (span-set shards p front (suc i) n (λ j le lt at. omega arith)))
      ∙ sym (append_assoc (span (slice_set shards p front) (suc i) n) front (e ∷ []))
      ∙ ap (λ t. (span (slice_set shards p front) (suc i) n ++ t) ++ e ∷ []) (sym (ap (list_at (slice_set shards p front)) same ∙ get_or-set_same shards p front [] within))
  | inr off ↦
      ap (λ t. span shards (suc i) n ++ t) (none i (omega arith) (omega arith))
      ∙ sym (append_nil (span shards (suc i) n))
      ∙ span-pop shards p front e (suc i) n within (omega arith) (omega arith) (λ j le lt. none j (omega arith) lt) is
      ∙ ap (λ t. t ++ e ∷ []) (append_nil (span (slice_set shards p front) (suc i) n))
      ∙ ap (λ t. (span (slice_set shards p front) (suc i) n ++ t) ++ e ∷ []) (sym (get_or-set_other shards p i front [] off ∙ none i (omega arith) (omega arith)))
]

span-none : (shards : List Recency) (i n : ℕ) → ((j : ℕ) → i ≤ j → j < i + n → list_at shards j ≡ []) → span shards i n ≡ []
span-none shards i zero h = refl
span-none shards i (suc n) h =
    ap (λ t. span shards (suc i) n ++ t) (h i (omega arith) (omega arith)) ∙ sym (append_nil (span shards (suc i) n)) ∙ span-none shards (suc i) n (λ j le lt. h j (omega arith) (omega arith))

pub span-more : (shards : List Recency) (i n : ℕ) → span shards i (suc n) ≡ list_at shards (i + n) ++ span shards i n
span-more shards i zero = ap (list_at shards) (let e : i ≡ i + 0 = omega arith in e) ∙ append_nil (list_at shards (i + 0))
span-more shards i (suc n) =
    ap (λ t. t ++ list_at shards i) (span-more shards (suc i) n)
    ∙ append_assoc (list_at shards (suc i + n)) (span shards (suc i) n) (list_at shards i)
    ∙ ap (λ m. list_at shards m ++ (span shards (suc i) n ++ list_at shards i)) (let e : suc i + n ≡ i + suc n = omega arith in e)

pub span-split : (shards : List Recency) (i j a b m : ℕ) → m ≡ a + b → j ≡ i + a → span shards i m ≡ span shards j b ++ span shards i a
span-split shards i j zero b m whole at =
    ap (span shards i) (let e : m ≡ b = omega arith in e) ∙ ap (λ k. span shards k b) (let e : i ≡ j = omega arith in e) ∙ append_nil (span shards j b)
span-split shards i j (suc a) b zero whole at = absurd (omega arith)
span-split shards i j (suc a) b (suc m) whole at =
    ap (λ t. t ++ list_at shards i) (span-split shards (suc i) j a b m (omega arith) (omega arith)) ∙ append_assoc (span shards j b) (span shards (suc i) a) (list_at shards i)

pub span-each : (P : E → Type 0) (shards : List Recency) (i n : ℕ) → ((j : ℕ) → i ≤ j → j < i + n → AllByRecursion P (list_at shards j)) → AllByRecursion P (span shards i n)
span-each P shards i zero h = tt
span-each P shards i (suc n) h = both P (span shards (suc i) n) (list_at shards i) (span-each P shards (suc i) n (λ j le lt. h j (omega arith) (omega arith))) (h i (omega arith) (omega arith))

span-tail : (l : Recency) (shards : List Recency) (i n : ℕ) → span (l ∷ shards) (suc i) n ≡ span shards i n
span-tail l shards i zero = refl
span-tail l shards i (suc n) = ap (λ t. t ++ list_at shards i) (span-tail l shards (suc i) n)

span-all : (shards : List Recency) → (weight (span shards 0 (length shards)) ≡ weight (all shards)) × (length (span shards 0 (length shards)) ≡ length (all shards))
span-all [] = (refl, refl)
span-all (l ∷ shards) =
    let rest = span-all shards in
    let tail = span-tail l shards 0 (length shards) in
    let sum : weight (span (l ∷ shards) 0 (suc (length shards))) ≡ weight (span shards 0 (length shards)) + weight l = sum_by-append (λ (e : E). e.1) (span (l ∷ shards) 1 (length shards)) l ∙ ap (λ t. weight t + weight l) tail in
    let many : length (span (l ∷ shards) 0 (suc (length shards))) ≡ length (span shards 0 (length shards)) + length l = length-append (span (l ∷ shards) 1 (length shards)) l ∙ ap (λ (t : Recency). length t + length l) tail in
    let whole = sum_by-append (λ (e : E). e.1) l (all shards) in
    let longer = length-append l (all shards) in
    let first = rest.0 in
    let second = rest.1 in
    (omega arith, omega arith)

-- ---- the chain of all

pub chain-all : (n place : ℕ) (shards : List Recency) → length shards ≡ n → place < n → (weight (chain n place shards) ≡ weight (all shards)) × (length (chain n place shards) ≡ length (all shards))
chain-all n place shards long lt =
    let rest = span-all shards in
    let whole : span shards 0 (length shards) ≡ span shards (place + 1) (n - (place + 1)) ++ span shards 0 (place + 1) = span-split shards 0 (place + 1) (place + 1) (n - (place + 1)) (length shards) (omega arith) (omega arith) in
    let sum : weight (span shards 0 (length shards)) ≡ weight (span shards (place + 1) (n - (place + 1))) + weight (span shards 0 (place + 1)) = ap weight whole ∙ sum_by-append (λ (e : E). e.1) (span shards (place + 1) (n - (place + 1))) (span shards 0 (place + 1)) in
    let many : length (span shards 0 (length shards)) ≡ length (span shards (place + 1) (n - (place + 1))) + length (span shards 0 (place + 1)) = ap (λ (t : Recency). length t) whole ∙ length-append (span shards (place + 1) (n - (place + 1))) (span shards 0 (place + 1)) in
    let turned = sum_by-append (λ (e : E). e.1) (span shards 0 (place + 1)) (span shards (place + 1) (n - (place + 1))) in
    let longer = length-append (span shards 0 (place + 1)) (span shards (place + 1) (n - (place + 1))) in
    let first = rest.0 in
    let second = rest.1 in
    (omega arith, omega arith)

pub inside-chain : (limits : Limits) (n place : ℕ) (shards : List Recency) → length shards ≡ n → place < n → IsWithinAsList limits (chain n place shards) → IsWithinAsList limits (all shards)
inside-chain limits n place shards long lt i =
    let same = chain-all n place shards long lt in
    record { weight = subst (λ m. m ≤ limits.weight) same.0 i.weight; count = subst (λ m. IfSome limits.watermark (λ most. m ≤ most)) same.1 i.count }

-- the list of an entry's shard comes first, and the entry is in no other
pub record Home (n : ℕ) (shards : List Recency) (k : CacheEntryKey) : Type 0 where
  pub rest : Recency
  pub here : chain n (shard_of n k) shards ≡ list_at shards (shard_of n k) ++ rest
  pub put : (x : Recency) → chain n (shard_of n k) (slice_set shards (shard_of n k) x) ≡ x ++ rest
  pub apart : Apart k rest

pub home : (n : ℕ) (shards : List Recency) (k : CacheEntryKey) → ArePlaced n shards → Home n shards k
home n shards k p =
    let i = shard_of n k in
    let within = in_range n shards k p in
    let one : suc i ≡ i + 1 = omega arith in
    let far = n - (i + 1) in
    record {
      rest = span shards 0 i ++ span shards (i + 1) far;
      here = ap (λ t. t ++ span shards (i + 1) far) (upto shards i) ∙ append_assoc (list_at shards i) (span shards 0 i) (span shards (i + 1) far);
      put = λ x.
          ap (λ t. t ++ span (slice_set shards i x) (i + 1) far) (upto (slice_set shards i x) i)
          ∙ append_assoc (list_at (slice_set shards i x) i) (span (slice_set shards i x) 0 i) (span (slice_set shards i x) (i + 1) far)
          ∙ ap (λ t. t ++ (span (slice_set shards i x) 0 i ++ span (slice_set shards i x) (i + 1) far)) (get_or-set_same shards i x [] within)
          ∙ ap (λ t. x ++ (t ++ span (slice_set shards i x) (i + 1) far)) (span-set shards i x 0 i (λ j le lt at. omega arith))
          ∙ ap (λ t. x ++ (span shards 0 i ++ t)) (span-set shards i x (i + 1) far (λ j le lt at. omega arith));
      apart = both (λ e. entry_eq k e.0 ≡ false) (span shards 0 i) (span shards (i + 1) far)
          (span-each (λ e. entry_eq k e.0 ≡ false) shards 0 i (λ j le lt. elsewhere n shards k p j (λ at. omega arith)))
          (span-each (λ e. entry_eq k e.0 ≡ false) shards (i + 1) far (λ j le lt. elsewhere n shards k p j (λ at. omega arith)));
    }
  where
    upto : (shards : List Recency) (i : ℕ) → span shards 0 (i + 1) ≡ list_at shards i ++ span shards 0 i
    upto shards i =
        ap (span shards 0) (let e : i + 1 ≡ suc i = omega arith in e) ∙ span-more shards 0 i ∙ ap (λ m. list_at shards m ++ span shards 0 i) (let e : 0 + i ≡ i = omega arith in e)

-- no entry occurs twice
once-none : IsOnce []
unfolding IsDistinct
once-none = tt

once-span : (n : ℕ) (shards : List Recency) (i m : ℕ) → ArePlaced n shards → IsOnce (span shards i m)
once-span n shards i zero p = once-none
once-span n shards i (suc m) p =
    once-append (span shards (suc i) m) (list_at shards i) (once-span n shards (suc i) m p) (p.each i).once
    (span-each (λ e. AllByRecursion (λ (f : E). entry_eq e.0 f.0 ≡ false) (list_at shards i)) shards (suc i) m (λ j le lt.
    weaker (λ e. shard_of n e.0 ≡ j) (λ e. AllByRecursion (λ (f : E). entry_eq e.0 f.0 ≡ false) (list_at shards i)) (λ e q.
    weaker (λ f. shard_of n f.0 ≡ i) (λ f. entry_eq e.0 f.0 ≡ false) (λ f r. separate n j i (λ same. omega arith) e.0 f.0 q r) (list_at shards i) (p.each i).own) (list_at shards j) (p.each j).own))

pub once-chain : (n place : ℕ) (shards : List Recency) → ArePlaced n shards → IsOnce (chain n place shards)
once-chain n place shards p =
    once-append (span shards 0 (place + 1)) (span shards (place + 1) (n - (place + 1))) (once-span n shards 0 (place + 1) p) (once-span n shards (place + 1) (n - (place + 1)) p)
    (span-each (λ e. AllByRecursion (λ (f : E). entry_eq e.0 f.0 ≡ false) (span shards (place + 1) (n - (place + 1)))) shards 0 (place + 1) (λ j le lt.
    weaker (λ e. shard_of n e.0 ≡ j) (λ e. AllByRecursion (λ (f : E). entry_eq e.0 f.0 ≡ false) (span shards (place + 1) (n - (place + 1)))) (λ e q.
    span-each (λ f. entry_eq e.0 f.0 ≡ false) shards (place + 1) (n - (place + 1)) (λ m low high.
    weaker (λ f. shard_of n f.0 ≡ m) (λ f. entry_eq e.0 f.0 ≡ false) (λ f r. separate n j m (λ same. omega arith) e.0 f.0 q r) (list_at shards m) (p.each m).own)) (list_at shards j) (p.each j).own))

-- what the other entries make, in the chain as among all
pub others-chain : (n : ℕ) (shards : List Recency) (k : CacheEntryKey) → ArePlaced n shards
    → (weight (others k (chain n (shard_of n k) shards)) ≡ weight (others k (all shards))) × (length (others k (chain n (shard_of n k) shards)) ≡ length (others k (all shards)))
others-chain n shards k p =
    let h = home n shards k p in
    let s = at_home n shards k p in
    let l = list_at shards (shard_of n k) in
    let lt : shard_of n k < n = let within = in_range n shards k p in let long = p.long in omega arith in
    let same = chain-all n (shard_of n k) shards p.long lt in
    let first = same.0 in
    let second = same.1 in
    let left : others k (chain n (shard_of n k) shards) ≡ others k l ++ h.rest = ap (others k) h.here ∙ filter-append (λ (e : E). not (entry_eq k e.0)) l h.rest ∙ ap (λ t. others k l ++ t) (others-apart k h.rest h.apart) in
    let right = others-all n shards k p in
    let chain_sum : weight (chain n (shard_of n k) shards) ≡ weight l + weight h.rest = ap weight h.here ∙ sum_by-append (λ (e : E). e.1) l h.rest in
    let chain_many : length (chain n (shard_of n k) shards) ≡ length l + length h.rest = ap (λ (t : Recency). length t) h.here ∙ length-append l h.rest in
    let all_sum : weight (all shards) ≡ weight s.front + (weight l + weight s.back) = ap weight s.here ∙ weight-around s.front l s.back in
    let all_many : length (all shards) ≡ length s.front + (length l + length s.back) = ap (λ (t : Recency). length t) s.here ∙ length-around s.front l s.back in
    let left_sum : weight (others k (chain n (shard_of n k) shards)) ≡ weight (others k l) + weight h.rest = ap weight left ∙ sum_by-append (λ (e : E). e.1) (others k l) h.rest in
    let left_many : length (others k (chain n (shard_of n k) shards)) ≡ length (others k l) + length h.rest = ap (λ (t : Recency). length t) left ∙ length-append (others k l) h.rest in
    let right_sum : weight (others k (all shards)) ≡ weight s.front + (weight (others k l) + weight s.back) = ap weight right ∙ weight-around s.front (others k l) s.back in
    let right_many : length (others k (all shards)) ≡ length s.front + (length (others k l) + length s.back) = ap (λ (t : Recency). length t) right ∙ length-around s.front (others k l) s.back in
    (omega arith, omega arith)

-- ---- walks

-- a walk that goes on over the list before
pub walks-on : (limits : Limits) (k : CacheEntryKey) (t s : Recency) (a b c : Walk) → Walks limits k s a b → (IsWithinTotals limits b.sum b.count → ⊥) → Walks limits k t b c → Walks limits k (t ++ s) a c
walks-on limits k t s a b c v over w = elim v.ends [
  | inr small ↦ absurd (over small)
  | inl none ↦
      let whole : s ≡ v.passed = v.split ∙ ap (λ l. l ++ v.passed) none in
      let joined = filter-append (λ (e : E). not (entry_eq k e.0)) w.passed v.passed in
      let sum : weight (others k (w.passed ++ v.passed)) ≡ weight (others k w.passed) + weight (others k v.passed) = ap weight joined ∙ sum_by-append (λ (e : E). e.1) (others k w.passed) (others k v.passed) in
      let many : length (others k (w.passed ++ v.passed)) ≡ length (others k w.passed) + length (others k v.passed) = ap (λ (l : Recency). length l) joined ∙ length-append (others k w.passed) (others k v.passed) in
      let sum_v = v.sum in let sum_w = w.sum in let count_v = v.count in let count_w = w.count in let room_v = v.room in let room_w = w.room in
      record {
        left = w.left;
        passed = w.passed ++ v.passed;
        split = ap (λ l. t ++ l) whole ∙ ap (λ l. l ++ v.passed) w.split ∙ append_assoc w.left w.passed v.passed;
        sum = omega arith;
        count = omega arith;
        room = omega arith;
        ends = w.ends;
      }
]

-- a walk that ended stays where it is
pub walks-stop : (limits : Limits) (k : CacheEntryKey) (t s : Recency) (a b : Walk) → Walks limits k s a b → IsWithinTotals limits b.sum b.count → Walks limits k (t ++ s) a b
walks-stop limits k t s a b v small = record {
  left = t ++ v.left;
  passed = v.passed;
  split = ap (λ l. t ++ l) v.split ∙ sym (append_assoc t v.left v.passed);
  sum = v.sum;
  count = v.count;
  room = v.room;
  ends = inr small;
}

-- what a walk may still pass is no more than is left
pub walks-fit : (limits : Limits) (k : CacheEntryKey) (u t s : Recency) (a b : Walk) → Walks limits k s a b → weight (others k (u ++ (t ++ s))) ≤ a.sum → length (others k (u ++ (t ++ s))) ≤ a.count → (weight (others k t) ≤ b.sum) × (length (others k t) ≤ b.count)
walks-fit limits k u t s a b v sum count =
    let parts = filter-append (λ (e : E). not (entry_eq k e.0)) u (t ++ s) ∙ ap (λ l. others k u ++ l) (filter-append (λ (e : E). not (entry_eq k e.0)) t s) in
    let own : others k s ≡ others k v.left ++ others k v.passed = ap (others k) v.split ∙ filter-append (λ (e : E). not (entry_eq k e.0)) v.left v.passed in
    let whole : weight (others k (u ++ (t ++ s))) ≡ weight (others k u) + (weight (others k t) + weight (others k s)) = ap weight parts ∙ weight-around (others k u) (others k t) (others k s) in
    let longer : length (others k (u ++ (t ++ s))) ≡ length (others k u) + (length (others k t) + length (others k s)) = ap (λ (l : Recency). length l) parts ∙ length-around (others k u) (others k t) (others k s) in
    let inner : weight (others k s) ≡ weight (others k v.left) + weight (others k v.passed) = ap weight own ∙ sum_by-append (λ (e : E). e.1) (others k v.left) (others k v.passed) in
    let within : length (others k s) ≡ length (others k v.left) + length (others k v.passed) = ap (λ (l : Recency). length l) own ∙ length-append (others k v.left) (others k v.passed) in
    let sum_v = v.sum in let count_v = v.count in
    (omega arith, omega arith)

-- a walk that ended since the limits hold for what it did not pass
pub walk-ends : (limits : Limits) (k : CacheEntryKey) (l left : Recency) (a b : Walk) → weight (others k l) ≤ a.sum → length (others k l) ≤ a.count → Walking k l left a b.sum b.count b.room → IsWithinTotals limits b.sum b.count → Walks limits k l a b
walk-ends limits k l left a b sum count w small =
    let own : others k l ≡ others k left ++ others k w.passed = ap (others k) w.split ∙ filter-append (λ (e : E). not (entry_eq k e.0)) left w.passed in
    let whole : weight (others k l) ≡ weight (others k left) + weight (others k w.passed) = ap weight own ∙ sum_by-append (λ (e : E). e.1) (others k left) (others k w.passed) in
    let longer : length (others k l) ≡ length (others k left) + length (others k w.passed) = ap (λ (t : Recency). length t) own ∙ length-append (others k left) (others k w.passed) in
    let sum_w = w.sum in let count_w = w.count in
    record {
      left = left;
      passed = w.passed;
      split = w.split;
      sum = omega arith;
      count = omega arith;
      room = w.room;
      ends = inr small;
    }

-- the limits hold for nothing
pub inside-none : (limits : Limits) → IsWithinAsList limits []
inside-none limits = record { weight = let e : 0 ≤ limits.weight = omega arith in e; count = none limits.watermark }
  where
    none : (o : Option ℕ) → IfSome o (λ most. 0 ≤ most)
    none None = tt
    none (Some most) = omega arith

some_less : (o : Option ℕ) (a b : ℕ) → a ≤ b → IfSome o (λ most. b ≤ most) → IfSome o (λ most. a ≤ most)
some_less None a b le h = tt
some_less (Some most) a b le h = omega (arith, le, h)

-- a list that is no heavier and no longer than what is within the limits
pub small_inside : (limits : Limits) (sum count : ℕ) → IsWithinTotals limits sum count → (l : Recency) → weight l ≤ sum → length l ≤ count → IsWithinAsList limits l
small_inside limits sum count s l light short =
    let most = s.weight in
    record { weight = omega (arith, light, most); count = some_less limits.watermark (length l) count short s.count }

-- the room that a walk found which began with too much, for what is put
pub enough_above : (limits : Limits) (k : CacheEntryKey) (size : ℕ) (l : Recency) (a b : Walk) → Walks limits k l a b → a.room ≡ 0 → weight (others k l) + size ≤ a.sum → length (others k l) + 1 ≤ a.count → IsEnough limits (moved k size l) (b.room + 1)
enough_above limits k size l a b v start sum count =
    let own : others k l ≡ others k v.left ++ others k v.passed = ap (others k) v.split ∙ filter-append (λ (e : E). not (entry_eq k e.0)) v.left v.passed in
    let inner : weight (others k l) ≡ weight (others k v.left) + weight (others k v.passed) = ap weight own ∙ sum_by-append (λ (e : E). e.1) (others k v.left) (others k v.passed) in
    let within : length (others k l) ≡ length (others k v.left) + length (others k v.passed) = ap (λ (l : Recency). length l) own ∙ length-append (others k v.left) (others k v.passed) in
    let sum_v = v.sum in let count_v = v.count in let room_v = v.room in
    elim v.ends [
      | inl none ↦
          let all_passed : length (others k v.left) ≡ 0 = ap (λ l. length (others k l)) none in
          ([], moved k size l, refl, omega arith, inside-none limits)
      | inr small ↦
          let front = weight-moved k size v.left in
          (moved k size v.left, others k v.passed, ap (λ l. (k, size) ∷ l) own, omega arith, small_inside limits b.sum b.count small (moved k size v.left) (omega arith) (omega arith))
    ]

pub set-there : (k : CacheEntryKey) (n : ℕ) (a b : Recency) → IsSome (weight_of k a) → reweighed k n (a ++ b) ≡ reweighed k n a ++ b
set-there k n [] b h = cc
set-there k n (e ∷ a) b h = elim (entry_eq k e.0) as (λ t. IsSome (cond t (Some e.1) (weight_of k a)) → cond t ((e.0, n) ∷ (a ++ b)) (e ∷ reweighed k n (a ++ b)) ≡ cond t ((e.0, n) ∷ a) (e ∷ reweighed k n a) ++ b) [
  | true ↦ λ _. refl
  | false ↦ λ h. ap (λ l. e ∷ l) (set-there k n a b h)
] h

set-behind : (k : CacheEntryKey) (n : ℕ) (a b : Recency) → weight_of k a ≡ None → reweighed k n (a ++ b) ≡ a ++ reweighed k n b
set-behind k n [] b h = refl
set-behind k n (e ∷ a) b h = elim (entry_eq k e.0) as (λ t. cond t (Some e.1) (weight_of k a) ≡ None → cond t ((e.0, n) ∷ (a ++ b)) (e ∷ reweighed k n (a ++ b)) ≡ e ∷ (a ++ reweighed k n b)) [
  | true ↦ λ h. cc
  | false ↦ λ h. ap (λ l. e ∷ l) (set-behind k n a b h)
] h

most_one : (k : CacheEntryKey) (l : Recency) → IsOnce l → length l ≤ length (others k l) + 1
most_one k l d = elim (is_some (weight_of k l)) as (λ b. length (others k l) + cond b 1 0 ≡ length l → length l ≤ length (others k l) + 1) [ true ↦ λ h. omega arith | false ↦ λ h. omega arith ] (length-others k l d)

distinct-back : (a b : Recency) → IsOnce (a ++ b) → IsOnce b
distinct-back [] b d = d
distinct-back (e ∷ a) b d = distinct-back a b (IsDistinct-tail entry_eq e.0 (keys_of (a ++ b)) d)

-- and for a weight that is set in place
enough-set : (limits : Limits) (k : CacheEntryKey) (size : ℕ) (l : Recency) (a b : Walk) → Walks limits k l a b → IsOnce l → a.room ≡ 0 → a.sum ≡ weight (others k l) + size → a.count ≡ length (others k l) + 1 → IsEnough limits (reweighed k size l) (b.room + 1)
enough-set limits k size l a b v once start sum count =
    let own : others k l ≡ others k v.left ++ others k v.passed = ap (others k) v.split ∙ filter-append (λ (e : E). not (entry_eq k e.0)) v.left v.passed in
    let inner : weight (others k l) ≡ weight (others k v.left) + weight (others k v.passed) = ap weight own ∙ sum_by-append (λ (e : E). e.1) (others k v.left) (others k v.passed) in
    let within : length (others k l) ≡ length (others k v.left) + length (others k v.passed) = ap (λ (l : Recency). length l) own ∙ length-append (others k v.left) (others k v.passed) in
    let parts = subst IsOnce v.split once in
    let one = most_one k v.passed (distinct-back v.left v.passed parts) in
    let long = length-set_value (entry_eq k) l size in
    let behind = length-set_value (entry_eq k) v.passed size in
    let sum_v = v.sum in let count_v = v.count in let room_v = v.room in
    elim v.ends [
      | inl none ↦
          let whole : length l ≡ length v.passed = ap (λ (l : Recency). length l) (v.split ∙ ap (λ t. t ++ v.passed) none) in
          ([], reweighed k size l, refl, omega arith, inside-none limits)
      | inr small ↦ elim (weight_of k v.left) as (λ o. weight_of k v.left ≡ o → IsEnough limits (reweighed k size l) (b.room + 1)) [
        | Some w ↦ λ is.
            let there : IsSome (weight_of k v.left) = ap is_some is in
            let left = distinct-front v.left v.passed parts in
            let front = weight-reweighed k size v.left left there in
            let many = length-set_value (entry_eq k) v.left size in
            let number : length (others k v.left) + 1 ≡ length v.left = subst (λ o. length (others k v.left) + cond {A = ℕ} (is_some o) 1 0 ≡ length v.left) is (length-others k v.left left) in
            (reweighed k size v.left, v.passed, ap (reweighed k size) v.split ∙ set-there k size v.left v.passed there, omega arith, small_inside limits b.sum b.count small (reweighed k size v.left) (omega arith) (omega arith))
        | None ↦ λ is.
            let same = others-none k v.left is in
            let front = ap weight same in
            let number = ap (λ (l : Recency). length l) same in (
              v.left,
              reweighed k size v.passed,
              ap (reweighed k size) v.split ∙ set-behind k size v.left v.passed is,
              omega arith,
              record {
                weight = let most = small.weight in omega arith;
                count = fewer limits.watermark b.count (length v.left) (omega arith) small.count;
              },
            )
      ] refl
    ]
  where
    fewer : (o : Option ℕ) (m n : ℕ) → n ≤ m → IfSome o (λ most. m ≤ most) → IfSome o (λ most. n ≤ most)
    fewer None m n le h = tt
    fewer (Some most) m n le h = omega arith

chain-moved : (n : ℕ) (shards : List Recency) (k : CacheEntryKey) (size : ℕ) → ArePlaced n shards → chain n (shard_of n k) (in_shard n k (moved k size) shards) ≡ moved k size (chain n (shard_of n k) shards)
chain-moved n shards k size p =
    let h = home n shards k p in
    let l = list_at shards (shard_of n k) in
    h.put (moved k size l) ∙ ap (λ t. (k, size) ∷ t) (sym (ap (others k) h.here ∙ filter-append (λ (e : E). not (entry_eq k e.0)) l h.rest ∙ ap (λ t. others k l ++ t) (others-apart k h.rest h.apart)))

chain-reweighed : (n : ℕ) (shards : List Recency) (k : CacheEntryKey) (size : ℕ) → ArePlaced n shards → IsSome (weight_of k (list_at shards (shard_of n k))) → chain n (shard_of n k) (in_shard n k (reweighed k size) shards) ≡ reweighed k size (chain n (shard_of n k) shards)
chain-reweighed n shards k size p there =
    let h = home n shards k p in
    let l = list_at shards (shard_of n k) in
    h.put (reweighed k size l) ∙ sym (ap (reweighed k size) h.here ∙ set-there k size l h.rest there)

pub room-found : (n : ℕ) (limits : Limits) (k : CacheEntryKey) (size : ℕ) (shards : List Recency) (a b : Walk) → ArePlaced n shards → Walks limits k (chain n (shard_of n k) shards) a b → a.room ≡ 0 → a.sum ≡ weight (others k (all shards)) + size → a.count ≡ length (others k (all shards)) + 1
    → RoomFor n limits k size shards (b.room + 1)
room-found n limits k size shards a b p v start sum count =
    let same = others-chain n shards k p in
    let first = same.0 in
    let second = same.1 in
    record {
      put = subst (λ l. IsEnough limits l (b.room + 1)) (sym (chain-moved n shards k size p)) (enough_above limits k size (chain n (shard_of n k) shards) a b v start (omega arith) (omega arith));
      set = λ there. subst (λ l. IsEnough limits l (b.room + 1)) (sym (chain-reweighed n shards k size p there)) (enough-set limits k size (chain n (shard_of n k) shards) a b v (once-chain n (shard_of n k) shards p) start (omega arith) (omega arith));
    }

-- within the limits nothing is evicted
pub room-none : (n : ℕ) (limits : Limits) (k : CacheEntryKey) (size : ℕ) (shards : List Recency) (sum count : ℕ) → ArePlaced n shards → IsWithinTotals limits sum count → sum ≡ weight (others k (all shards)) + size → count ≡ length (others k (all shards)) + 1
    → RoomFor n limits k size shards 0
room-none n limits k size shards sum count p small is many =
    let same = others-chain n shards k p in
    let first = same.0 in
    let second = same.1 in
    let c = chain n (shard_of n k) shards in
    let front = weight-moved k size c in
    record {
      put = (
        chain n (shard_of n k) (in_shard n k (moved k size) shards),
        [],
        append_nil (chain n (shard_of n k) (in_shard n k (moved k size) shards)),
        omega arith,
        subst (IsWithinAsList limits) (sym (chain-moved n shards k size p)) (small_inside limits sum count small (moved k size c) (omega arith) (omega arith)),
      );
      set = λ there.
          let h = home n shards k p in
          let in_chain : IsSome (weight_of k c) = ap is_some (ap (weight_of k) h.here ∙ lookup-before k (list_at shards (shard_of n k)) h.rest h.apart) ∙ there in
          let once = once-chain n (shard_of n k) shards p in
          let weighed = weight-reweighed k size c once in_chain in
          let long = length-set_value (entry_eq k) c size in
          let number : length (others k c) + 1 ≡ length c = ap (λ b. length (others k c) + cond {A = ℕ} b 1 0) (sym in_chain) ∙ length-others k c once in (
            chain n (shard_of n k) (in_shard n k (reweighed k size) shards),
            [],
            append_nil (chain n (shard_of n k) (in_shard n k (reweighed k size) shards)),
            omega arith,
            subst (IsWithinAsList limits) (sym (chain-reweighed n shards k size p there)) (small_inside limits sum count small (reweighed k size c) (omega arith) (omega arith)),
          );
    }

-- ---- the first in turn

pub first-behind : (n place : ℕ) (shards : List Recency) (at : ℕ) → length shards ≡ n → IsFirstFrom shards (place + 1) n at → IsFirst n place shards at
first-behind n place shards at long f =
    let low = f.behind in
    let high = f.within in
    record {
      within = f.within;
      some = f.some;
      last = λ front e is.
          ap (λ t. span shards 0 (place + 1) ++ t) (span-pop shards at front e (place + 1) (n - (place + 1)) (omega arith) f.behind (omega arith) f.none is)
          ∙ sym (append_assoc (span shards 0 (place + 1)) (span (slice_set shards at front) (place + 1) (n - (place + 1))) (e ∷ []))
          ∙ ap (λ t. (t ++ span (slice_set shards at front) (place + 1) (n - (place + 1))) ++ e ∷ []) (sym (span-set shards at front 0 (place + 1) (λ j le lt same. omega arith)));
    }

pub first-upto : (n place : ℕ) (shards : List Recency) (at : ℕ) → length shards ≡ n → place < n → ((i : ℕ) → place + 1 ≤ i → i < n → list_at shards i ≡ []) → IsFirstFrom shards 0 (place + 1) at → IsFirst n place shards at
first-upto n place shards at long lt none f =
    let high = f.within in
    record {
      within = omega arith;
      some = f.some;
      last = λ front e is.
          let far : span shards (place + 1) (n - (place + 1)) ≡ [] = span-none shards (place + 1) (n - (place + 1)) (λ j low high. none j low (omega arith)) in
          let same : span (slice_set shards at front) (place + 1) (n - (place + 1)) ≡ [] = span-set shards at front (place + 1) (n - (place + 1)) (λ j low high is. omega arith) ∙ far in
          ap (λ t. span shards 0 (place + 1) ++ t) far ∙ sym (append_nil (span shards 0 (place + 1)))
          ∙ span-pop shards at front e 0 (place + 1) (omega arith) (omega arith) (omega arith) f.none is
          ∙ ap (λ t. t ++ e ∷ []) (append_nil (span (slice_set shards at front) 0 (place + 1)) ∙ ap (λ t. span (slice_set shards at front) 0 (place + 1) ++ t) (sym same));
    }

pub all-none : (shards : List Recency) → ((i : ℕ) → i < length shards → list_at shards i ≡ []) → all shards ≡ []
all-none [] h = refl
all-none (l ∷ shards) h = ap (λ t. t ++ all shards) (h 0 (omega arith)) ∙ all-none shards (λ i lt. h (suc i) (omega arith))

record Places (shards : List Recency) (i : ℕ) : Type 0 where
  before : List Recency
  behind : List Recency
  was : shards ≡ before ++ list_at shards i ∷ behind
  put : (x : Recency) → slice_set shards i x ≡ before ++ x ∷ behind

places : (shards : List Recency) (i : ℕ) → i < length shards → Places shards i
places [] i lt = absurd (omega (arith, lt))
places (l ∷ shards) zero lt = record { before = []; behind = shards; was = refl; put = λ x. refl }
places (l ∷ shards) (suc i) lt =
    let s = places shards i (omega (arith, lt)) in
    record { before = l ∷ s.before; behind = s.behind; was = ap (λ t. l ∷ t) s.was; put = λ x. ap (λ t. l ∷ t) (s.put x) }

pub popped-first : (n place : ℕ) (shards : List Recency) (at : ℕ) (front : Recency) (k : CacheEntryKey) (size : ℕ) → length shards ≡ n → IsFirst n place shards at → list_at shards at ≡ front ++ (k, size) ∷ [] → Pops n place shards k (slice_set shards at front)
popped-first n place shards at front k size long f is =
    let within = f.within in
    let s = places shards at (omega arith) in
    record {
      size = size;
      before = s.before;
      list = front;
      behind = s.behind;
      was = s.was ∙ ap (λ l. s.before ++ l ∷ s.behind) is;
      is = s.put front;
      last = f.last front (k, size) is;
    }

-- ---- a run of pops so far

abbrev pub RunsTo : Limits → List Recency → List CacheEntryKey → List Recency → Type 0
RunsTo limits shards [] now = now ≡ shards
RunsTo limits shards (k ∷ out) now =
    (¬ IsWithinAsList limits (all shards)) × (before : List Recency) × (list : Recency) × (n : ℕ) × (behind : List Recency) × (shards ≡ before ++ (list ++ (k, n) ∷ []) ∷ behind) × RunsTo limits (before ++ list ∷ behind) out now

pub runs-more : (limits : Limits) (n place : ℕ) (out : List CacheEntryKey) (shards now next : List Recency) (k : CacheEntryKey) → RunsTo limits shards out now → ¬ IsWithinAsList limits (all now) → Pops n place now k next → RunsTo limits shards (out ++ k ∷ []) next
runs-more limits n place [] shards now next k r over p = (subst (λ s. ¬ IsWithinAsList limits (all s)) r over, p.before, p.list, p.size, p.behind, sym r ∙ p.was, p.is)
runs-more limits n place (x ∷ out) shards now next k (o, before, list, m, behind, is, r) over p = (o, before, list, m, behind, is, runs-more limits n place out (before ++ list ∷ behind) now next k r over p)

pub runs-done : (limits : Limits) (out : List CacheEntryKey) (shards now : List Recency) → RunsTo limits shards out now → IsWithinAsList limits (all now) → RunsOut limits shards out now
runs-done limits [] shards now r inside = (r, subst (λ s. IsWithinAsList limits (all s)) r inside)
runs-done limits (x ∷ out) shards now (o, before, list, m, behind, is, r) inside = (o, before, list, m, behind, is, runs-done limits out (before ++ list ∷ behind) now r inside)

pub all-parts : (before : List Recency) (l : Recency) (behind : List Recency) → all (before ++ l ∷ behind) ≡ all before ++ (l ++ all behind)
all-parts [] l behind = refl
all-parts (x ∷ before) l behind = ap (λ t. x ++ t) (all-parts before l behind) ∙ sym (append_assoc x (all before) (l ++ all behind))

-- what a pop takes off the weight
pub pop-weight : (n place : ℕ) (old new : List Recency) (k : CacheEntryKey) → Pops n place old k new → weight (all new) ≤ weight (all old)
pop-weight n place old new k p =
    let before = ap weight (ap all p.was ∙ all-parts p.before (p.list ++ (k, p.size) ∷ []) p.behind) ∙ weight-around (all p.before) (p.list ++ (k, p.size) ∷ []) (all p.behind) in
    let after = ap weight (ap all p.is ∙ all-parts p.before p.list p.behind) ∙ weight-around (all p.before) p.list (all p.behind) in
    let one = sum_by-append (λ (e : E). e.1) p.list ((k, p.size) ∷ []) in
    omega arith

pub pop-fewer : (n place : ℕ) (old new : List Recency) (k : CacheEntryKey) → Pops n place old k new → length (all new) < length (all old)
pop-fewer n place old new k p =
    let before = ap (λ (l : Recency). length l) (ap all p.was ∙ all-parts p.before (p.list ++ (k, p.size) ∷ []) p.behind) ∙ length-around (all p.before) (p.list ++ (k, p.size) ∷ []) (all p.behind) in
    let after = ap (λ (l : Recency). length l) (ap all p.is ∙ all-parts p.before p.list p.behind) ∙ length-around (all p.before) p.list (all p.behind) in
    let one = length-append p.list ((k, p.size) ∷ []) in
    omega arith

-- ---- results of a search that is made in two parts

pub turn-behind : (n place : ℕ) (shards : List Recency) (o : Option ℕ) → length shards ≡ n → IfSome o (λ at. IsFirstFrom shards (place + 1) n at) → IfSome o (λ at. IsFirst n place shards at)
turn-behind n place shards None long f = tt
turn-behind n place shards (Some at) long f = first-behind n place shards at long f

pub turn-upto : (n place : ℕ) (shards : List Recency) (o q : Option ℕ) → length shards ≡ n → place < n → is_some o ≡ false → IfNone o ((i : ℕ) → place + 1 ≤ i → i < n → list_at shards i ≡ []) → IfSome q (λ at. IsFirstFrom shards 0 (place + 1) at) → IfSome q (λ at. IsFirst n place shards at)
turn-upto n place shards o None long lt none far f = tt
turn-upto n place shards (Some x) (Some at) long lt none far f = cc
turn-upto n place shards None (Some at) long lt none far f = first-upto n place shards at long lt far f

pub turn-none : (n place : ℕ) (shards : List Recency) (o q : Option ℕ) → length shards ≡ n → place < n → is_some o ≡ false → IfNone o ((i : ℕ) → place + 1 ≤ i → i < n → list_at shards i ≡ []) → IfNone q ((i : ℕ) → 0 ≤ i → i < place + 1 → list_at shards i ≡ []) → IfNone q (all shards ≡ [])
turn-none n place shards o (Some x) long lt none far near = tt
turn-none n place shards (Some x) None long lt none far near = cc
turn-none n place shards None None long lt none far near = all-none shards (λ i within. elim (cases_lt i (place + 1)) [
  | inl low ↦ near i (omega arith) low
  | inr high ↦ far i high (omega arith)
])

-- an entry removed from the first list in turn
pub record Taken (n place : ℕ) (inside now : List Recency) (total items at : ℕ) (front : Recency) (k : CacheEntryKey) (size : ℕ) : Type 0 where
  pub light : size ≤ total
  pub one : 1 ≤ items
  pub kept : AreKept n (slice_set inside at front) (total - size) (items - 1)
  pub pops : Pops n place now k (slice_set inside at front)

pub taken : (n place : ℕ) (inside now : List Recency) (total items at : ℕ) (l front : Recency) (k : CacheEntryKey) (size : ℕ) → AreKept n inside total items → inside ≡ now → IsFirst n place now at → l ≡ slice_index_or inside at l → l ≡ front ++ (k, size) ∷ [] → Taken n place inside now total items at front k size
taken n place inside now total items at l front k size kept view first is last =
    let within = first.within in
    let long = kept.placed.long in
    let here : list_at inside at ≡ front ++ (k, size) ∷ [] = any inside at [] l (omega arith) ∙ sym is ∙ last in
    let popped = kept-popped n inside total items at front (k, size) kept first.within here in
    record {
      light = popped.0;
      one = popped.1;
      kept = popped.2;
      pops = subst (λ s. Pops n place now k (slice_set s at front)) (sym view) (popped-first n place now at front k size (ap length (sym view) ∙ long) first (ap (λ s. list_at s at) (sym view) ∙ here));
    }
  where
    any : (shards : List Recency) (i : ℕ) (d e : Recency) → i < length shards → slice_index_or shards i d ≡ slice_index_or shards i e
    any [] i d e lt = absurd (omega (arith, lt))
    any (x ∷ shards) zero d e lt = refl
    any (x ∷ shards) (suc i) d e lt = any shards i d e (omega (arith, lt))

-- what the other entries of both parts of the chain make
pub parts-others : (n : ℕ) (shards : List Recency) (k : CacheEntryKey) (place : ℕ) → ArePlaced n shards → place ≡ shard_of n k
    → (weight (others k (span shards 0 (place + 1))) + weight (others k (span shards (place + 1) (n - (place + 1)))) ≡ weight (others k (all shards))) × (length (others k (span shards 0 (place + 1))) + length (others k (span shards (place + 1) (n - (place + 1)))) ≡ length (others k (all shards)))
parts-others n shards k place p at =
    let same = others-chain n shards k p in
    let a = span shards 0 (place + 1) in
    let b = span shards (place + 1) (n - (place + 1)) in
    let whole : chain n place shards ≡ chain n (shard_of n k) shards = ap (λ i. chain n i shards) at in
    let apart = filter-append (λ (e : E). not (entry_eq k e.0)) a b in
    let sum : weight (others k (chain n place shards)) ≡ weight (others k a) + weight (others k b) = ap weight apart ∙ sum_by-append (λ (e : E). e.1) (others k a) (others k b) in
    let many : length (others k (chain n place shards)) ≡ length (others k a) + length (others k b) = ap (λ (l : Recency). length l) apart ∙ length-append (others k a) (others k b) in
    (sym sum ∙ ap (λ l. weight (others k l)) whole ∙ same.0, sym many ∙ ap (λ l. length (others k l)) whole ∙ same.1)

pub room-stopped : (n : ℕ) (limits : Limits) (k : CacheEntryKey) (size : ℕ) (shards : List Recency) (place : ℕ) (a b : Walk) → ArePlaced n shards → place ≡ shard_of n k → Walks limits k (span shards (place + 1) (n - (place + 1))) a b → IsWithinTotals limits b.sum b.count → a.room ≡ 0 → a.sum ≡ weight (others k (all shards)) + size → a.count ≡ length (others k (all shards)) + 1
    → RoomFor n limits k size shards (b.room + 1)
room-stopped n limits k size shards place a b p at v small start sum count =
    room-found n limits k size shards a b p (subst (λ i. Walks limits k (chain n i shards) a b) at (walks-stop limits k (span shards 0 (place + 1)) (span shards (place + 1) (n - (place + 1))) a b v small)) start sum count

pub room-whole : (n : ℕ) (limits : Limits) (k : CacheEntryKey) (size : ℕ) (shards : List Recency) (place m : ℕ) (a b c : Walk) → ArePlaced n shards → place ≡ shard_of n k → Walks limits k (span shards (place + 1) (n - (place + 1))) a b → (IsWithinTotals limits b.sum b.count → ⊥) → m ≡ place + 1 → Walks limits k (span shards 0 m) b c → a.room ≡ 0 → a.sum ≡ weight (others k (all shards)) + size → a.count ≡ length (others k (all shards)) + 1
    → RoomFor n limits k size shards (c.room + 1)
room-whole n limits k size shards place m a b c p at v over same w start sum count =
    room-found n limits k size shards a c p (subst (λ i. Walks limits k (chain n i shards) a c) at (walks-on limits k (span shards 0 (place + 1)) (span shards (place + 1) (n - (place + 1))) a b c v over (subst (λ m. Walks limits k (span shards 0 m) b c) same w))) start sum count

-- what the second part may pass
pub second-fits : (n : ℕ) (limits : Limits) (k : CacheEntryKey) (shards : List Recency) (place m : ℕ) (a b : Walk) → ArePlaced n shards → place ≡ shard_of n k → Walks limits k (span shards (place + 1) (n - (place + 1))) a b → m ≡ place + 1 → weight (others k (all shards)) ≤ a.sum → length (others k (all shards)) ≤ a.count
    → (weight (others k (span shards 0 m)) ≤ b.sum) × (length (others k (span shards 0 m)) ≤ b.count) × (b.room + b.count ≡ a.room + a.count)
second-fits n limits k shards place m a b p at v same sum count =
    let parts = parts-others n shards k place p at in
    let apart : others k (span shards (place + 1) (n - (place + 1))) ≡ others k v.left ++ others k v.passed = ap (others k) v.split ∙ filter-append (λ (e : E). not (entry_eq k e.0)) v.left v.passed in
    let inner : weight (others k (span shards (place + 1) (n - (place + 1)))) ≡ weight (others k v.left) + weight (others k v.passed) = ap weight apart ∙ sum_by-append (λ (e : E). e.1) (others k v.left) (others k v.passed) in
    let within : length (others k (span shards (place + 1) (n - (place + 1)))) ≡ length (others k v.left) + length (others k v.passed) = ap (λ (l : Recency). length l) apart ∙ length-append (others k v.left) (others k v.passed) in
    let first = parts.0 in let second = parts.1 in let sum_v = v.sum in let count_v = v.count in let room_v = v.room in
    let low : weight (others k (span shards 0 m)) ≡ weight (others k (span shards 0 (place + 1))) = ap (λ m. weight (others k (span shards 0 m))) same in
    let few : length (others k (span shards 0 m)) ≡ length (others k (span shards 0 (place + 1))) = ap (λ m. length (others k (span shards 0 m))) same in
    (omega arith, omega arith, omega arith)

-- ---- a walk from list to list

pub span-next : (shards : List Recency) (from place : ℕ) → from ≤ place → span shards from (place + 1 - from) ≡ list_at shards place ++ span shards from (place - from)
span-next shards from place low =
    ap (span shards from) (let e : place + 1 - from ≡ suc (place - from) = omega arith in e) ∙ span-more shards from (place - from) ∙ ap (λ i. list_at shards i ++ span shards from (place - from)) (let e : from + (place - from) ≡ place = omega arith in e)

pub record Steps (limits : Limits) (k : CacheEntryKey) (shards : List Recency) (from to place : ℕ) (a b : Walk) : Type 0 where
  pub sum : weight (others k (list_at shards place)) ≤ b.sum
  pub count : length (others k (list_at shards place)) ≤ b.count
  pub fits : b.room + b.count ≡ a.room + a.count

pub steps : (limits : Limits) (k : CacheEntryKey) (shards : List Recency) (from to place : ℕ) (a b : Walk) → from ≤ place → place < to → Walks limits k (span shards from (place - from)) a b → weight (others k (span shards from (to - from))) ≤ a.sum → length (others k (span shards from (to - from))) ≤ a.count → Steps limits k shards from to place a b
steps limits k shards from to place a b low high v sum count =
    let s = span shards from (place - from) in
    let u = span shards (place + 1) (to - (place + 1)) in
    let one : span shards from (place + 1 - from) ≡ list_at shards place ++ s = span-next shards from place low in
    let whole : span shards from (to - from) ≡ u ++ (list_at shards place ++ s) = span-split shards from (place + 1) (place + 1 - from) (to - (place + 1)) (to - from) (omega arith) (omega arith) ∙ ap (λ t. u ++ t) one in
    let fit = walks-fit limits k u (list_at shards place) s a b v (subst (λ l. weight (others k l) ≤ a.sum) whole sum) (subst (λ l. length (others k l) ≤ a.count) whole count) in
    let count_v = v.count in let room_v = v.room in
    record { sum = fit.0; count = fit.1; fits = omega arith }

-- before the first shard nothing was passed
pub walk-starts : (limits : Limits) (k : CacheEntryKey) (shards : List Recency) (from : ℕ) (w : Walk) → Walks limits k (span shards from (from - from)) w w
walk-starts limits k shards from w =
    let none : from - from ≡ 0 = omega arith in
    subst (λ n. Walks limits k (span shards from n) w w) (sym none) (record { left = []; passed = []; split = refl; sum = omega arith; count = omega arith; room = omega arith; ends = inl refl })

pub walk-next : (limits : Limits) (k : CacheEntryKey) (shards : List Recency) (from place : ℕ) (a b c : Walk) → from ≤ place → Walks limits k (span shards from (place - from)) a b → (IsWithinTotals limits b.sum b.count → ⊥) → Walks limits k (list_at shards place) b c → Walks limits k (span shards from (place + 1 - from)) a c
walk-next limits k shards from place a b c low v over w = subst (λ l. Walks limits k l a c) (sym (span-next shards from place low)) (walks-on limits k (list_at shards place) (span shards from (place - from)) a b c v over w)

pub walk-stops : (limits : Limits) (k : CacheEntryKey) (shards : List Recency) (from to place : ℕ) (a b : Walk) → from ≤ place → place ≤ to → Walks limits k (span shards from (place - from)) a b → IsWithinTotals limits b.sum b.count → Walks limits k (span shards from (to - from)) a b
walk-stops limits k shards from to place a b low high v small =
    subst (λ l. Walks limits k l a b) (sym (span-split shards from place (place - from) (to - place) (to - from) (omega arith) (omega arith))) (walks-stop limits k (span shards place (to - place)) (span shards from (place - from)) a b v small)

-- ---- the limits hold as it is

pub enough-now : (limits : Limits) (n place m : ℕ) (shards : List Recency) → ArePlaced n shards → place < n → IsWithinAsList limits (all shards) → IsEnough limits (chain n place shards) m
enough-now limits n place m shards p lt i =
    let same = chain-all n place shards p.long lt in
    (chain n place shards, [], append_nil (chain n place shards), omega arith, record { weight = subst (λ m. m ≤ limits.weight) (sym same.0) i.weight; count = subst (λ m. IfSome limits.watermark (λ most. m ≤ most)) (sym same.1) i.count })

-- whether they hold once a weight is set
pub set-sums : (n : ℕ) (shards : List Recency) (k : CacheEntryKey) (size : ℕ) → ArePlaced n shards → IsSome (weight_of k (list_at shards (shard_of n k)))
    → (weight (others k (all shards)) + size ≡ weight (all (in_shard n k (reweighed k size) shards))) × (length (others k (all shards)) + 1 ≡ length (all (in_shard n k (reweighed k size) shards)))
set-sums n shards k size p there =
    let s = at_home n shards k p in
    let l = list_at shards (shard_of n k) in
    let new = s.put (reweighed k size l) in
    let rest = others-all n shards k p in
    let new_sum : weight (all (in_shard n k (reweighed k size) shards)) ≡ weight s.front + (weight (reweighed k size l) + weight s.back) = ap weight new ∙ weight-around s.front (reweighed k size l) s.back in
    let rest_sum : weight (others k (all shards)) ≡ weight s.front + (weight (others k l) + weight s.back) = ap weight rest ∙ weight-around s.front (others k l) s.back in
    let new_many : length (all (in_shard n k (reweighed k size) shards)) ≡ length s.front + (length (reweighed k size l) + length s.back) = ap (λ (x : Recency). length x) new ∙ length-around s.front (reweighed k size l) s.back in
    let rest_many : length (others k (all shards)) ≡ length s.front + (length (others k l) + length s.back) = ap (λ (x : Recency). length x) rest ∙ length-around s.front (others k l) s.back in
    let one = weight-reweighed k size l (p.each (shard_of n k)).once there in
    let many = length-set_value (entry_eq k) l size in
    let number : length (others k l) + 1 ≡ length l = ap (λ b. length (others k l) + cond {A = ℕ} b 1 0) (sym there) ∙ length-others k l (p.each (shard_of n k)).once in
    (omega arith, omega arith)
