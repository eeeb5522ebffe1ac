-- Recency lists in shards: the position of an entry among all of them, and how one list's changes change all.
use Rattle.std.specs.Prelude.{◌↔◌}
use Rattle.std.specs.List.{IsDistinct}
use Rattle.std.proofs.lemmas.List.{length-replicate, get_or-replicate, get_or_past}
use Rattle.std.proofs.lemmas.List.Elements.{All-from_recursion}
use Rattle.pcache_evict.specs.Recency.{weight}
use Rattle.pcache_evict.proofs.Words.{◌≡◌, ℕ, zero, suc, ◌+◌, ◌-◌, ◌<◌, ◌≤◌, ◌^◌, Bool, true, false, cond, not, Option, None, Some, is_some, unwrap_or, List, [], ◌∷◌, ◌++◌, refl, ap, sym, subst, ◌∙◌, arith, length, All, append_assoc, length-append, inl, inr, IsSome, IsTrue, IfSome, slice_set, slice_index_or, AllByRecursion, keys_of, both_ways, cases_eq, cases_lt, get_or-set_same, get_or-set_other, length-set, All-append, All-nil, All-cons, All-filter, recursion_from_All, filter-append, sum_by-cons, sum_by-append, IsDistinct-head, IsDistinct-tail, IsDistinct-cons, CacheEntryKey, entry_eq, Recency, weight_of, others, moved, IsOnce, IsShard, ArePlaced, AreKept, all, list_at, shard_of, in_shard, reweighed, no_entries, length-set_value}
use Rattle.pcache_evict.proofs.Recency.{same_key, distinct-others, distinct-moved, distinct-front, weight-others, length-others, weight-moved, weight_bound, found-small}
use Rattle.pcache_evict.proofs.Reweighs.{once-reweighed, weight-reweighed, small-reweighed}

-- shards that are not full
pub not-full : (b : Bool) (count : ℕ) → (IsTrue b ↔ (2 ^ 63 - 1 ≤ count)) → b ≡ false → ¬ (2 ^ 63 - 1 ≤ count)
not-full b count full isnt most = both_ways b isnt (full.1 most)

abbrev pub E : Type 0
E = CacheEntryKey × ℕ

abbrev Light : Recency → Type 0
Light l = All (λ e. e.1 ≤ 2 ^ 64 - 1) l

-- ---- facts of each entry

pub weaker : (P Q : E → Type 0) → ((e : E) → P e → Q e) → (l : Recency) → AllByRecursion P l → AllByRecursion Q l
weaker P Q f [] h = tt
weaker P Q f (e ∷ l) h = (f e h.0, weaker P Q f l h.1)

pub both : (P : E → Type 0) (a b : Recency) → AllByRecursion P a → AllByRecursion P b → AllByRecursion P (a ++ b)
both P [] b p q = q
both P (e ∷ a) b p q = (p.0, both P a b p.1 q)

first : (P : E → Type 0) (a b : Recency) → AllByRecursion P (a ++ b) → AllByRecursion P a
first P [] b h = tt
first P (e ∷ a) b h = (h.0, first P a b h.1)

left_over : (P : E → Type 0) (k : CacheEntryKey) (l : Recency) → AllByRecursion P l → AllByRecursion P (others k l)
left_over P k [] h = tt
left_over P k (e ∷ l) h =
    elim (entry_eq k e.0) as (λ b. AllByRecursion P (cond (not b) (e ∷ others k l) (others k l))) [ true ↦ left_over P k l h.1 | false ↦ (h.0, left_over P k l h.1) ]

keys_too : (P : CacheEntryKey → Type 0) (l : Recency) → AllByRecursion (λ e. P e.0) l → AllByRecursion P (keys_of l)
keys_too P [] h = tt
keys_too P (e ∷ l) h = (h.0, keys_too P l h.1)

keys_both : (P : CacheEntryKey → Type 0) (a b : Recency) → AllByRecursion P (keys_of a) → AllByRecursion P (keys_of b) → AllByRecursion P (keys_of (a ++ b))
keys_both P [] b p q = q
keys_both P (e ∷ a) b p q = (p.0, keys_both P a b p.1 q)

-- what holds in each list holds in all
pub each-all : (P : E → Type 0) (shards : List Recency) → ((i : ℕ) → AllByRecursion P (list_at shards i)) → AllByRecursion P (all shards)
each-all P [] h = tt
each-all P (l ∷ shards) h = both P l (all shards) (h 0) (each-all P shards (λ i. h (suc i)))

pub light-all : (shards : List Recency) → ((i : ℕ) → Light (list_at shards i)) → Light (all shards)
light-all [] h = All-nil (λ (e : E). e.1 ≤ 2 ^ 64 - 1)
light-all (l ∷ shards) h = All-append (λ (e : E). e.1 ≤ 2 ^ 64 - 1) l (all shards) (h 0) (light-all shards (λ i. h (suc i)))

-- ---- no entry occurs twice

pub once-append : (a b : Recency) → IsOnce a → IsOnce b → AllByRecursion (λ e. AllByRecursion (λ (f : E). entry_eq e.0 f.0 ≡ false) b) a → IsOnce (a ++ b)
once-append [] b c d h = d
once-append (e ∷ a) b c d h =
    IsDistinct-cons entry_eq e.0 (keys_of (a ++ b)) (keys_both (λ y. entry_eq e.0 y ≡ false) a b (IsDistinct-head entry_eq e.0 (keys_of a) c) (keys_too (λ y. entry_eq e.0 y ≡ false) b h.0))
    (once-append a b (IsDistinct-tail entry_eq e.0 (keys_of a) c) d h.1)

once-each : (P : ℕ → E → Type 0) → ((i j : ℕ) → (i ≡ j → ⊥) → (e f : E) → P i e → P j f → entry_eq e.0 f.0 ≡ false) → (shards : List Recency) → ((i : ℕ) → AllByRecursion (P i) (list_at shards i)) → ((i : ℕ) → IsOnce (list_at shards i)) → IsOnce (all shards)
once-each P sep [] own once = once 0
once-each P sep (l ∷ shards) own once =
    once-append l (all shards) (once 0) (once-each (λ i. P (suc i)) (λ i j ne. sep (suc i) (suc j) (λ e. ne (omega (arith, e)))) shards (λ i. own (suc i)) (λ i. once (suc i)))
    (weaker (P 0) (λ e. AllByRecursion (λ (f : E). entry_eq e.0 f.0 ≡ false) (all shards)) (λ e p. each-all (λ f. entry_eq e.0 f.0 ≡ false) shards (λ j. weaker (P (suc j)) (λ f. entry_eq e.0 f.0 ≡ false) (λ f q. sep 0 (suc j) (λ z. absurd (omega (arith, z))) e f p q) (list_at shards j) (own (suc j)))) l (own 0))

pub separate : (n i j : ℕ) → (i ≡ j → ⊥) → (e f : CacheEntryKey) → shard_of n e ≡ i → shard_of n f ≡ j → entry_eq e f ≡ false
separate n i j ne e f p q = elim (entry_eq e f) as (λ b. entry_eq e f ≡ b → b ≡ false) [
  | true ↦ λ t. absurd (ne (sym p ∙ ap (shard_of n) (same_key e f t) ∙ q))
  | false ↦ λ t. refl
] refl

pub once-all : (n : ℕ) (shards : List Recency) → ArePlaced n shards → IsOnce (all shards)
once-all n shards p = once-each (λ i e. shard_of n e.0 ≡ i) (λ i j ne e f. separate n i j ne e.0 f.0) shards (λ i. (p.each i).own) (λ i. (p.each i).once)

-- ---- one list among all

pub record Stands (shards : List Recency) (i : ℕ) (Q : E → Type 0) : Type 0 where
  pub front : Recency
  pub back : Recency
  pub here : all shards ≡ front ++ (list_at shards i ++ back)
  pub put : (x : Recency) → all (slice_set shards i x) ≡ front ++ (x ++ back)
  pub before : AllByRecursion Q front
  pub behind : AllByRecursion Q back

pub stands : (shards : List Recency) (i : ℕ) (Q : E → Type 0) → i < length shards → ((j : ℕ) → (j ≡ i → ⊥) → AllByRecursion Q (list_at shards j)) → Stands shards i Q
stands [] i Q lt h = absurd (omega (arith, lt))
stands (l ∷ shards) zero Q lt h = record { front = []; back = all shards; here = refl; put = λ x. refl; before = tt; behind = each-all Q shards (λ j. h (suc j) (λ e. absurd (omega (arith, e)))) }
stands (l ∷ shards) (suc i) Q lt h =
    let s = stands shards i Q (omega (arith, lt)) (λ j ne. h (suc j) (λ e. ne (omega (arith, e)))) in
    record {
      front = l ++ s.front;
      back = s.back;
      here = ap (λ t. l ++ t) s.here ∙ sym (append_assoc l s.front (list_at shards i ++ s.back));
      put = λ x. ap (λ t. l ++ t) (s.put x) ∙ sym (append_assoc l s.front (x ++ s.back));
      before = both Q l s.front (h 0 (λ e. absurd (omega (arith, e)))) s.before;
      behind = s.behind;
    }

-- entries of other shards are others
abbrev pub Apart : CacheEntryKey → Recency → Type 0
Apart k l = AllByRecursion (λ (e : E). entry_eq k e.0 ≡ false) l

pub elsewhere : (n : ℕ) (shards : List Recency) (k : CacheEntryKey) → ArePlaced n shards → (j : ℕ) → (j ≡ shard_of n k → ⊥) → Apart k (list_at shards j)
elsewhere n shards k p j ne = weaker (λ e. shard_of n e.0 ≡ j) (λ e. entry_eq k e.0 ≡ false) (λ e own. separate n (shard_of n k) j (λ e. ne (sym e)) k e.0 refl own) (list_at shards j) (p.each j).own

pub in_range : (n : ℕ) (shards : List Recency) (k : CacheEntryKey) → ArePlaced n shards → shard_of n k < length shards
in_range n shards k p = let some = p.some in let long = p.long in omega arith

pub at_home : (n : ℕ) (shards : List Recency) (k : CacheEntryKey) → ArePlaced n shards → Stands shards (shard_of n k) (λ e. entry_eq k e.0 ≡ false)
at_home n shards k p = stands shards (shard_of n k) (λ e. entry_eq k e.0 ≡ false) (in_range n shards k p) (elsewhere n shards k p)

-- ---- an entry and lists that don't have it

pub others-apart : (k : CacheEntryKey) (l : Recency) → Apart k l → others k l ≡ l
others-apart k [] a = refl
others-apart k (e ∷ l) a = ap (λ b. cond (not b) (e ∷ others k l) (others k l)) a.0 ∙ ap (λ l. e ∷ l) (others-apart k l a.1)

pub lookup-past : (k : CacheEntryKey) (a b : Recency) → Apart k a → weight_of k (a ++ b) ≡ weight_of k b
lookup-past k [] b h = refl
lookup-past k (e ∷ a) b h = ap (λ t. cond t (Some e.1) (weight_of k (a ++ b))) h.0 ∙ lookup-past k a b h.1

lookup-apart : (k : CacheEntryKey) (l : Recency) → Apart k l → weight_of k l ≡ None
lookup-apart k [] h = refl
lookup-apart k (e ∷ l) h = ap (λ t. cond t (Some e.1) (weight_of k l)) h.0 ∙ lookup-apart k l h.1

pub lookup-before : (k : CacheEntryKey) (a b : Recency) → Apart k b → weight_of k (a ++ b) ≡ weight_of k a
lookup-before k [] b h = lookup-apart k b h
lookup-before k (e ∷ a) b h = ap (cond (entry_eq k e.0) (Some e.1)) (lookup-before k a b h)

pub others-around : (k : CacheEntryKey) (a l b : Recency) → Apart k a → Apart k b → others k (a ++ (l ++ b)) ≡ a ++ (others k l ++ b)
others-around k a l b p q =
    filter-append (λ (e : E). not (entry_eq k e.0)) a (l ++ b)
    ∙ ap (λ x. x ++ others k (l ++ b)) (others-apart k a p)
    ∙ ap (λ x. a ++ x) (filter-append (λ (e : E). not (entry_eq k e.0)) l b ∙ ap (λ x. others k l ++ x) (others-apart k b q))

pub weight-around : (a l b : Recency) → weight (a ++ (l ++ b)) ≡ weight a + (weight l + weight b)
weight-around a l b =
    let outer = sum_by-append (λ (e : E). e.1) a (l ++ b) in
    let inner = sum_by-append (λ (e : E). e.1) l b in
    omega arith

pub length-around : (a l b : Recency) → length (a ++ (l ++ b)) ≡ length a + (length l + length b)
length-around a l b =
    let outer = length-append a (l ++ b) in
    let inner = length-append l b in
    omega arith

-- an entry has among all the weight that it has in its list
pub found-all : (n : ℕ) (shards : List Recency) (k : CacheEntryKey) → ArePlaced n shards → weight_of k (all shards) ≡ weight_of k (list_at shards (shard_of n k))
found-all n shards k p =
    let s = at_home n shards k p in
    ap (weight_of k) s.here ∙ lookup-past k s.front (list_at shards (shard_of n k) ++ s.back) s.before ∙ lookup-before k (list_at shards (shard_of n k)) s.back s.behind

pub others-all : (n : ℕ) (shards : List Recency) (k : CacheEntryKey) (p : ArePlaced n shards) → others k (all shards) ≡ (at_home n shards k p).front ++ (others k (list_at shards (shard_of n k)) ++ (at_home n shards k p).back)
others-all n shards k p =
    let s = at_home n shards k p in
    ap (others k) s.here ∙ others-around k s.front (list_at shards (shard_of n k)) s.back s.before s.behind

-- ---- one list changed

pub each-put : (n : ℕ) (shards : List Recency) (i : ℕ) (x : Recency) (P : ℕ → Recency → Type 0) → i < length shards → P i x → ((j : ℕ) → P j (list_at shards j)) → (j : ℕ) → P j (list_at (slice_set shards i x) j)
each-put n shards i x P lt one rest j = elim (cases_eq j i) [
  | inl same ↦ subst (λ (m : ℕ). P m (list_at (slice_set shards i x) m)) (sym same) (subst (P i) (sym (get_or-set_same shards i x [] lt)) one)
  | inr off ↦ subst (P j) (sym (get_or-set_other shards i j x [] off)) (rest j)
]

pub placed-put : (n : ℕ) (shards : List Recency) (i : ℕ) (x : Recency) → i < length shards → IsShard n i x → ArePlaced n shards → ArePlaced n (slice_set shards i x)
placed-put n shards i x lt one p = record { some = p.some; long = length-set shards i x ∙ p.long; each = each-put n shards i x (IsShard n) lt one p.each }

shard-moved : (n : ℕ) (k : CacheEntryKey) (w : ℕ) (l : Recency) → IsShard n (shard_of n k) l → IsShard n (shard_of n k) (moved k w l)
shard-moved n k w l s = record { own = (refl, left_over (λ e. shard_of n e.0 ≡ shard_of n k) k l s.own); once = distinct-moved k w l s.once }

shard-others : (n place : ℕ) (k : CacheEntryKey) (l : Recency) → IsShard n place l → IsShard n place (others k l)
shard-others n place k l s = record { own = left_over (λ e. shard_of n e.0 ≡ place) k l s.own; once = distinct-others k l s.once }

own-reweighed : (n place : ℕ) (k : CacheEntryKey) (w : ℕ) (l : Recency) → AllByRecursion (λ (e : E). shard_of n e.0 ≡ place) l → AllByRecursion (λ (e : E). shard_of n e.0 ≡ place) (reweighed k w l)
own-reweighed n place k w [] h = tt
own-reweighed n place k w (e ∷ l) h = elim (entry_eq k e.0) as (λ b. AllByRecursion (λ (e : E). shard_of n e.0 ≡ place) (cond b ((e.0, w) ∷ l) (e ∷ reweighed k w l))) [ true ↦ (h.0, h.1) | false ↦ (h.0, own-reweighed n place k w l h.1) ]

shard-reweighed : (n place : ℕ) (k : CacheEntryKey) (w : ℕ) (l : Recency) → IsShard n place l → IsShard n place (reweighed k w l)
shard-reweighed n place k w l s = record { own = own-reweighed n place k w l s.own; once = once-reweighed k w l s.once }

shard-front : (n place : ℕ) (front : Recency) (e : E) → IsShard n place (front ++ e ∷ []) → IsShard n place front
shard-front n place front e s = record { own = first (λ e. shard_of n e.0 ≡ place) front (e ∷ []) s.own; once = distinct-front front (e ∷ []) s.once }

pub placed-moved : (n : ℕ) (k : CacheEntryKey) (w : ℕ) (shards : List Recency) → ArePlaced n shards → ArePlaced n (in_shard n k (moved k w) shards)
placed-moved n k w shards p = placed-put n shards (shard_of n k) _ (in_range n shards k p) (shard-moved n k w (list_at shards (shard_of n k)) (p.each (shard_of n k))) p

pub placed-reweighed : (n : ℕ) (k : CacheEntryKey) (w : ℕ) (shards : List Recency) → ArePlaced n shards → ArePlaced n (in_shard n k (reweighed k w) shards)
placed-reweighed n k w shards p = placed-put n shards (shard_of n k) _ (in_range n shards k p) (shard-reweighed n (shard_of n k) k w (list_at shards (shard_of n k)) (p.each (shard_of n k))) p

pub placed-others : (n : ℕ) (k : CacheEntryKey) (shards : List Recency) → ArePlaced n shards → ArePlaced n (in_shard n k (others k) shards)
placed-others n k shards p = placed-put n shards (shard_of n k) _ (in_range n shards k p) (shard-others n (shard_of n k) k (list_at shards (shard_of n k)) (p.each (shard_of n k))) p

-- ---- what the code keeps

-- the total without an entry
pub rest-all : (n : ℕ) (shards : List Recency) (k : CacheEntryKey) → ArePlaced n shards
    → (weight (others k (all shards)) + unwrap_or (weight_of k (list_at shards (shard_of n k))) 0 ≡ weight (all shards)) × (length (others k (all shards)) + cond (is_some (weight_of k (list_at shards (shard_of n k)))) 1 0 ≡ length (all shards))
rest-all n shards k p = (
  subst (λ o. weight (others k (all shards)) + unwrap_or o 0 ≡ weight (all shards)) (found-all n shards k p) (weight-others k (all shards) (once-all n shards p)),
  subst (λ o. length (others k (all shards)) + cond (is_some o) 1 0 ≡ length (all shards)) (found-all n shards k p) (length-others k (all shards) (once-all n shards p)),
)

pub kept-bound : (n : ℕ) (shards : List Recency) (total items : ℕ) → AreKept n shards total items → total + 2 ^ 64 < 2 ^ 128
kept-bound n shards total items kept = let bound = weight_bound (all shards) (light-all shards kept.small) kept.few in let summed = kept.summed in omega arith

light-moved : (k : CacheEntryKey) (w : ℕ) (l : Recency) → w ≤ 2 ^ 64 - 1 → Light l → Light (moved k w l)
light-moved k w l fits a = All-cons (λ (e : E). e.1 ≤ 2 ^ 64 - 1) (k, w) (others k l) fits (All-filter (λ (e : E). not (entry_eq k e.0)) (λ e. e.1 ≤ 2 ^ 64 - 1) l a)

pub kept-put : (n : ℕ) (shards : List Recency) (total items : ℕ) (k : CacheEntryKey) (w : ℕ) → AreKept n shards total items → w ≤ 2 ^ 64 - 1 → length (others k (all shards)) + 1 < 2 ^ 63
    → AreKept n (in_shard n k (moved k w) shards) (weight (others k (all shards)) + w) (length (others k (all shards)) + 1)
kept-put n shards total items k w kept fits few =
    let p = kept.placed in
    let s = at_home n shards k p in
    let l = list_at shards (shard_of n k) in
    let new = s.put (moved k w l) in
    let rest = others-all n shards k p in
    let new_sum : weight (all (in_shard n k (moved k w) shards)) ≡ weight s.front + (weight (moved k w l) + weight s.back) = ap weight new ∙ weight-around s.front (moved k w l) s.back in
    let rest_sum : weight (others k (all shards)) ≡ weight s.front + (weight (others k l) + weight s.back) = ap weight rest ∙ weight-around s.front (others k l) s.back in
    let new_many : length (all (in_shard n k (moved k w) shards)) ≡ length s.front + (length (moved k w l) + length s.back) = ap (λ (x : Recency). length x) new ∙ length-around s.front (moved k w l) s.back in
    let rest_many : length (others k (all shards)) ≡ length s.front + (length (others k l) + length s.back) = ap (λ (x : Recency). length x) rest ∙ length-around s.front (others k l) s.back in
    let front = weight-moved k w l in
    record {
      placed = placed-moved n k w shards p;
      small = each-put n shards (shard_of n k) (moved k w l) (λ _. Light) (in_range n shards k p) (light-moved k w l fits (kept.small (shard_of n k))) kept.small;
      summed = omega arith;
      counted = omega arith;
      few = omega arith;
    }

pub kept-reweighed : (n : ℕ) (shards : List Recency) (total items : ℕ) (k : CacheEntryKey) (w : ℕ) → AreKept n shards total items → w ≤ 2 ^ 64 - 1 → IsSome (weight_of k (list_at shards (shard_of n k)))
    → AreKept n (in_shard n k (reweighed k w) shards) (weight (others k (all shards)) + w) items
kept-reweighed n shards total items k w kept fits there =
    let p = kept.placed in
    let s = at_home n shards k p in
    let l = list_at shards (shard_of n k) in
    let new = s.put (reweighed k w l) in
    let rest = others-all n shards k p in
    let new_sum : weight (all (in_shard n k (reweighed k w) shards)) ≡ weight s.front + (weight (reweighed k w l) + weight s.back) = ap weight new ∙ weight-around s.front (reweighed k w l) s.back in
    let rest_sum : weight (others k (all shards)) ≡ weight s.front + (weight (others k l) + weight s.back) = ap weight rest ∙ weight-around s.front (others k l) s.back in
    let new_many : length (all (in_shard n k (reweighed k w) shards)) ≡ length s.front + (length (reweighed k w l) + length s.back) = ap (λ (x : Recency). length x) new ∙ length-around s.front (reweighed k w l) s.back in
    let old_many : length (all shards) ≡ length s.front + (length l + length s.back) = ap (λ (x : Recency). length x) s.here ∙ length-around s.front l s.back in
    let one = weight-reweighed k w l (p.each (shard_of n k)).once there in
    let many = length-set_value (entry_eq k) l w in
    let counted = kept.counted in
    let few = kept.few in
    record {
      placed = placed-reweighed n k w shards p;
      small = each-put n shards (shard_of n k) (reweighed k w l) (λ _. Light) (in_range n shards k p) (small-reweighed k w l fits (kept.small (shard_of n k))) kept.small;
      summed = omega arith;
      counted = omega arith;
      few = omega arith;
    }

pub kept-removed : (n : ℕ) (shards : List Recency) (total items : ℕ) (k : CacheEntryKey) → AreKept n shards total items
    → AreKept n (in_shard n k (others k) shards) (weight (others k (all shards))) (length (others k (all shards)))
kept-removed n shards total items k kept =
    let p = kept.placed in
    let s = at_home n shards k p in
    let l = list_at shards (shard_of n k) in
    let same : all (in_shard n k (others k) shards) ≡ others k (all shards) = s.put (others k l) ∙ sym (others-all n shards k p) in
    let many = ap (λ (x : Recency). length x) same in
    let rest = (rest-all n shards k p).1 in
    let few = kept.few in
    record {
      placed = placed-others n k shards p;
      small = each-put n shards (shard_of n k) (others k l) (λ _. Light) (in_range n shards k p) (All-filter (λ (e : E). not (entry_eq k e.0)) (λ e. e.1 ≤ 2 ^ 64 - 1) l (kept.small (shard_of n k))) kept.small;
      summed = sym (ap weight same);
      counted = sym many;
      few = omega arith;
    }

pub kept-promoted : (n : ℕ) (shards : List Recency) (total items : ℕ) (k : CacheEntryKey) (w : ℕ) → AreKept n shards total items → weight_of k (list_at shards (shard_of n k)) ≡ Some w
    → AreKept n (in_shard n k (moved k w) shards) total items
kept-promoted n shards total items k w kept found =
    let p = kept.placed in
    let rest = rest-all n shards k p in
    let here : weight (others k (all shards)) + w ≡ weight (all shards) = subst (λ o. weight (others k (all shards)) + unwrap_or o 0 ≡ weight (all shards)) found rest.0 in
    let number : length (others k (all shards)) + 1 ≡ length (all shards) = subst (λ o. length (others k (all shards)) + cond {A = ℕ} (is_some o) 1 0 ≡ length (all shards)) found rest.1 in
    let few = kept.few in
    let next = kept-put n shards total items k w kept (found-small k (list_at shards (shard_of n k)) w found (kept.small (shard_of n k))) (omega arith) in
    subst (λ t. AreKept n (in_shard n k (moved k w) shards) t items) (here ∙ sym kept.summed)
    (subst (AreKept n (in_shard n k (moved k w) shards) (weight (others k (all shards)) + w)) (number ∙ sym kept.counted) next)

-- the last entry of a list removed
pub kept-popped : (n : ℕ) (shards : List Recency) (total items at : ℕ) (front : Recency) (e : E) → AreKept n shards total items → at < n → list_at shards at ≡ front ++ e ∷ []
    → (e.1 ≤ total) × (1 ≤ items) × AreKept n (slice_set shards at front) (total - e.1) (items - 1)
kept-popped n shards total items at front e kept lt is =
    let p = kept.placed in
    let long = p.long in
    let within : at < length shards = omega arith in
    let s = stands shards at (λ _. Unit {0}) within (λ j _. nothing (list_at shards j)) in
    let old_sum : weight (all shards) ≡ weight s.front + (weight (front ++ e ∷ []) + weight s.back) = ap weight (s.here ∙ ap (λ x. s.front ++ (x ++ s.back)) is) ∙ weight-around s.front (front ++ e ∷ []) s.back in
    let new_sum : weight (all (slice_set shards at front)) ≡ weight s.front + (weight front + weight s.back) = ap weight (s.put front) ∙ weight-around s.front front s.back in
    let old_many : length (all shards) ≡ length s.front + (length (front ++ e ∷ []) + length s.back) = ap (λ (x : Recency). length x) (s.here ∙ ap (λ x. s.front ++ (x ++ s.back)) is) ∙ length-around s.front (front ++ e ∷ []) s.back in
    let new_many : length (all (slice_set shards at front)) ≡ length s.front + (length front + length s.back) = ap (λ (x : Recency). length x) (s.put front) ∙ length-around s.front front s.back in
    let split = sum_by-append (λ (e : E). e.1) front (e ∷ []) in
    let one : weight (e ∷ []) ≡ e.1 + 0 = sum_by-cons (λ (e : E). e.1) e [] in
    let longer = length-append front (e ∷ []) in
    let summed = kept.summed in
    let counted = kept.counted in
    let few = kept.few in (
      omega arith,
      omega arith,
      record {
        placed = placed-put n shards at front within (shard-front n at front e (subst (IsShard n at) is (p.each at))) p;
        small = each-put n shards at front (λ _. Light) within (light-front front e (subst Light is (kept.small at))) kept.small;
        summed = omega arith;
        counted = omega arith;
        few = omega arith;
      },
    )
  where
    nothing : (l : Recency) → AllByRecursion (λ (e : E). Unit {0}) l
    nothing [] = tt
    nothing (x ∷ l) = (tt, nothing l)

    light-front : (front : Recency) (e : E) → Light (front ++ e ∷ []) → Light front
    light-front front e a = All-from_recursion (λ (e : E). e.1 ≤ 2 ^ 64 - 1) front (first (λ e. e.1 ≤ 2 ^ 64 - 1) front (e ∷ []) (recursion_from_All (λ (e : E). e.1 ≤ 2 ^ 64 - 1) (front ++ e ∷ []) a))

-- the totals, by what the other entries make and what one has
pub record Rest (shards : List Recency) (k : CacheEntryKey) (total items : ℕ) (o : Option ℕ) : Type 0 where
  pub sum : weight (others k (all shards)) + unwrap_or o 0 ≡ total
  pub count : length (others k (all shards)) + cond (is_some o) 1 0 ≡ items
  pub fits : total + 2 ^ 64 < 2 ^ 128
  pub few : items < 2 ^ 63
  pub whole : weight (all shards) ≡ total
  pub found : o ≡ weight_of k (all shards)

pub rest-kept : (n : ℕ) (inside shards : List Recency) (k : CacheEntryKey) (total items : ℕ) (o : Option ℕ) → AreKept n inside total items → inside ≡ shards → o ≡ weight_of k (list_at shards (shard_of n k)) → Rest shards k total items o
rest-kept n inside shards k total items o kept is found =
    let here = subst (λ s. AreKept n s total items) is kept in
    let rest = rest-all n shards k here.placed in
    record {
      sum = subst (λ o. weight (others k (all shards)) + unwrap_or o 0 ≡ total) (sym found) (rest.0 ∙ sym here.summed);
      count = subst (λ o. length (others k (all shards)) + cond {A = ℕ} (is_some o) 1 0 ≡ items) (sym found) (rest.1 ∙ sym here.counted);
      fits = kept-bound n shards total items here;
      few = let few = here.few in let counted = here.counted in omega arith;
      whole = sym here.summed;
      found = found ∙ sym (found-all n shards k here.placed);
    }

-- ---- results of calls on the list at an entry's place

-- the list that was read at a place is the one at this place
pub read_at : (n : ℕ) (shards : List Recency) (k : CacheEntryKey) (place : ℕ) (l : Recency) → ArePlaced n shards → place ≡ shard_of n k → l ≡ slice_index_or shards place l → l ≡ list_at shards (shard_of n k)
read_at n shards k place l p at is = is ∙ get_or_any shards place l [] (subst (λ m. m < length shards) (sym at) (in_range n shards k p)) ∙ ap (list_at shards) at
  where
    get_or_any : (shards : List Recency) (i : ℕ) (d e : Recency) → i < length shards → slice_index_or shards i d ≡ slice_index_or shards i e
    get_or_any [] i d e lt = absurd (omega (arith, lt))
    get_or_any (x ∷ shards) zero d e lt = refl
    get_or_any (x ∷ shards) (suc i) d e lt = get_or_any shards i d e (omega (arith, lt))

pub kept-promoted-either : (n : ℕ) (shards : List Recency) (total items : ℕ) (k : CacheEntryKey) (place : ℕ) (l x : Recency) (was : Bool) → AreKept n shards total items → place ≡ shard_of n k → l ≡ slice_index_or shards place l
    → was ≡ is_some (weight_of k l) → IfSome (weight_of k l) (λ w. x ≡ moved k w l) → (was ≡ false → x ≡ l) → AreKept n (slice_set shards place x) total items
kept-promoted-either n shards total items k place l x was kept at is found there missing =
    let here = read_at n shards k place l kept.placed at is in
    elim (weight_of k l) as (λ o. weight_of k l ≡ o → IfSome o (λ w. x ≡ moved k w l) → AreKept n (slice_set shards place x) total items) [
      | Some w ↦ λ e h.
          subst (λ s. AreKept n s total items) (sym (ap (λ i. slice_set shards i x) at ∙ ap (slice_set shards (shard_of n k)) (h ∙ ap (moved k w) here)))
          (kept-promoted n shards total items k w kept (sym (ap (weight_of k) here) ∙ e))
      | None ↦ λ e _.
          let same : x ≡ list_at shards (shard_of n k) = missing (found ∙ ap is_some e) ∙ here in
          subst (λ s. AreKept n s total items) (sym (ap (λ i. slice_set shards i x) at ∙ ap (slice_set shards (shard_of n k)) same ∙ set_same shards (shard_of n k))) kept
    ] refl there
  where
    set_same : (shards : List Recency) (i : ℕ) → slice_set shards i (list_at shards i) ≡ shards
    set_same [] i = refl
    set_same (x ∷ shards) zero = refl
    set_same (x ∷ shards) (suc i) = ap (λ t. x ∷ t) (set_same shards i)

pub kept-put-at : (n : ℕ) (inside now : List Recency) (total items : ℕ) (k : CacheEntryKey) (w place : ℕ) (l x : Recency) (sum many : ℕ) → AreKept n inside total items → inside ≡ now → place ≡ shard_of n k → l ≡ slice_index_or inside place l → x ≡ moved k w l → w ≤ 2 ^ 64 - 1
    → sum ≡ weight (others k (all now)) → many ≡ length (others k (all now)) → many + 1 < 2 ^ 63 → AreKept n (slice_set inside place x) (sum + w) (many + 1)
kept-put-at n inside now total items k w place l x sum many kept view at is put fits sum_is many_is few =
    let here = read_at n inside k place l kept.placed at is in
    let same : sum ≡ weight (others k (all inside)) = sum_is ∙ ap (λ s. weight (others k (all s))) (sym view) in
    let number : many ≡ length (others k (all inside)) = many_is ∙ ap (λ s. length (others k (all s))) (sym view) in
    subst (λ s. AreKept n s (sum + w) (many + 1)) (sym (ap (λ i. slice_set inside i x) at ∙ ap (slice_set inside (shard_of n k)) (put ∙ ap (moved k w) here)))
    (subst (λ t. AreKept n (in_shard n k (moved k w) inside) (t + w) (many + 1)) (sym same)
    (subst (λ m. AreKept n (in_shard n k (moved k w) inside) (weight (others k (all inside)) + w) (m + 1)) (sym number) (kept-put n inside total items k w kept fits (omega arith))))

pub kept-removed-at : (n : ℕ) (inside now : List Recency) (total items : ℕ) (k : CacheEntryKey) (place : ℕ) (l x : Recency) (sum many : ℕ) → AreKept n inside total items → inside ≡ now → place ≡ shard_of n k → l ≡ slice_index_or inside place l → x ≡ others k l
    → sum ≡ weight (others k (all now)) → many ≡ length (others k (all now)) → AreKept n (slice_set inside place x) sum many
kept-removed-at n inside now total items k place l x sum many kept view at is put sum_is many_is =
    let here = read_at n inside k place l kept.placed at is in
    let same : sum ≡ weight (others k (all inside)) = sum_is ∙ ap (λ s. weight (others k (all s))) (sym view) in
    let number : many ≡ length (others k (all inside)) = many_is ∙ ap (λ s. length (others k (all s))) (sym view) in
    subst (λ s. AreKept n s sum many) (sym (ap (λ i. slice_set inside i x) at ∙ ap (slice_set inside (shard_of n k)) (put ∙ ap (others k) here)))
    (subst (λ t. AreKept n (in_shard n k (others k) inside) t many) (sym same)
    (subst (AreKept n (in_shard n k (others k) inside) (weight (others k (all inside)))) (sym number) (kept-removed n inside total items k kept)))

pub kept-reweighed-at : (n : ℕ) (inside now : List Recency) (total items : ℕ) (k : CacheEntryKey) (w place : ℕ) (l x : Recency) (sum : ℕ) → AreKept n inside total items → inside ≡ now → place ≡ shard_of n k → l ≡ slice_index_or inside place l → x ≡ reweighed k w l → w ≤ 2 ^ 64 - 1
    → sum ≡ weight (others k (all now)) → IsSome (weight_of k (list_at now (shard_of n k))) → AreKept n (slice_set inside place x) (sum + w) items
kept-reweighed-at n inside now total items k w place l x sum kept view at is put fits sum_is there =
    let here = read_at n inside k place l kept.placed at is in
    let same : sum ≡ weight (others k (all inside)) = sum_is ∙ ap (λ s. weight (others k (all s))) (sym view) in
    subst (λ s. AreKept n s (sum + w) items) (sym (ap (λ i. slice_set inside i x) at ∙ ap (slice_set inside (shard_of n k)) (put ∙ ap (reweighed k w) here)))
    (subst (λ t. AreKept n (in_shard n k (reweighed k w) inside) (t + w) items) (sym same)
    (kept-reweighed n inside total items k w kept fits (subst (λ s. IsSome (weight_of k (list_at s (shard_of n k)))) (sym view) there)))

-- shards that were just made
pub list-empty : (n i : ℕ) → list_at (no_entries n) i ≡ []
list-empty n i = elim (cases_lt i n) [
  | inl low ↦ get_or-replicate n i [] [] low
  | inr high ↦ get_or_past (no_entries n) i [] (let long = length-replicate {A = Recency} n [] in omega arith)
]

all-empty : (n : ℕ) → all (no_entries n) ≡ []
all-empty zero = refl
all-empty (suc n) = all-empty n

once-none : IsOnce []
unfolding IsDistinct
once-none = tt

pub placed-empty : (n : ℕ) → 0 < n → ArePlaced n (no_entries n)
placed-empty n some = record { some = some; long = length-replicate n []; each = λ i. subst (IsShard n i) (sym (list-empty n i)) (record { own = tt; once = once-none }) }

pub kept-empty : (n m : ℕ) (lists : List Recency) → 0 < n → m ≡ n → lists ≡ no_entries m → AreKept n lists 0 0
kept-empty n m lists some same is = subst (λ s. AreKept n s 0 0) (sym (is ∙ ap no_entries same)) (record {
  placed = placed-empty n some;
  small = λ i. subst Light (sym (list-empty n i)) (All-nil (λ (e : E). e.1 ≤ 2 ^ 64 - 1));
  summed = sym (ap weight (all-empty n));
  counted = sym (ap (λ (l : Recency). length l) (all-empty n));
  few = let none = ap (λ (l : Recency). length l) (all-empty n) in omega arith;
})
