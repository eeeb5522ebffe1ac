-- Entries that leave a list one by one leave its map fairly.
use Rattle.std.specs.List.{IsDistinct}
use Rattle.std.specs.Cmp.{eq_by_cmp_equiv}
use Rattle.std.proofs.lemmas.List.Elements.{All-nil, All-weaker, recursion_from_All}
use Rattle.pcache_evict.specs.Listed.{IsOnce}
use Rattle.pcache_evict.proofs.Evictions.{left_there, gone_here}
use Rattle.pcache_evict.proofs.Maps.{within}
use Rattle.pcache_evict.proofs.TrackedMaps.{get-remove_apart}
use Rattle.pcache_policies.proofs.Words.{◌≡◌, ℕ, ◌+◌, ◌≤◌, length, Option, true, false, cond, not, None, Some, is_some, unwrap_or, List, [], ◌∷◌, ◌++◌, refl, ap, sym, subst, ◌∙◌, arith, IsTrue, IfSome, AllByRecursion, keys_of, eq_by_cmp, both_ways, All-cons, sum_by-cons, sum_by-append, IsDistinct-head, IsDistinct-tail, IsDistinct-cons, CacheEntryKey, entry_eq, entry_cmp, entries_total, Tracked, Limits, IsWithin, IsFair, without, weight_in, Recency, weight, weight_of, others, IsWithinAsList, map_of, laws, distinct-others, get-map_of, weight-map_of, map-others, inside, HasRoom, Coming, Run}
use Rattle.std.specs.FinMap as fin
use Rattle.pcache_evict.specs.Tracked as tracked

abbrev E : Type 0
E = CacheEntryKey × ℕ

fresh_all : (m : Tracked) (k : CacheEntryKey) (out : List CacheEntryKey) → AllByRecursion (λ e. IsTrue (fin.contains_key (fin.remove m k) e)) out → AllByRecursion (λ y. eq_by_cmp entry_cmp k y ≡ false) out
fresh_all m k [] a = tt
fresh_all m k (x ∷ out) a = (
  elim (eq_by_cmp entry_cmp k x) as (λ b. eq_by_cmp entry_cmp k x ≡ b → b ≡ false) [
    | true ↦ λ t. absurd (both_ways _ (gone_here m k x ((eq_by_cmp_equiv entries_total).symm x k ∙ t)) a.0)
    | false ↦ λ _. refl
  ] refl,
  fresh_all m k out a.1,
)

fair-none : (limits : Limits) (m : Tracked) → IsWithin limits m → IsFair limits m []
unfolding IsDistinct
fair-none limits m w = record { tracked = All-nil (λ e. IsTrue (fin.contains_key m e)); once = tt; enough = w; needed = λ front last h. absurd (empty front last h) }
  where
    empty : (front : List CacheEntryKey) (last : CacheEntryKey) → [] ≡ front ++ last ∷ [] → ⊥
    empty [] last h = cc
    empty (x ∷ front) last h = cc

fair-first : (limits : Limits) (m : Tracked) (k : CacheEntryKey) (out : List CacheEntryKey) → fin.contains_key m k ≡ true → ¬ IsWithin limits m → IsFair limits (fin.remove m k) out → IsFair limits m (k ∷ out)
fair-first limits m k out there over f =
    record {
      tracked = All-cons (λ e. IsTrue (fin.contains_key m e)) k out there (All-weaker (λ e. IsTrue (fin.contains_key (fin.remove m k) e)) (λ e. IsTrue (fin.contains_key m e)) (λ e h. left_there m k e h) out f.tracked);
      once = IsDistinct-cons (eq_by_cmp entry_cmp) k out (fresh_all m k out (recursion_from_All (λ e. IsTrue (fin.contains_key (fin.remove m k) e)) out f.tracked)) f.once;
      enough = f.enough;
      needed = λ front last h. need front last h;
    }
  where
    need : (front : List CacheEntryKey) (last : CacheEntryKey) → k ∷ out ≡ front ++ last ∷ [] → ¬ IsWithin limits (without front m)
    need [] last h = over
    need (x ∷ front) last h =
        let head : k ≡ x = cc in
        let tail : out ≡ front ++ last ∷ [] = cc in
        subst (λ x. ¬ IsWithin limits (without front (fin.remove m x))) head (f.needed front last tail)

apart_whole : (k : CacheEntryKey) (l : Recency) → AllByRecursion (λ y. entry_eq k y ≡ false) (keys_of l) → others k l ≡ l
apart_whole k [] a = refl
apart_whole k (e ∷ l) a = ap (λ b. cond (not b) (e ∷ others k l) (others k l)) a.0 ∙ ap (λ l. e ∷ l) (apart_whole k l a.1)

apart_mid : (k : CacheEntryKey) (p b : Recency) (e : E) → AllByRecursion (λ y. entry_eq k y ≡ false) (keys_of (p ++ e ∷ b)) → entry_eq k e.0 ≡ false
apart_mid k [] b e a = a.0
apart_mid k (x ∷ p) b e a = apart_mid k p b e a.1

others-mid : (p b : Recency) (e : E) → IsOnce (p ++ e ∷ b) → others e.0 (p ++ e ∷ b) ≡ p ++ b
others-mid [] b e d = ap (λ t. cond (not t) (e ∷ others e.0 b) (others e.0 b)) (laws.refl e.0) ∙ apart_whole e.0 b (IsDistinct-head entry_eq e.0 (keys_of b) d)
others-mid (x ∷ p) b e d =
    ap (λ t. cond (not t) (x ∷ others e.0 (p ++ e ∷ b)) (others e.0 (p ++ e ∷ b))) (laws.symm e.0 x.0 ∙ apart_mid x.0 p b e (IsDistinct-head entry_eq x.0 (keys_of (p ++ e ∷ b)) d))
    ∙ ap (λ l. x ∷ l) (others-mid p b e (IsDistinct-tail entry_eq x.0 (keys_of (p ++ e ∷ b)) d))

found_mid : (p b : Recency) (e : E) → IsOnce (p ++ e ∷ b) → weight_of e.0 (p ++ e ∷ b) ≡ Some e.1
found_mid [] b e d = ap (λ t. cond t (Some e.1) (weight_of e.0 b)) (laws.refl e.0)
found_mid (x ∷ p) b e d =
    ap (λ t. cond t (Some x.1) (weight_of e.0 (p ++ e ∷ b))) (laws.symm e.0 x.0 ∙ apart_mid x.0 p b e (IsDistinct-head entry_eq x.0 (keys_of (p ++ e ∷ b)) d))
    ∙ found_mid p b e (IsDistinct-tail entry_eq x.0 (keys_of (p ++ e ∷ b)) d)

-- what goes later is there without what went first
weight-later : (m : Tracked) (k : CacheEntryKey) (out : List CacheEntryKey) → AllByRecursion (λ e. IsTrue (fin.contains_key (fin.remove m k) e)) out → weight_in m out ≡ weight_in (fin.remove m k) out
weight-later m k [] a = refl
weight-later m k (x ∷ out) a =
    let off : eq_by_cmp entry_cmp x k ≡ false = (eq_by_cmp_equiv entries_total).symm x k ∙ (fresh_all m k (x ∷ out) a).0 in
    let one : unwrap_or (fin.get (fin.remove m k) x) 0 ≡ unwrap_or (fin.get m x) 0 = ap (λ o. unwrap_or o 0) (get-remove_apart m x k off) in
    let whole = sum_by-cons (λ (e : CacheEntryKey). unwrap_or (fin.get m e) 0) x out in
    let later = sum_by-cons (λ (e : CacheEntryKey). unwrap_or (fin.get (fin.remove m k) e) 0) x out in
    let rest = weight-later m k out a.1 in
    omega arith

pub run-none : (limits : Limits) (l : Recency) → IsOnce l → IsWithinAsList limits l → Run limits [] l l
run-none limits l once w = record { fair = fair-none limits (map_of l) (within limits l once w); left = refl; gone = omega arith }

-- one entry goes first
pub run-first : (limits : Limits) (out : List CacheEntryKey) (l left newer older : Recency) (k : CacheEntryKey) (n : ℕ) → IsOnce l → ¬ IsWithinAsList limits l → l ≡ newer ++ (k, n) ∷ older → (IsOnce (newer ++ older) → Run limits out (newer ++ older) left) → Run limits (k ∷ out) l left
run-first limits out l left newer older k n once over is rest =
    let next = newer ++ older in
    let apart = subst IsOnce is once in
    let taken : next ≡ others k l = sym (ap (others k) is ∙ others-mid newer older (k, n) apart) in
    let later = rest (subst IsOnce (sym taken) (distinct-others k l once)) in
    let removed : map_of next ≡ fin.remove (map_of l) k = ap map_of taken ∙ map-others k l in
    let found : fin.get (map_of l) k ≡ Some n = get-map_of l k ∙ ap (weight_of k) is ∙ found_mid newer older (k, n) apart in
    let fair = subst (λ t. IsFair limits t out) removed later.fair in
    let one = sum_by-cons (λ (e : CacheEntryKey). unwrap_or (fin.get (map_of l) e) 0) k out in
    let here : unwrap_or (fin.get (map_of l) k) 0 ≡ n = ap (λ o. unwrap_or o 0) found in
    let there : weight_in (map_of l) out ≡ weight_in (map_of next) out = weight-later (map_of l) k out (recursion_from_All (λ e. IsTrue (fin.contains_key (fin.remove (map_of l) k) e)) out fair.tracked) ∙ ap (λ m. weight_in m out) (sym removed) in
    let old : weight l ≡ weight newer + weight ((k, n) ∷ older) = ap weight is ∙ sum_by-append (λ (e : E). e.1) newer ((k, n) ∷ older) in
    let head = sum_by-cons (λ (e : E). e.1) (k, n) older in
    let new : weight next ≡ weight newer + weight older = sum_by-append (λ (e : E). e.1) newer older in
    let gone = later.gone in
    record {
      fair = fair-first limits (map_of l) k out (ap is_some found) (λ w. over (inside limits l once w)) fair;
      left = later.left ∙ ap (without out) removed;
      gone = omega arith;
    }

-- the order of the entries does not matter
pub run-same : (limits : Limits) (out : List CacheEntryKey) (l m left : Recency) → IsOnce l → IsOnce m → map_of m ≡ map_of l → Run limits out m left → Run limits out l left
run-same limits out l m left once apart same run =
    let heavy : weight m ≡ weight l = sym (weight-map_of m apart) ∙ ap tracked.weight same ∙ weight-map_of l once in
    let gone = run.gone in
    let there : weight_in (map_of m) out ≡ weight_in (map_of l) out = ap (λ m. weight_in m out) same in
    record { fair = subst (λ t. IsFair limits t out) same run.fair; left = run.left ∙ ap (without out) same; gone = omega arith }

pub run-ends-same : (limits : Limits) (out : List CacheEntryKey) (l m left : Recency) → map_of left ≡ map_of m → weight left ≡ weight m → Run limits out l m → Run limits out l left
run-ends-same limits out l m left same heavy run = let gone = run.gone in record { fair = run.fair; left = same ∙ run.left; gone = omega arith }

-- ---- entries before a list

pub none_comes : Coming [] 0 0
none_comes = record { sum = λ l. omega arith; long = λ l. omega arith }

pub one_comes : (k : CacheEntryKey) (n : ℕ) → Coming ((k, n) ∷ []) n 1
one_comes k n = record { sum = λ l. sum_by-cons (λ (e : CacheEntryKey × ℕ). e.1) (k, n) l; long = λ l. omega arith }

pub within_of : (limits : Limits) (coming l : Recency) (size count : ℕ) → Coming coming size count → HasRoom limits size count l → IsWithinAsList limits (coming ++ l)
within_of limits coming l size count c r =
    record { weight = subst (λ n. n ≤ limits.weight) (sym (c.sum l)) r.heavy; count = subst (λ n. IfSome limits.watermark (λ most. n ≤ most)) (sym (c.long l)) r.many }

pub room_of : (limits : Limits) (coming l : Recency) (size count : ℕ) → Coming coming size count → IsWithinAsList limits (coming ++ l) → HasRoom limits size count l
room_of limits coming l size count c i =
    record { heavy = subst (λ n. n ≤ limits.weight) (c.sum l) i.weight; many = subst (λ n. IfSome limits.watermark (λ most. n ≤ most)) (c.long l) i.count }

pub room-within : (limits : Limits) (l : Recency) → IsWithinAsList limits l → HasRoom limits 0 0 l
room-within limits l i = record { heavy = (let h = i.weight in omega arith); many = fewer limits.watermark i.count }
  where
    fewer : (o : Option ℕ) → IfSome o (λ most. length l ≤ most) → IfSome o (λ most. 0 + length l ≤ most)
    fewer None h = h
    fewer (Some most) h = (let le : length l ≤ most = h in omega arith)
