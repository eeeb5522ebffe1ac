-- A recency list seen as a finite map.
use Rattle.std.proofs.Common.{map}
use Rattle.std.specs.List.{sum_by, IsDistinct}
use Rattle.pcache_base.proofs.Totals.{made-total, made-len}
use Rattle.pcache_evict.specs.Recency.{weight, Evicts}
use Rattle.pcache_evict.specs.Listed.{Moves}
use Rattle.pcache_evict.proofs.Words.{◌≡◌, ℕ, ◌+◌, ◌-◌, ◌^◌, min, ◌<◌, ◌≤◌, Bool, true, false, cond, not, None, Some, is_some, List, [], ◌∷◌, ◌++◌, reverse, refl, ap, sym, subst, ◌∙◌, arith, length, append_assoc, unwrap_or, IfSome, AllByRecursion, keys_of, eq_by_cmp, reverse-append, sum_by-cons, sum_by-append, IsDistinct-head, IsDistinct-tail, CacheEntryKey, entry_eq, entry_cmp, entries_total, entry_ties, Tracked, Limits, IsWithin, IsFair, without, added, weight_in, evicted_with, Recency, weight_of, others, moved, accessed, IsWithinAsList, Listed, map_of, IsOnce}
use Rattle.std.specs.FinMap as fin
use Rattle.pcache_evict.proofs.EntryOrder.{exact_entries, same_test}
use Rattle.pcache_evict.specs.Tracked as tracked
use Rattle.pcache_evict.proofs.Evictions.{Gone, gone-none, gone-more, without-push}
use Rattle.pcache_evict.proofs.Recency.{same_key, laws, distinct-front}

abbrev ties : CacheEntryKey → CacheEntryKey → Bool
ties = eq_by_cmp entry_cmp

find-lookup : (l : Recency) (q : CacheEntryKey) → fin.find entry_cmp q l ≡ weight_of q l
find-lookup [] q = refl
find-lookup (e ∷ l) q = ap (λ b. cond b (Some e.1) (fin.find entry_cmp q l)) (sym (entry_ties q e.0)) ∙ ap (cond (entry_eq q e.0) (Some e.1)) (find-lookup l q)

pub get-map_of : (l : Recency) (q : CacheEntryKey) → fin.get (map_of l) q ≡ weight_of q l
get-map_of l q = fin.get-from_entries entries_total l q ∙ find-lookup l q

gone : (k q : CacheEntryKey) (l : Recency) → entry_eq q k ≡ true → weight_of q (others k l) ≡ None
gone k q [] t = refl
gone k q (e ∷ l) t =
    elim (entry_eq k e.0) as (λ b. entry_eq k e.0 ≡ b → weight_of q (cond (not b) (e ∷ others k l) (others k l)) ≡ None) [
      | true ↦ λ _. gone k q l t
      | false ↦ λ f. ap (λ b. cond b (Some e.1) (weight_of q (others k l))) (laws.congr q k e.0 t ∙ f) ∙ gone k q l t
    ] refl

stays : (k q : CacheEntryKey) (l : Recency) → entry_eq q k ≡ false → weight_of q (others k l) ≡ weight_of q l
stays k q [] t = refl
stays k q (e ∷ l) t =
    elim (entry_eq k e.0) as (λ b. entry_eq k e.0 ≡ b → weight_of q (cond (not b) (e ∷ others k l) (others k l)) ≡ weight_of q (e ∷ l)) [
      | true ↦ λ h. stays k q l t ∙ sym (ap (λ b. cond b (Some e.1) (weight_of q l)) (ap (entry_eq q) (sym (same_key k e.0 h)) ∙ t))
      | false ↦ λ _. ap (cond (entry_eq q e.0) (Some e.1)) (stays k q l t)
    ] refl

pub map-others : (k : CacheEntryKey) (l : Recency) → map_of (others k l) ≡ fin.remove (map_of l) k
map-others k l = fin.same_map entries_total exact_entries _ _ (λ q.
    get-map_of (others k l) q
    ∙ (elim (entry_eq q k) as (λ b. entry_eq q k ≡ b → weight_of q (others k l) ≡ cond b None (weight_of q l)) [
      | true ↦ λ t. gone k q l t
      | false ↦ λ t. stays k q l t
    ] refl)
    ∙ ap (λ b. cond b None (weight_of q l)) (entry_ties q k)
    ∙ sym (fin.get-remove entries_total (map_of l) k q ∙ ap (cond (ties q k) None) (get-map_of l q)))

pub map-moved : (k : CacheEntryKey) (n : ℕ) (l : Recency) → map_of (moved k n l) ≡ fin.insert (map_of l) k n
map-moved k n l = fin.same_map entries_total exact_entries _ _ (λ q.
    get-map_of (moved k n l) q
    ∙ (elim (entry_eq q k) as (λ b. entry_eq q k ≡ b → cond b (Some n) (weight_of q (others k l)) ≡ cond b (Some n) (weight_of q l)) [
      | true ↦ λ t. refl
      | false ↦ λ t. stays k q l t
    ] refl)
    ∙ ap (λ b. cond b (Some n) (weight_of q l)) (entry_ties q k)
    ∙ sym (fin.get-insert entries_total (map_of l) k n q ∙ ap (cond (ties q k) (Some n)) (get-map_of l q)))

-- an access, on the map
pub map-accessed : (k : CacheEntryKey) (n : ℕ) (l : Recency) → map_of (accessed k n l) ≡ added (map_of l) k n
map-accessed k n l = map-moved k _ l ∙ (elim (weight_of k l) as (λ o. weight_of k l ≡ o → fin.insert (map_of l) k (unwrap_or o n) ≡ added (map_of l) k n) [
  | None ↦ λ h. sym (ap (λ b. cond b (map_of l) (fin.insert (map_of l) k n)) (ap is_some (get-map_of l k ∙ h)))
  | Some w ↦ λ h. put_same w (get-map_of l k ∙ h) ∙ sym (ap (λ b. cond b (map_of l) (fin.insert (map_of l) k n)) (ap is_some (get-map_of l k ∙ h)))
] refl)
  where
    put_same : (w : ℕ) → fin.get (map_of l) k ≡ Some w → fin.insert (map_of l) k w ≡ map_of l
    put_same w is = fin.same_map entries_total exact_entries _ _ (λ q.
        fin.get-insert entries_total (map_of l) k w q
        ∙ ap (λ b. cond b (Some w) (fin.get (map_of l) q)) (sym (entry_ties q k))
        ∙ (elim (entry_eq q k) as (λ b. entry_eq q k ≡ b → cond b (Some w) (fin.get (map_of l) q) ≡ fin.get (map_of l) q) [
          | true ↦ λ t. sym is ∙ ap (fin.get (map_of l)) (sym (same_key q k t))
          | false ↦ λ t. refl
        ] refl))

apart_last : (k : CacheEntryKey) (front : Recency) (e : CacheEntryKey × ℕ) → AllByRecursion (λ y. entry_eq k y ≡ false) (keys_of (front ++ e ∷ [])) → entry_eq k e.0 ≡ false
apart_last k [] e a = a.0
apart_last k (x ∷ front) e a = apart_last k front e a.1

-- without its last entry a list is its front
pub others-last : (front : Recency) (e : CacheEntryKey × ℕ) → IsOnce (front ++ e ∷ []) → others e.0 (front ++ e ∷ []) ≡ front
others-last [] e d = ap (λ b. cond (not b) (e ∷ []) []) (laws.refl e.0)
others-last (x ∷ front) e d =
    ap (λ b. cond (not b) (x ∷ others e.0 (front ++ e ∷ [])) (others e.0 (front ++ e ∷ []))) (laws.symm e.0 x.0 ∙ apart_last x.0 front e (IsDistinct-head entry_eq x.0 (keys_of (front ++ e ∷ [])) d))
    ∙ ap (λ l. x ∷ l) (others-last front e (IsDistinct-tail entry_eq x.0 (keys_of (front ++ e ∷ [])) d))

reverse-cons : (e : CacheEntryKey) (xs : List CacheEntryKey) → reverse (e ∷ xs) ≡ reverse xs ++ e ∷ []
reverse-cons e xs = reverse-append (e ∷ []) xs

-- taking a tail out, last first, leaves the front
pub without-tail : (tail list front : Recency) → list ≡ front ++ tail → IsOnce list → without (reverse (keys_of tail)) (map_of list) ≡ map_of front
without-tail [] list front is d = ap map_of (is ∙ nil front)
  where
    nil : (l : Recency) → l ++ [] ≡ l
    nil [] = refl
    nil (x ∷ l) = ap (λ l. x ∷ l) (nil l)
without-tail (e ∷ tail) list front is d =
    let split : list ≡ (front ++ e ∷ []) ++ tail = is ∙ sym (append_assoc front (e ∷ []) tail) in
    let once = distinct-front (front ++ e ∷ []) tail (subst IsOnce split d) in
    ap (λ out. without out (map_of list)) (reverse-cons e.0 (keys_of tail))
    ∙ without-push (reverse (keys_of tail)) e.0 (map_of list)
    ∙ ap (λ m. fin.remove m e.0) (without-tail tail list (front ++ e ∷ []) split d)
    ∙ sym (map-others e.0 (front ++ e ∷ [])) ∙ ap map_of (others-last front e once)

-- the weight and the number of entries of a list's map
ones-tie : (l : Recency) → IsOnce l → IsDistinct ties (keys_of l)
ones-tie l d = subst (λ (t : CacheEntryKey → CacheEntryKey → Bool). IsDistinct t (keys_of l)) same_test d

sum_of_weights : (l : Recency) → sum_by (λ n. n) (map (λ (e : CacheEntryKey × ℕ). e.1) l) ≡ weight l
sum_of_weights [] = refl
sum_of_weights (e ∷ l) = sum_by-cons (λ (n : ℕ). n) e.1 (map (λ (e : CacheEntryKey × ℕ). e.1) l) ∙ ap (λ n. e.1 + n) (sum_of_weights l) ∙ sym (sum_by-cons (λ (e : CacheEntryKey × ℕ). e.1) e l)

pub weight-map_of : (l : Recency) → IsOnce l → tracked.weight (map_of l) ≡ weight l
weight-map_of l d = made-total entries_total (λ n. n) exact_entries l (ones-tie l d) ∙ sum_of_weights l

pub len-map_of : (l : Recency) → IsOnce l → fin.len (map_of l) ≡ length l
len-map_of l d = made-len entries_total exact_entries l (ones-tie l d)

pub within : (limits : Limits) (l : Recency) → IsOnce l → IsWithinAsList limits l → IsWithin limits (map_of l)
within limits l d i = record { weight = subst (λ n. n ≤ limits.weight) (sym (weight-map_of l d)) i.weight; count = subst (λ n. IfSome limits.watermark (λ most. n ≤ most)) (sym (len-map_of l d)) i.count }

pub inside : (limits : Limits) (l : Recency) → IsOnce l → IsWithin limits (map_of l) → IsWithinAsList limits l
inside limits l d i = record { weight = subst (λ n. n ≤ limits.weight) (weight-map_of l d) i.weight; count = subst (λ n. IfSome limits.watermark (λ most. n ≤ most)) (len-map_of l d) i.count }

-- what the list says of its tail, the map says of what was evicted
popped : (limits : Limits) (tail list front : Recency) → list ≡ front ++ tail → IsOnce list
    → ((f b : Recency) → list ≡ f ++ b → length b < length tail → ¬ IsWithinAsList limits f) → Gone limits (map_of list) (reverse (keys_of tail))
popped limits [] list front is d short = gone-none limits (map_of list)
popped limits (e ∷ tail) list front is d short =
    let split : list ≡ (front ++ e ∷ []) ++ tail = is ∙ sym (append_assoc front (e ∷ []) tail) in
    let once = distinct-front (front ++ e ∷ []) tail (subst IsOnce split d) in
    let left = without-tail tail list (front ++ e ∷ []) split d in
    let has : fin.contains_key (map_of (front ++ e ∷ [])) e.0 ≡ true = ap is_some (get-map_of (front ++ e ∷ []) e.0) ∙ has_last front e in
    subst (Gone limits (map_of list)) (sym (reverse-cons e.0 (keys_of tail)))
    (gone-more limits (map_of list) (reverse (keys_of tail)) e.0 (popped limits tail list (front ++ e ∷ []) split d (λ f b s less. short f b s (omega arith)))
    (ap (λ m. fin.contains_key m e.0) left ∙ has)
    (subst (λ m. ¬ IsWithin limits m) (sym left) (λ w. short (front ++ e ∷ []) tail split (omega arith) (inside limits (front ++ e ∷ []) once w))))
  where
    has_last : (front : Recency) (e : CacheEntryKey × ℕ) → is_some (weight_of e.0 (front ++ e ∷ [])) ≡ true
    has_last [] e = ap (λ b. is_some (cond b (Some e.1) None)) (laws.refl e.0)
    has_last (x ∷ front) e = elim (entry_eq e.0 x.0) as (λ b. is_some (cond b (Some x.1) (weight_of e.0 (front ++ e ∷ []))) ≡ true) [ true ↦ refl | false ↦ has_last front e ]

pub left-of : (limits : Limits) (list after : Recency) (out : List CacheEntryKey) → IsOnce list → Evicts limits list after out → without out (map_of list) ≡ map_of after
left-of limits list after out d v = ap (λ out. without out (map_of list)) v.order ∙ without-tail v.tail list after v.split d

-- an eviction from a list is a fair one from its map
pub fair-of : (limits : Limits) (list after : Recency) (out : List CacheEntryKey) → IsOnce list → Evicts limits list after out → IsFair limits (map_of list) out
fair-of limits list after out d v =
    let g = subst (Gone limits (map_of list)) (sym v.order) (popped limits v.tail list after v.split d v.shortest) in
    record { tracked = g.tracked; once = g.once; enough = subst (IsWithin limits) (sym (left-of limits list after out d v)) (within limits after (distinct-front after v.tail (subst IsOnce v.split d)) v.enough); needed = g.needed }

-- what a move and an eviction are for the map
pub moved-fair : (old new : Listed) (k : CacheEntryKey) (n : ℕ) (out : List CacheEntryKey) → Moves old (moved k n old.entries) new out → IsFair old.limits (fin.insert (map_of old.entries) k n) out
moved-fair old new k n out m = subst (λ t. IsFair old.limits t out) (map-moved k n old.entries) (fair-of old.limits (moved k n old.entries) new.entries out m.once m.evicts)

pub moved-left : (old new : Listed) (k : CacheEntryKey) (n : ℕ) (out : List CacheEntryKey) → Moves old (moved k n old.entries) new out → map_of new.entries ≡ without out (fin.insert (map_of old.entries) k n)
moved-left old new k n out m = sym (left-of old.limits (moved k n old.entries) new.entries out m.once m.evicts) ∙ ap (without out) (map-moved k n old.entries)

-- ---- what was evicted, as the totals see it

apart_mid : (k : CacheEntryKey) (front tail : Recency) (e : CacheEntryKey × ℕ) → AllByRecursion (λ y. entry_eq k y ≡ false) (keys_of (front ++ e ∷ tail)) → entry_eq k e.0 ≡ false
apart_mid k [] tail e a = a.0
apart_mid k (x ∷ front) tail e a = apart_mid k front tail e a.1

found_mid : (front tail : Recency) (e : CacheEntryKey × ℕ) → IsOnce (front ++ e ∷ tail) → weight_of e.0 (front ++ e ∷ tail) ≡ Some e.1
found_mid [] tail e d = ap (λ t. cond t (Some e.1) (weight_of e.0 tail)) (laws.refl e.0)
found_mid (x ∷ front) tail e d =
    ap (λ t. cond t (Some x.1) (weight_of e.0 (front ++ e ∷ tail))) (laws.symm e.0 x.0 ∙ apart_mid x.0 front tail e (IsDistinct-head entry_eq x.0 (keys_of (front ++ e ∷ tail)) d))
    ∙ found_mid front tail e (IsDistinct-tail entry_eq x.0 (keys_of (front ++ e ∷ tail)) d)

in_tail : (front tail : Recency) → IsOnce (front ++ tail) → weight_in (map_of (front ++ tail)) (keys_of tail) ≡ weight tail
in_tail front [] d = refl
in_tail front (e ∷ tail) d =
    let split : front ++ e ∷ tail ≡ (front ++ e ∷ []) ++ tail = sym (append_assoc front (e ∷ []) tail) in
    let rest : weight_in (map_of (front ++ e ∷ tail)) (keys_of tail) ≡ weight tail = subst (λ l. weight_in (map_of l) (keys_of tail) ≡ weight tail) (sym split) (in_tail (front ++ e ∷ []) tail (subst IsOnce split d)) in
    let here : unwrap_or (fin.get (map_of (front ++ e ∷ tail)) e.0) 0 ≡ e.1 = ap (λ o. unwrap_or o 0) (get-map_of (front ++ e ∷ tail) e.0 ∙ found_mid front tail e d) in
    let first = sum_by-cons (λ (k : CacheEntryKey). unwrap_or (fin.get (map_of (front ++ e ∷ tail)) k) 0) e.0 (keys_of tail) in
    let whole = sum_by-cons (λ (e : CacheEntryKey × ℕ). e.1) e tail in
    omega arith

in_reverse : (f : CacheEntryKey → ℕ) (es : List CacheEntryKey) → sum_by f (reverse es) ≡ sum_by f es
in_reverse f [] = refl
in_reverse f (e ∷ es) =
    let turned = ap (sum_by f) (reverse-cons e es) in
    let parts = sum_by-append f (reverse es) (e ∷ []) in
    let one : sum_by f (e ∷ []) ≡ f e + 0 = sum_by-cons f e [] in
    let whole = sum_by-cons f e es in
    let rest = in_reverse f es in
    omega arith

-- what an eviction takes off the weight of a list, the map gives as the weights of what was evicted
pub gone-weight : (limits : Limits) (list after : Recency) (out : List CacheEntryKey) → IsOnce list → Evicts limits list after out → weight_in (map_of list) out ≡ weight list - weight after
gone-weight limits list after out d v =
    let keys = ap (weight_in (map_of list)) v.order in
    let turned = in_reverse (λ k. unwrap_or (fin.get (map_of list) k) 0) (keys_of v.tail) in
    let tail : weight_in (map_of list) (keys_of v.tail) ≡ weight v.tail = subst (λ l. weight_in (map_of l) (keys_of v.tail) ≡ weight v.tail) (sym v.split) (in_tail after v.tail (subst IsOnce v.split d)) in
    let parts = sum_by-append (λ (e : CacheEntryKey × ℕ). e.1) after v.tail in
    let whole : weight list ≡ weight (after ++ v.tail) = ap weight v.split in
    omega arith

pub moved-evicted : (old new : Listed) (k : CacheEntryKey) (n : ℕ) (out : List CacheEntryKey) → Moves old (moved k n old.entries) new out → new.evicted ≡ evicted_with old.evicted (fin.insert (map_of old.entries) k n) out
moved-evicted old new k n out m =
    let gone : weight (moved k n old.entries) - weight new.entries ≡ weight_in (fin.insert (map_of old.entries) k n) out = sym (gone-weight old.limits (moved k n old.entries) new.entries out m.once m.evicts) ∙ ap (λ t. weight_in t out) (map-moved k n old.entries) in
    let size : new.evicted.weight ≡ min (old.evicted.weight + weight_in (fin.insert (map_of old.entries) k n) out) (2 ^ 64 - 1) = m.weight ∙ ap (λ w. min (old.evicted.weight + w) (2 ^ 64 - 1)) gone in
    λ i. record { weight = size i; count = m.count i }
