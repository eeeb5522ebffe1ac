-- The three queues of a list with a hand: where an entry may be, and what one step of the hand does.
use Rattle.std.specs.Prelude.{◌↔◌}
use Rattle.std.proofs.lemmas.Bool.{eq-eqb, ne_eqb}
use Rattle.std.proofs.Math.Dec.{eqb}
use Rattle.std.proofs.lemmas.List.Elements.{filter-append}
use Rattle.pcache_policies.specs.Queue.{IsOnce}
use Rattle.pcache_policies.specs.Sieve.{Sieve, whole, entries, MakesRoom, rests, clears, goes}
use Rattle.pcache_policies.specs.Ring.{left_of, Steps, Chooses, steps_of}
use Rattle.pcache_policies.proofs.Words.{◌≡◌, ℕ, suc, ◌+◌, ◌-◌, ◌<◌, ◌≤◌, Bool, true, false, cond, not, Option, None, Some, is_some, List, [], ◌∷◌, ◌++◌, reverse, refl, ap, sym, subst, ◌∙◌, arith, inl, inr, length, length-append, append_assoc, append-nil, ◌≢◌, ◌^◌, IfSome, IsTrue, last_entry, AllByRecursion, keys_of, both_ways, reverse-append, sum_by-cons, sum_by-append, IsDistinct-head, IsDistinct-tail, IsDistinct-cons, CacheEntryKey, entry_eq, entries_total, Limits, Recency, weight, weight_of, map_of, exact_entries, same_key, laws, get-map_of, Seen, Queue, plain, seen_of, rest_of, reseen, unused, HasRoom, turns, Ring, ring, all, IsRing, chosen, SameEntries}
use Rattle.std.specs.FinMap as fin
use Rattle.pcache_policies.specs.Ring as step
use Rattle.pcache_policies.proofs.Queues.{E, once-reseen, once-rest, once-back, last_split}

-- ---- changes of the whole list are changes of its parts

-- a ring that is not full
pub not-full : (b : Bool) (count : ℕ) → (IsTrue b ↔ (2 ^ 63 - 1 ≤ count)) → b ≡ false → ¬ (2 ^ 63 - 1 ≤ count)
not-full b count full isnt most = both_ways b isnt (full.1 most)

pub reseen-append : (k : CacheEntryKey) (v : Seen) (a b : Queue) → reseen k v (a ++ b) ≡ reseen k v a ++ reseen k v b
reseen-append k v [] b = refl
reseen-append k v (e ∷ a) b = ap (λ q. cond (entry_eq k e.0) (e.0, v) e ∷ q) (reseen-append k v a b)

pub rest-append : (k : CacheEntryKey) (a b : Queue) → rest_of k (a ++ b) ≡ rest_of k a ++ rest_of k b
rest-append k a b = filter-append (λ (e : E). not (entry_eq k e.0)) a b

pub reseen-all : (k : CacheEntryKey) (v : Seen) (a g p : Queue) → reseen k v (a ++ (g ++ p)) ≡ reseen k v a ++ (reseen k v g ++ reseen k v p)
reseen-all k v a g p = reseen-append k v a (g ++ p) ∙ ap (λ q. reseen k v a ++ q) (reseen-append k v g p)

pub rest-all : (k : CacheEntryKey) (a g p : Queue) → rest_of k (a ++ (g ++ p)) ≡ rest_of k a ++ (rest_of k g ++ rest_of k p)
rest-all k a g p = rest-append k a (g ++ p) ∙ ap (λ q. rest_of k a ++ q) (rest-append k g p)

pub few_rest : (k : CacheEntryKey) (q : Queue) → length (rest_of k q) ≤ length q
few_rest k [] = omega arith
few_rest k (e ∷ q) = elim (entry_eq k e.0) as (λ b. length (cond (not b) (e ∷ rest_of k q) (rest_of k q)) ≤ length (e ∷ q)) [ true ↦ (let less = few_rest k q in omega arith) | false ↦ (let less = few_rest k q in omega arith) ]

long_reseen : (k : CacheEntryKey) (v : Seen) (q : Queue) → length (reseen k v q) ≡ length q
long_reseen k v [] = refl
long_reseen k v (e ∷ q) = ap suc (long_reseen k v q)

pub ring-reseen : (k : CacheEntryKey) (v : Seen) (a g p : Queue) → IsRing a g p → IsRing (reseen k v a) (reseen k v g) (reseen k v p)
ring-reseen k v a g p r =
    let few = r.few in
    let la = long_reseen k v a in
    let lg = long_reseen k v g in
    let lp = long_reseen k v p in
    record { once = subst IsOnce (reseen-all k v a g p) (once-reseen k v (a ++ (g ++ p)) r.once); few = omega arith }

pub ring-rest : (k : CacheEntryKey) (a g p : Queue) → IsRing a g p → IsRing (rest_of k a) (rest_of k g) (rest_of k p)
ring-rest k a g p r =
    let few = r.few in
    let la = few_rest k a in
    let lg = few_rest k g in
    let lp = few_rest k p in
    record { once = subst IsOnce (rest-all k a g p) (once-rest k (a ++ (g ++ p)) r.once); few = omega arith }

-- ---- an entry in the middle

abbrev pub Apart : CacheEntryKey → Queue → Type 0
Apart k q = AllByRecursion (λ j. entry_eq k j ≡ false) (keys_of q)

pub none_apart : (k : CacheEntryKey) (q : Queue) → Apart k q → seen_of k q ≡ None
none_apart k [] a = refl
none_apart k (e ∷ q) a = ap (λ b. cond b (Some e.1) (seen_of k q)) a.0 ∙ none_apart k q a.1

pub apart_none : (k : CacheEntryKey) (q : Queue) → seen_of k q ≡ None → Apart k q
apart_none k [] h = tt
apart_none k (e ∷ q) h =
    elim (entry_eq k e.0) as (λ b. entry_eq k e.0 ≡ b → cond b (Some e.1) (seen_of k q) ≡ None → (entry_eq k e.0 ≡ false) × Apart k q) [
      | true ↦ λ t h. cc
      | false ↦ λ t h. (t, apart_none k q h)
    ] refl h

apart_at : (k : CacheEntryKey) (x y : Queue) (e : E) → Apart k (x ++ e ∷ y) → entry_eq k e.0 ≡ false
apart_at k [] y e a = a.0
apart_at k (f ∷ x) y e a = apart_at k x y e a.1

apart_past : (k : CacheEntryKey) (x y : Queue) (e : E) → Apart k (x ++ e ∷ y) → Apart k (x ++ y)
apart_past k [] y e a = a.1
apart_past k (f ∷ x) y e a = (a.0, apart_past k x y e a.1)

apart_in : (k : CacheEntryKey) (x y : Queue) (e : E) → entry_eq k e.0 ≡ false → Apart k (x ++ y) → Apart k (x ++ e ∷ y)
apart_in k [] y e n a = (n, a)
apart_in k (f ∷ x) y e n a = (a.0, apart_in k x y e n a.1)

pub apart_front : (k : CacheEntryKey) (x y : Queue) → Apart k (x ++ y) → Apart k x
apart_front k [] y a = tt
apart_front k (f ∷ x) y a = (a.0, apart_front k x y a.1)

pub apart_back : (k : CacheEntryKey) (x y : Queue) → Apart k (x ++ y) → Apart k y
apart_back k [] y a = a
apart_back k (f ∷ x) y a = apart_back k x y a.1

pub apart_both : (k : CacheEntryKey) (x y : Queue) → Apart k x → Apart k y → Apart k (x ++ y)
apart_both k [] y a b = b
apart_both k (f ∷ x) y a b = (a.0, apart_both k x y a.1 b)

-- the others are not the entry
pub apart_mid : (x y : Queue) (e : E) → IsOnce (x ++ e ∷ y) → Apart e.0 (x ++ y)
apart_mid [] y e d = IsDistinct-head entry_eq e.0 (keys_of y) d
apart_mid (f ∷ x) y e d = (laws.symm e.0 f.0 ∙ apart_at f.0 x y e (IsDistinct-head entry_eq f.0 (keys_of (x ++ e ∷ y)) d), apart_mid x y e (IsDistinct-tail entry_eq f.0 (keys_of (x ++ e ∷ y)) d))

pub once_past : (x y : Queue) (e : E) → IsOnce (x ++ e ∷ y) → IsOnce (x ++ y)
once_past [] y e d = IsDistinct-tail entry_eq e.0 (keys_of y) d
once_past (f ∷ x) y e d = IsDistinct-cons entry_eq f.0 (keys_of (x ++ y)) (apart_past f.0 x y e (IsDistinct-head entry_eq f.0 (keys_of (x ++ e ∷ y)) d)) (once_past x y e (IsDistinct-tail entry_eq f.0 (keys_of (x ++ e ∷ y)) d))

pub once_in : (x y : Queue) (e : E) → Apart e.0 (x ++ y) → IsOnce (x ++ y) → IsOnce (x ++ e ∷ y)
once_in [] y e a d = IsDistinct-cons entry_eq e.0 (keys_of y) a d
once_in (f ∷ x) y e a d = IsDistinct-cons entry_eq f.0 (keys_of (x ++ e ∷ y)) (apart_in f.0 x y e (laws.symm f.0 e.0 ∙ a.0) (IsDistinct-head entry_eq f.0 (keys_of (x ++ y)) d)) (once_in x y e a.1 (IsDistinct-tail entry_eq f.0 (keys_of (x ++ y)) d))

pub once_swap : (x y : Queue) → IsOnce (x ++ y) → IsOnce (y ++ x)
once_swap [] y d = subst IsOnce (sym (append-nil y)) d
once_swap (e ∷ x) y d =
    let apart = IsDistinct-head entry_eq e.0 (keys_of (x ++ y)) d in
    once_in y x e (apart_both e.0 y x (apart_back e.0 x y apart) (apart_front e.0 x y apart)) (once_swap x y (IsDistinct-tail entry_eq e.0 (keys_of (x ++ y)) d))

-- ---- the map of a list does not depend on the position of an entry

lookup-mid : (k : CacheEntryKey) (v : Seen) (a b : Queue) (q : CacheEntryKey) → Apart k a → weight_of q (plain (a ++ (k, v) ∷ b)) ≡ weight_of q (plain ((k, v) ∷ (a ++ b)))
lookup-mid k v [] b q h = refl
lookup-mid k v (e ∷ a) b q h =
    ap (cond (entry_eq q e.0) (Some e.1.weight)) (lookup-mid k v a b q h.1)
    ∙ (elim (entry_eq q k) as (λ t. entry_eq q k ≡ t → cond (entry_eq q e.0) (Some e.1.weight) (cond t (Some v.weight) (weight_of q (plain (a ++ b)))) ≡ cond t (Some v.weight) (cond (entry_eq q e.0) (Some e.1.weight) (weight_of q (plain (a ++ b))))) [
      | true ↦ λ t. ap (λ b. cond b (Some e.1.weight) (Some v.weight)) (ap (λ x. entry_eq x e.0) (same_key q k t) ∙ h.0)
      | false ↦ λ t. refl
    ] refl)

pub map-mid : (k : CacheEntryKey) (v : Seen) (a b : Queue) → Apart k a → map_of (plain (a ++ (k, v) ∷ b)) ≡ map_of (plain ((k, v) ∷ (a ++ b)))
map-mid k v a b h = fin.same_map entries_total exact_entries _ _ (λ q. get-map_of (plain (a ++ (k, v) ∷ b)) q ∙ lookup-mid k v a b q h ∙ sym (get-map_of (plain ((k, v) ∷ (a ++ b))) q))

pub map-cons : (e : CacheEntryKey × ℕ) (l m : Recency) → map_of l ≡ map_of m → map_of (e ∷ l) ≡ map_of (e ∷ m)
map-cons e l m same = fin.same_map entries_total exact_entries _ _ (λ q.
    get-map_of (e ∷ l) q ∙ ap (cond (entry_eq q e.0) (Some e.1)) (sym (get-map_of l q) ∙ ap (λ t. fin.get t q) same ∙ get-map_of m q) ∙ sym (get-map_of (e ∷ m) q))

pub map-swap : (x y : Queue) → IsOnce (x ++ y) → map_of (plain (x ++ y)) ≡ map_of (plain (y ++ x))
map-swap [] y d = ap (λ q. map_of (plain q)) (sym (append-nil y))
map-swap (e ∷ x) y d =
    let apart = IsDistinct-head entry_eq e.0 (keys_of (x ++ y)) d in
    map-cons (e.0, e.1.weight) (plain (x ++ y)) (plain (y ++ x)) (map-swap x y (IsDistinct-tail entry_eq e.0 (keys_of (x ++ y)) d))
    ∙ sym (map-mid e.0 e.1 y x (apart_back e.0 x y apart))

-- ---- where an entry is found

pub found-append : (k : CacheEntryKey) (a b : Queue) → seen_of k (a ++ b) ≡ cond (is_some (seen_of k a)) (seen_of k a) (seen_of k b)
found-append k [] b = refl
found-append k (e ∷ a) b =
    elim (entry_eq k e.0) as (λ t. cond t (Some e.1) (seen_of k (a ++ b)) ≡ cond (is_some (cond t (Some e.1) (seen_of k a))) (cond t (Some e.1) (seen_of k a)) (seen_of k b)) [
      | true ↦ refl
      | false ↦ found-append k a b
    ]

pub found_first : (k : CacheEntryKey) (a b : Queue) (v : Seen) → Some v ≡ seen_of k a → Some v ≡ seen_of k (a ++ b)
found_first k a b v h = h ∙ (elim (seen_of k a) as (λ o. Some v ≡ o → o ≡ cond (is_some o) o (seen_of k b)) [ None ↦ λ h. cc | Some w ↦ λ h. refl ] h) ∙ sym (found-append k a b)

pub found_later : (k : CacheEntryKey) (a b : Queue) → None ≡ seen_of k a → seen_of k b ≡ seen_of k (a ++ b)
found_later k a b h = ap (λ o. cond (is_some o) o (seen_of k b)) h ∙ sym (found-append k a b)

-- ---- one step of the hand

-- the last entry ahead, before the others
pub last_ahead : (a b g p : Queue) (e : E) → a ≡ b ++ e ∷ [] → a ++ (g ++ p) ≡ b ++ e ∷ (g ++ p)
last_ahead a b g p e is = ap (λ a. a ++ (g ++ p)) is ∙ append_assoc b (e ∷ []) (g ++ p)

pub absent_leaving : (a b g p : Queue) (e : E) → IsRing a g p → a ≡ b ++ e ∷ [] → seen_of e.0 g ≡ None
absent_leaving a b g p e r is = none_apart e.0 g (apart_front e.0 g p (apart_back e.0 b (g ++ p) (apart_mid b (g ++ p) e (subst IsOnce (last_ahead a b g p e is) r.once))))

pub absent_passed : (a b g p : Queue) (e : E) → IsRing a g p → a ≡ b ++ e ∷ [] → seen_of e.0 p ≡ None
absent_passed a b g p e r is = none_apart e.0 p (apart_back e.0 g p (apart_back e.0 b (g ++ p) (apart_mid b (g ++ p) e (subst IsOnce (last_ahead a b g p e is) r.once))))

pub same-passed : (a b g p : Queue) (e : E) (v : Seen) → IsOnce (a ++ (g ++ p)) → a ≡ b ++ e ∷ [] → v.weight ≡ e.1.weight → map_of (plain (b ++ (g ++ (e.0, v) ∷ p))) ≡ map_of (plain (a ++ (g ++ p)))
same-passed a b g p e v d is w =
    let split = last_ahead a b g p e is in
    let apart = apart_mid b (g ++ p) e (subst IsOnce split d) in
    let join = append_assoc b g p in
    let apart2 = subst (Apart e.0) (sym join) apart in
    let there : (b ++ g) ++ (e.0, v) ∷ p ≡ b ++ (g ++ (e.0, v) ∷ p) = append_assoc b g ((e.0, v) ∷ p) in
    ap (λ q. map_of (plain q)) (sym there)
    ∙ map-mid e.0 v (b ++ g) p (apart_front e.0 (b ++ g) p apart2)
    ∙ ap (λ n. map_of ((e.0, n) ∷ plain ((b ++ g) ++ p))) w
    ∙ ap (λ q. map_of ((e.0, e.1.weight) ∷ plain q)) join
    ∙ sym (map-mid e.0 e.1 b (g ++ p) (apart_front e.0 b (g ++ p) apart))
    ∙ ap (λ q. map_of (plain q)) (sym split)

-- an entry set aside
pub record Moved (a b g h p r : Queue) : Type 0 where
  pub ring : IsRing b h r
  pub same : map_of (plain (b ++ (h ++ r))) ≡ map_of (plain (a ++ (g ++ p)))

pub moved-passed : (a b g p : Queue) (e : E) (v : Seen) → IsRing a g p → a ≡ b ++ e ∷ [] → v.weight ≡ e.1.weight → Moved a b g g p ((e.0, v) ∷ p)
moved-passed a b g p e v r is w =
    let split = last_ahead a b g p e is in
    let once = subst IsOnce split r.once in
    let apart = apart_mid b (g ++ p) e once in
    let left = once_past b (g ++ p) e once in
    let join = append_assoc b g p in
    let apart2 = subst (Apart e.0) (sym join) apart in
    let there : (b ++ g) ++ (e.0, v) ∷ p ≡ b ++ (g ++ (e.0, v) ∷ p) = append_assoc b g ((e.0, v) ∷ p) in
    let many = ap (λ (q : Queue). length q) is in
    let longer = length-append b (e ∷ []) in
    let few = r.few in
    record {
      ring = record { once = subst IsOnce there (once_in (b ++ g) p (e.0, v) apart2 (subst IsOnce (sym join) left)); few = omega arith };
      same = same-passed a b g p e v r.once is w;
    }

pub moved-turned : (a g p : Queue) → IsRing a g p → a ≡ [] → Moved a p g g p []
moved-turned a g p r is =
    let start : a ++ (g ++ p) ≡ g ++ p = ap (λ a. a ++ (g ++ p)) is in
    let end : p ++ g ≡ p ++ (g ++ []) = ap (λ q. p ++ q) (sym (append-nil g)) in
    let once = subst IsOnce start r.once in
    let none = ap (λ (q : Queue). length q) is in
    let few = r.few in
    record {
      ring = record { once = subst IsOnce end (once_swap g p once); few = omega arith };
      same = ap (λ q. map_of (plain q)) (sym end) ∙ sym (map-swap g p once) ∙ ap (λ q. map_of (plain q)) (sym start);
    }

pub none_long : (q : Queue) → length q ≡ 0 → q ≡ []
none_long [] h = refl
none_long (e ∷ q) h = absurd (omega arith)

pub absent_turned : (a g p : Queue) (k : CacheEntryKey) → seen_of k (a ++ (g ++ p)) ≡ None → seen_of k (p ++ (g ++ [])) ≡ None
absent_turned a g p k h =
    let later = apart_back k a (g ++ p) (apart_none k (a ++ (g ++ p)) h) in
    none_apart k (p ++ (g ++ [])) (apart_both k p (g ++ []) (apart_back k g p later) (apart_both k g [] (apart_front k g p later) tt))

pub absent_ahead : (a r : Queue) (k : CacheEntryKey) → seen_of k (a ++ r) ≡ None → seen_of k a ≡ None
absent_ahead a r k h = none_apart k a (apart_front k a r (apart_none k (a ++ r) h))

pub ring-entered : (a g p : Queue) (k : CacheEntryKey) (v : Seen) → IsRing a g p → seen_of k (a ++ (g ++ p)) ≡ None → length (a ++ (g ++ p)) < 2 ^ 63 - 1 → IsRing ((k, v) ∷ a) g p
ring-entered a g p k v r none few =
    let long = length-append a (g ++ p) in
    let rest = length-append g p in
    record { once = IsDistinct-cons entry_eq k (keys_of (a ++ (g ++ p))) (apart_none k (a ++ (g ++ p)) none) r.once; few = omega arith }

pub popped_last : (a b : Queue) (e : E) → last_entry a ≡ Some e → IfSome (last_entry a) (λ e. a ≡ b ++ e ∷ []) → a ≡ b ++ e ∷ []
popped_last a b e last h = let P : Option E → Type 0 = λ o. IfSome o (λ e. a ≡ b ++ e ∷ []) in subst P last h

-- what was chosen counts as passed
pub settled : (a g h p : Queue) (e : E) → IsRing a g p → g ≡ h ++ e ∷ [] → (seen_of e.0 p ≡ None) × IsRing a h (e ∷ p) × (h ++ e ∷ p ≡ g ++ p)
settled a g h p e r is =
    let same : h ++ e ∷ p ≡ g ++ p = sym (ap (λ g. g ++ p) is ∙ append_assoc h (e ∷ []) p) in
    let once = once-back a (h ++ e ∷ p) (subst (λ q. IsOnce (a ++ q)) (sym same) r.once) in
    let many = ap (λ (q : Queue). length q) is in
    let longer = length-append h (e ∷ []) in
    let few = r.few in
    (none_apart e.0 p (apart_back e.0 h p (apart_mid h p e once)), record { once = subst (λ q. IsOnce (a ++ q)) (sym same) r.once; few = omega arith }, same)

-- ---- many steps

-- the hand turns once more if nothing is ahead
abbrev pub turn_of : Queue → ℕ
turn_of [] = 1
turn_of (e ∷ q) = 0

abbrev Room : Limits → ℕ → ℕ → Ring → Type 0
Room limits size count r = HasRoom limits size count (entries (left_of r))

pub record Far (limits : Limits) (size count : ℕ) (old now : Ring) : Type 0 where
  pub run : (rest : List CacheEntryKey) (t : Sieve) → MakesRoom limits size count (left_of now) rest t → MakesRoom limits size count (left_of old) (chosen now ++ rest) t
  pub same : SameEntries old now

pub far-none : (limits : Limits) (size count : ℕ) (old : Ring) → old.leaving ≡ [] → Far limits size count old old
far-none limits size count old none = record { run = λ rest t m. subst (λ (g : Queue). MakesRoom limits size count (left_of old) (reverse (keys_of g) ++ rest) t) (sym none) m; same = refl }

reverse-cons : (x : CacheEntryKey) (xs : List CacheEntryKey) → reverse (x ∷ xs) ≡ reverse xs ++ x ∷ []
reverse-cons x xs = reverse-append (x ∷ []) xs

same_all : (old now new : Ring) (a g p : Queue) → SameEntries old now → new ≡ ring a g p → map_of (plain (a ++ (g ++ p))) ≡ map_of (plain (all now)) → SameEntries old new
same_all old now new a g p before is same = ap (λ r. map_of (plain (all r))) is ∙ same ∙ before

pub far-more : (limits : Limits) (size count : ℕ) (old now new : Ring) → Far limits size count old now → ¬ Room limits size count now → IsOnce (all now) → Steps now true new → Far limits size count old new
far-more limits size count old now new far over once (step.ends over2 a p is) = cc
far-more limits size count old now new far over once (step.turns there a p is) =
    record {
      run = λ rest t m.
          subst (λ (g : Queue). MakesRoom limits size count (left_of old) (reverse (keys_of g) ++ rest) t) (sym (ap (λ r. r.leaving) is))
          (far.run rest t (turns (left_of now) t rest over a (subst (λ r. MakesRoom limits size count (left_of r) rest t) is m)));
      same = same_all old now new now.passed now.leaving [] far.same is (turned_map now.ahead now.leaving now.passed once a);
    }
  where
    turned_map : (a g p : Queue) → IsOnce (a ++ (g ++ p)) → a ≡ [] → map_of (plain (p ++ (g ++ []))) ≡ map_of (plain (a ++ (g ++ p)))
    turned_map a g p once is =
        let start : a ++ (g ++ p) ≡ g ++ p = ap (λ a. a ++ (g ++ p)) is in
        let end : p ++ g ≡ p ++ (g ++ []) = ap (λ q. p ++ q) (sym (append-nil g)) in
        ap (λ q. map_of (plain q)) (sym end) ∙ sym (map-swap g p (subst IsOnce start once)) ∙ ap (λ q. map_of (plain q)) (sym start)
far-more limits size count old now new far over once (step.clears k v there a used g p) =
    record {
      run = λ rest t m.
          subst (λ (g : Queue). MakesRoom limits size count (left_of old) (reverse (keys_of g) ++ rest) t) (sym g)
          (far.run rest t (clears (left_of now) (left_of new) t k v rest over a used p m));
      same = cleared_map now.ahead new.ahead now.leaving new.leaving now.passed new.passed k v once a g p ∙ far.same;
    }
  where
    cleared_map : (a b g h p r : Queue) (k : CacheEntryKey) (v : Seen) → IsOnce (a ++ (g ++ p)) → a ≡ b ++ (k, v) ∷ [] → h ≡ g → r ≡ (k, unused v.weight) ∷ p → map_of (plain (b ++ (h ++ r))) ≡ map_of (plain (a ++ (g ++ p)))
    cleared_map a b g h p r k v once is hs rs = ap (λ h. map_of (plain (b ++ (h ++ r)))) hs ∙ ap (λ r. map_of (plain (b ++ (g ++ r)))) rs ∙ same-passed a b g p (k, v) (unused v.weight) once is refl
far-more limits size count old now new far over once (step.chooses k v there a idle g p) =
    record {
      run = λ rest t m.
          subst (λ out. MakesRoom limits size count (left_of old) out t)
          (sym (ap (λ out. out ++ rest) (ap (λ (g : Queue). reverse (keys_of g)) g ∙ reverse-cons k (keys_of now.leaving)) ∙ append_assoc (chosen now) (k ∷ []) rest))
          (far.run (k ∷ rest) t (goes (left_of now) (left_of new) t k v rest over a idle p m));
      same = ap (λ h. map_of (plain (new.ahead ++ (h ++ new.passed)))) g ∙ ap (λ r. map_of (plain (new.ahead ++ (((k, v) ∷ now.leaving) ++ r)))) p ∙ ap (λ q. map_of (plain q)) (sym (last_ahead now.ahead new.ahead now.leaving now.passed (k, v) a)) ∙ far.same;
    }

pub absent_last_leaving : (a g p : Queue) (e : E) → IsRing a g p → last_entry a ≡ Some e → seen_of e.0 g ≡ None
absent_last_leaving a g p e r last = absent_leaving a _ g p e r (last_split a e last)

pub absent_last_passed : (a g p : Queue) (e : E) → IsRing a g p → last_entry a ≡ Some e → seen_of e.0 p ≡ None
absent_last_passed a g p e r last = absent_passed a _ g p e r (last_split a e last)

pub absent_last_settled : (a g p : Queue) (e : E) → IsRing a g p → last_entry g ≡ Some e → seen_of e.0 p ≡ None
absent_last_settled a g p e r last = (settled a g _ p e r (last_split g e last)).0

-- the measure of the hand falls
abbrev steps_left : E → ℕ
steps_left e = cond (eqb e.1.uses 0) 2 4

fewer_steps : (q b : Queue) (e : E) → q ≡ b ++ e ∷ [] → steps_of q ≡ steps_of b + steps_left e
fewer_steps q b e is =
    let parts = sum_by-append steps_left b (e ∷ []) in
    let one : steps_of (e ∷ []) ≡ steps_left e + 0 = sum_by-cons steps_left e [] in
    let whole : steps_of q ≡ steps_of (b ++ e ∷ []) = ap steps_of is in
    omega arith

turn_small : (q : Queue) → turn_of q ≤ 1
turn_small [] = omega arith
turn_small (e ∷ q) = omega arith

turn_some : (q b : Queue) (e : E) → q ≡ b ++ e ∷ [] → turn_of q ≡ 0
turn_some [] [] e is = cc
turn_some [] (f ∷ b) e is = cc
turn_some (f ∷ q) b e is = refl

turn_long : (q : Queue) → q ≢ [] → turn_of q ≡ 0
turn_long [] some = absurd (some refl)
turn_long (f ∷ q) some = refl

pub smaller : (now new : Ring) → Steps now true new → steps_of new.ahead + steps_of new.passed + turn_of new.ahead < steps_of now.ahead + steps_of now.passed + turn_of now.ahead
smaller now new (step.ends over a p is) = cc
smaller now new (step.turns there a p is) =
    let none : steps_of now.ahead ≡ 0 = ap steps_of a in
    let turn : turn_of now.ahead ≡ 1 = ap turn_of a in
    let ahead : steps_of new.ahead ≡ steps_of now.passed = ap (λ r. steps_of r.ahead) is in
    let passed : steps_of new.passed ≡ 0 = ap (λ r. steps_of r.passed) is in
    let faces : turn_of new.ahead ≡ 0 = ap (λ r. turn_of r.ahead) is ∙ turn_long now.passed p in
    omega arith
smaller now new (step.clears k v there a used g p) =
    let less = fewer_steps now.ahead new.ahead (k, v) a in
    let four : steps_left (k, v) ≡ 4 = ap (λ b. cond b 2 4) (ne_eqb v.uses 0 used) in
    let more : steps_of new.passed ≡ 2 + steps_of now.passed = ap steps_of p ∙ sum_by-cons steps_left (k, unused v.weight) now.passed in
    let small = turn_small new.ahead in
    let some = turn_some now.ahead new.ahead (k, v) a in
    omega arith
smaller now new (step.chooses k v there a idle g p) =
    let less = fewer_steps now.ahead new.ahead (k, v) a in
    let two : steps_left (k, v) ≡ 2 = ap (λ b. cond b 2 4) (eq-eqb v.uses 0 idle) in
    let same : steps_of new.passed ≡ steps_of now.passed = ap steps_of p in
    let small = turn_small new.ahead in
    let some = turn_some now.ahead new.ahead (k, v) a in
    omega arith

pub far-done : (limits : Limits) (size count : ℕ) (old now : Ring) → Far limits size count old now → Room limits size count now → Chooses limits size count old now
far-done limits size count old now far room = subst (λ out. MakesRoom limits size count (left_of old) out (left_of now)) (append-nil (chosen now)) (far.run [] (left_of now) (rests (left_of now) (inl room)))

pub far-ends : (limits : Limits) (size count : ℕ) (old now new : Ring) → Far limits size count old now → Steps now false new → Chooses limits size count old new
far-ends limits size count old now new far (step.ends over a p is) =
    subst (λ r. Chooses limits size count old r) (sym is)
    (subst (λ out. MakesRoom limits size count (left_of old) out (left_of now)) (append-nil (chosen now)) (far.run [] (left_of now) (rests (left_of now) (inr (ap (λ q. q ++ now.passed) a ∙ p)))))
far-ends limits size count old now new far (step.turns there a p is) = cc
far-ends limits size count old now new far (step.clears k v there a used g p) = cc
far-ends limits size count old now new far (step.chooses k v there a idle g p) = cc

-- a step that was the last changes nothing
pub step-last : (now new : Ring) → Steps now false new → new ≡ now
step-last now new (step.ends over a p is) = is
step-last now new (step.turns there a p is) = cc
step-last now new (step.clears k v there a used g p) = cc
step-last now new (step.chooses k v there a idle g p) = cc

pub unfound : (o f : Option Seen) → o ≡ f → ((v : Seen) → o ≡ Some v → ⊥) → None ≡ f
unfound None f e h = e
unfound (Some v) f e h = absurd (h v refl)

-- no entry, or a copy of the last one
pub ring-popped : (a g p h : Queue) (e : E) → IsRing a g p → g ≡ h ++ e ∷ [] → IsRing a h p
ring-popped a g p h e r is =
    let many = ap (λ (q : Queue). length q) is in
    let longer = length-append h (e ∷ []) in
    let few = r.few in
    let same : h ++ e ∷ p ≡ g ++ p = sym (ap (λ g. g ++ p) is ∙ append_assoc h (e ∷ []) p) in
    let whole : IsOnce ((a ++ h) ++ e ∷ p) = subst IsOnce (sym (append_assoc a h (e ∷ p))) (subst (λ q. IsOnce (a ++ q)) (sym same) r.once) in
    record { once = subst IsOnce (append_assoc a h p) (once_past (a ++ h) p e whole); few = omega arith }

pub none_of : (o f : Option E) → o ≡ f → ((e : E) → o ≡ Some e → ⊥) → f ≡ None
none_of None f e h = sym e
none_of (Some v) f e h = absurd (h v refl)

-- ---- the oldest of those that were passed

pub last_whole : (a g p q : Queue) (e : E) → p ≡ q ++ e ∷ [] → a ++ (g ++ p) ≡ (a ++ (g ++ q)) ++ e ∷ []
last_whole a g p q e is = ap (λ p. a ++ (g ++ p)) is ∙ ap (λ r. a ++ r) (sym (append_assoc g q (e ∷ []))) ∙ sym (append_assoc a (g ++ q) (e ∷ []))

-- the others are not it, and occur once
pub apart_last : (a g p q : Queue) (e : E) → IsOnce (a ++ (g ++ p)) → p ≡ q ++ e ∷ [] → Apart e.0 (a ++ (g ++ q)) × IsOnce (a ++ (g ++ q))
apart_last a g p q e once is =
    let whole = subst IsOnce (last_whole a g p q e is) once in
    (subst (Apart e.0) (append-nil (a ++ (g ++ q))) (apart_mid (a ++ (g ++ q)) [] e whole), subst IsOnce (append-nil (a ++ (g ++ q))) (once_past (a ++ (g ++ q)) [] e whole))

map-last : (a g p q : Queue) (e : E) → IsOnce (a ++ (g ++ p)) → p ≡ q ++ e ∷ [] → map_of (plain (a ++ (g ++ p))) ≡ map_of (plain (e ∷ (a ++ (g ++ q))))
map-last a g p q e once is =
    let apart = apart_last a g p q e once is in
    ap (λ r. map_of (plain r)) (last_whole a g p q e is) ∙ map-mid e.0 e.1 (a ++ (g ++ q)) [] apart.0 ∙ ap (λ r. map_of (plain (e ∷ r))) (append-nil (a ++ (g ++ q)))

-- it becomes the newest there
pub again : (a g p q : Queue) (e : E) (v : Seen) → IsOnce (a ++ (g ++ p)) → p ≡ q ++ e ∷ [] → v.weight ≡ e.1.weight
    → IsOnce (a ++ (g ++ (e.0, v) ∷ q)) × (map_of (plain (a ++ (g ++ (e.0, v) ∷ q))) ≡ map_of (plain (a ++ (g ++ p))))
again a g p q e v once is w =
    let (apart, left) = apart_last a g p q e once is in
    let join = append_assoc a g q in
    let there = append_assoc a g ((e.0, v) ∷ q) in
    let apart2 = subst (Apart e.0) (sym join) apart in (
      subst IsOnce there (once_in (a ++ g) q (e.0, v) apart2 (subst IsOnce (sym join) left)),
      ap (λ r. map_of (plain r)) (sym there)
          ∙ map-mid e.0 v (a ++ g) q (apart_front e.0 (a ++ g) q apart2)
          ∙ ap (λ n. map_of ((e.0, n) ∷ plain ((a ++ g) ++ q))) w
          ∙ ap (λ r. map_of (plain (e ∷ r))) join
          ∙ sym (map-last a g p q e once is),
    )

-- it is chosen
pub chosen_last : (a g p q : Queue) (e : E) → IsOnce (a ++ (g ++ p)) → p ≡ q ++ e ∷ [] → IsOnce (a ++ ((e ∷ g) ++ q)) × (map_of (plain (a ++ ((e ∷ g) ++ q))) ≡ map_of (plain (a ++ (g ++ p))))
chosen_last a g p q e once is =
    let (apart, left) = apart_last a g p q e once is in
    (once_in a (g ++ q) e apart left, map-mid e.0 e.1 a (g ++ q) (apart_front e.0 a (g ++ q) apart) ∙ sym (map-last a g p q e once is))

pub ring-again : (a g p q : Queue) (e : E) (v : Seen) → IsRing a g p → p ≡ q ++ e ∷ [] → v.weight ≡ e.1.weight → IsRing a g ((e.0, v) ∷ q)
ring-again a g p q e v r is w =
    let many = ap (λ (q : Queue). length q) is in
    let longer = length-append q (e ∷ []) in
    let few = r.few in
    record { once = (again a g p q e v r.once is w).0; few = omega arith }

pub ring-chosen : (a g p q : Queue) (e : E) → IsRing a g p → p ≡ q ++ e ∷ [] → IsRing a (e ∷ g) q
ring-chosen a g p q e r is =
    let many = ap (λ (q : Queue). length q) is in
    let longer = length-append q (e ∷ []) in
    let few = r.few in
    record { once = (chosen_last a g p q e r.once is).0; few = omega arith }

pub absent_last_chosen : (a g p : Queue) (e : E) → IsRing a g p → last_entry p ≡ Some e → seen_of e.0 g ≡ None
absent_last_chosen a g p e r last =
    let apart = apart_last a g p _ e r.once (last_split p e last) in
    none_apart e.0 g (apart_front e.0 g _ (apart_back e.0 a _ apart.0))

-- the last of a list is found, and the others are the rest
pub found_last : (q : Queue) (e : E) → Apart e.0 q → seen_of e.0 (q ++ e ∷ []) ≡ Some e.1
found_last [] e a = ap (λ b. cond b (Some e.1) None) (laws.refl e.0)
found_last (f ∷ q) e a = ap (λ b. cond b (Some f.1) (seen_of e.0 (q ++ e ∷ []))) a.0 ∙ found_last q e a.1

pub rest_last : (q : Queue) (e : E) → Apart e.0 q → rest_of e.0 (q ++ e ∷ []) ≡ q
rest_last [] e a = ap (λ b. cond (not b) (e ∷ []) []) (laws.refl e.0)
rest_last (f ∷ q) e a = ap (λ b. cond (not b) (f ∷ rest_of e.0 (q ++ e ∷ [])) (rest_of e.0 (q ++ e ∷ []))) a.0 ∙ ap (λ q. f ∷ q) (rest_last q e a.1)

-- the oldest that was passed becomes the newest there: the entries before and after
pub record Again (p : Queue) (e : E) : Type 0 where
  pub rest : Queue
  pub split : p ≡ rest ++ e ∷ []
  pub others : rest_of e.0 p ≡ rest
  pub there : seen_of e.0 p ≡ Some e.1

pub again-of : (a g p : Queue) (e : E) → IsRing a g p → last_entry p ≡ Some e → Again p e
again-of a g p e r last =
    let split = last_split p e last in
    let apart = apart_last a g p _ e r.once split in
    let own = apart_back e.0 g _ (apart_back e.0 a _ apart.0) in
    record { rest = _; split = split; others = ap (rest_of e.0) split ∙ rest_last _ e own; there = ap (seen_of e.0) split ∙ found_last _ e own }

pub ring-entered-passed : (a g p : Queue) (k : CacheEntryKey) (v : Seen) → IsRing a g p → seen_of k (a ++ (g ++ p)) ≡ None → length (a ++ (g ++ p)) < 2 ^ 63 - 1 → IsRing a g ((k, v) ∷ p)
ring-entered-passed a g p k v r none few =
    let long = length-append a (g ++ p) in
    let rest = length-append g p in
    let join = append_assoc a g p in
    record {
      once = subst IsOnce (append_assoc a g ((k, v) ∷ p)) (once_in (a ++ g) p (k, v) (subst (Apart k) (sym join) (apart_none k (a ++ (g ++ p)) none)) (subst IsOnce (sym join) r.once));
      few = omega arith;
    }

pub absent_passed_in : (a g p : Queue) (k : CacheEntryKey) → seen_of k (a ++ (g ++ p)) ≡ None → seen_of k p ≡ None
absent_passed_in a g p k h = none_apart k p (apart_back k g p (apart_back k a (g ++ p) (apart_none k (a ++ (g ++ p)) h)))
