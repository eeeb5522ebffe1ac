-- Recency lists in shards seen as one finite map.
use Rattle.std.specs.List.{IsDistinct}
use Rattle.std.proofs.lemmas.List.Elements.{All-weaker}
use Rattle.pcache_evict.specs.Recency.{weight}
use Rattle.pcache_evict.specs.Shards.{Sharded, Runs}
use Rattle.pcache_evict.proofs.Words.{◌≡◌, ℕ, ◌+◌, ◌-◌, ◌^◌, min, true, false, cond, not, Option, None, Some, is_some, IsTrue, List, [], ◌∷◌, ◌++◌, refl, ap, sym, subst, ◌∙◌, arith, append_assoc, unwrap_or, IsSome, slice_set, AllByRecursion, keys_of, eq_by_cmp, eq_by_cmp_equiv, both_ways, All-cons, All-nil, recursion_from_All, sum_by-cons, sum_by-append, IsDistinct-head, IsDistinct-tail, IsDistinct-cons, CacheEntryKey, entry_eq, entry_cmp, entries_total, entry_ties, Tracked, Limits, IsWithin, IsFair, without, added, raised, weight_in, evicted_with, Recency, weight_of, others, moved, accessed, map_of, IsOnce, ArePlaced, RunsOut, all, list_at, shard_of, in_shard, reweighed, grown}
use Rattle.std.specs.FinMap as fin
use Rattle.pcache_evict.specs.Tracked as tracked
use Rattle.pcache_evict.proofs.EntryOrder.{exact_entries}
use Rattle.pcache_evict.proofs.Recency.{laws, same_key, distinct-others}
use Rattle.pcache_evict.proofs.Evictions.{left_there, gone_here}
use Rattle.pcache_evict.proofs.Maps.{map-others, map-moved, map-accessed, get-map_of, within, inside}
use Rattle.pcache_evict.proofs.TrackedMaps.{get-remove_apart}
use Rattle.pcache_evict.proofs.Sharded.{E, Apart, at_home, found-all, others-all, once-all, placed-moved, placed-reweighed}
use Rattle.pcache_evict.proofs.Chains.{all-parts, set-there}

-- ---- on the map: one eviction first

fresh_all : (m : Tracked) (k : CacheEntryKey) (out : List CacheEntryKey) → AllByRecursion (λ e. IsTrue (fin.contains_key (fin.remove m k) e)) out → AllByRecursion (λ y. eq_by_cmp entry_cmp k y ≡ false) out
fresh_all m k [] a = tt
fresh_all m k (x ∷ out) a = (
  elim (eq_by_cmp entry_cmp k x) as (λ b. eq_by_cmp entry_cmp k x ≡ b → b ≡ false) [
    | true ↦ λ t. absurd (both_ways _ (gone_here m k x ((eq_by_cmp_equiv entries_total).symm x k ∙ t)) a.0)
    | false ↦ λ _. refl
  ] refl,
  fresh_all m k out a.1,
)

fair-none : (limits : Limits) (m : Tracked) → IsWithin limits m → IsFair limits m []
unfolding IsDistinct
fair-none limits m w = record { tracked = All-nil (λ e. IsTrue (fin.contains_key m e)); once = tt; enough = w; needed = λ front last h. absurd (empty front last h) }
  where
    empty : (front : List CacheEntryKey) (last : CacheEntryKey) → [] ≡ front ++ last ∷ [] → ⊥
    empty [] last h = cc
    empty (x ∷ front) last h = cc

fair-first : (limits : Limits) (m : Tracked) (k : CacheEntryKey) (out : List CacheEntryKey) → fin.contains_key m k ≡ true → ¬ IsWithin limits m → IsFair limits (fin.remove m k) out → IsFair limits m (k ∷ out)
fair-first limits m k out there over f =
    record {
      tracked = All-cons (λ e. IsTrue (fin.contains_key m e)) k out there (All-weaker (λ e. IsTrue (fin.contains_key (fin.remove m k) e)) (λ e. IsTrue (fin.contains_key m e)) (λ e h. left_there m k e h) out f.tracked);
      once = IsDistinct-cons (eq_by_cmp entry_cmp) k out (fresh_all m k out (recursion_from_All (λ e. IsTrue (fin.contains_key (fin.remove m k) e)) out f.tracked)) f.once;
      enough = f.enough;
      needed = λ front last h. need front last h;
    }
  where
    need : (front : List CacheEntryKey) (last : CacheEntryKey) → k ∷ out ≡ front ++ last ∷ [] → ¬ IsWithin limits (without front m)
    need [] last h = over
    need (x ∷ front) last h =
        let head : k ≡ x = cc in
        let tail : out ≡ front ++ last ∷ [] = cc in
        subst (λ x. ¬ IsWithin limits (without front (fin.remove m x))) head (f.needed front last tail)

-- ---- on the shards: one pop

apart_whole : (k : CacheEntryKey) (l : Recency) → AllByRecursion (λ y. entry_eq k y ≡ false) (keys_of l) → others k l ≡ l
apart_whole k [] a = refl
apart_whole k (e ∷ l) a = ap (λ b. cond (not b) (e ∷ others k l) (others k l)) a.0 ∙ ap (λ l. e ∷ l) (apart_whole k l a.1)

apart_mid : (k : CacheEntryKey) (p b : Recency) (e : E) → AllByRecursion (λ y. entry_eq k y ≡ false) (keys_of (p ++ e ∷ b)) → entry_eq k e.0 ≡ false
apart_mid k [] b e a = a.0
apart_mid k (x ∷ p) b e a = apart_mid k p b e a.1

others-mid : (p b : Recency) (e : E) → IsOnce (p ++ e ∷ b) → others e.0 (p ++ e ∷ b) ≡ p ++ b
others-mid [] b e d = ap (λ t. cond (not t) (e ∷ others e.0 b) (others e.0 b)) (laws.refl e.0) ∙ apart_whole e.0 b (IsDistinct-head entry_eq e.0 (keys_of b) d)
others-mid (x ∷ p) b e d =
    ap (λ t. cond (not t) (x ∷ others e.0 (p ++ e ∷ b)) (others e.0 (p ++ e ∷ b))) (laws.symm e.0 x.0 ∙ apart_mid x.0 p b e (IsDistinct-head entry_eq x.0 (keys_of (p ++ e ∷ b)) d))
    ∙ ap (λ l. x ∷ l) (others-mid p b e (IsDistinct-tail entry_eq x.0 (keys_of (p ++ e ∷ b)) d))

found_mid : (p b : Recency) (e : E) → IsOnce (p ++ e ∷ b) → weight_of e.0 (p ++ e ∷ b) ≡ Some e.1
found_mid [] b e d = ap (λ t. cond t (Some e.1) (weight_of e.0 b)) (laws.refl e.0)
found_mid (x ∷ p) b e d =
    ap (λ t. cond t (Some x.1) (weight_of e.0 (p ++ e ∷ b))) (laws.symm e.0 x.0 ∙ apart_mid x.0 p b e (IsDistinct-head entry_eq x.0 (keys_of (p ++ e ∷ b)) d))
    ∙ found_mid p b e (IsDistinct-tail entry_eq x.0 (keys_of (p ++ e ∷ b)) d)

-- the position of the entry among all, and what is left
record Popped (shards next : List Recency) (e : E) : Type 0 where
  before : Recency
  behind : Recency
  here : all shards ≡ before ++ e ∷ behind
  left : all next ≡ before ++ behind

popped : (shards before : List Recency) (list : Recency) (e : E) (behind : List Recency) → shards ≡ before ++ (list ++ e ∷ []) ∷ behind → Popped shards (before ++ list ∷ behind) e
popped shards before list e behind is = record {
  before = all before ++ list;
  behind = all behind;
  here = ap all is ∙ all-parts before (list ++ e ∷ []) behind ∙ ap (λ t. all before ++ t) (append_assoc list (e ∷ []) (all behind)) ∙ sym (append_assoc (all before) list (e ∷ all behind));
  left = all-parts before list behind ∙ sym (append_assoc (all before) list (all behind));
}

-- what goes later is there without what went first
weight-later : (m : Tracked) (k : CacheEntryKey) (out : List CacheEntryKey) → AllByRecursion (λ e. IsTrue (fin.contains_key (fin.remove m k) e)) out → weight_in m out ≡ weight_in (fin.remove m k) out
weight-later m k [] a = refl
weight-later m k (x ∷ out) a =
    let off : eq_by_cmp entry_cmp x k ≡ false = (eq_by_cmp_equiv entries_total).symm x k ∙ (fresh_all m k (x ∷ out) a).0 in
    let one : unwrap_or (fin.get (fin.remove m k) x) 0 ≡ unwrap_or (fin.get m x) 0 = ap (λ o. unwrap_or o 0) (get-remove_apart m x k off) in
    let whole = sum_by-cons (λ (e : CacheEntryKey). unwrap_or (fin.get m e) 0) x out in
    let later = sum_by-cons (λ (e : CacheEntryKey). unwrap_or (fin.get (fin.remove m k) e) 0) x out in
    let rest = weight-later m k out a.1 in
    omega arith

pub record Run (limits : Limits) (out : List CacheEntryKey) (shards after : List Recency) : Type 0 where
  pub fair : IsFair limits (map_of (all shards)) out
  pub left : map_of (all after) ≡ without out (map_of (all shards))
  pub gone : weight_in (map_of (all shards)) out + weight (all after) ≡ weight (all shards)

pub fair-run : (limits : Limits) (out : List CacheEntryKey) (shards after : List Recency) → IsOnce (all shards) → RunsOut limits shards out after → Run limits out shards after
fair-run limits [] shards after once r = record { fair = fair-none limits (map_of (all shards)) (within limits (all shards) once r.1); left = ap (λ s. map_of (all s)) r.0; gone = let same = ap (λ s. weight (all s)) r.0 in let e : 0 + weight (all after) ≡ weight (all shards) = omega arith in e }
fair-run limits (k ∷ out) shards after once (over, before, list, n, behind, is, rest) =
    let next = before ++ list ∷ behind in
    let s = popped shards before list (k, n) behind is in
    let apart = subst IsOnce s.here once in
    let left : all next ≡ others k (all shards) = s.left ∙ sym (ap (others k) s.here ∙ others-mid s.before s.behind (k, n) apart) in
    let later = fair-run limits out next after (subst IsOnce (sym left) (distinct-others k (all shards) once)) rest in
    let removed : map_of (all next) ≡ fin.remove (map_of (all shards)) k = ap map_of left ∙ map-others k (all shards) in
    let found : fin.get (map_of (all shards)) k ≡ Some n = get-map_of (all shards) k ∙ ap (weight_of k) s.here ∙ found_mid s.before s.behind (k, n) apart in
    let fair = subst (λ t. IsFair limits t out) removed later.fair in
    let one = sum_by-cons (λ (e : CacheEntryKey). unwrap_or (fin.get (map_of (all shards)) e) 0) k out in
    let here : unwrap_or (fin.get (map_of (all shards)) k) 0 ≡ n = ap (λ o. unwrap_or o 0) found in
    let there : weight_in (map_of (all shards)) out ≡ weight_in (map_of (all next)) out = weight-later (map_of (all shards)) k out (recursion_from_All (λ e. IsTrue (fin.contains_key (fin.remove (map_of (all shards)) k) e)) out fair.tracked) ∙ ap (λ m. weight_in m out) (sym removed) in
    let old : weight (all shards) ≡ weight s.before + weight ((k, n) ∷ s.behind) = ap weight s.here ∙ sum_by-append (λ (e : E). e.1) s.before ((k, n) ∷ s.behind) in
    let head = sum_by-cons (λ (e : E). e.1) (k, n) s.behind in
    let new : weight (all next) ≡ weight s.before + weight s.behind = ap weight s.left ∙ sum_by-append (λ (e : E). e.1) s.before s.behind in
    let gone = later.gone in
    record {
      fair = fair-first limits (map_of (all shards)) k out (ap is_some found) (λ w. over (inside limits (all shards) once w)) fair;
      left = later.left ∙ ap (without out) removed;
      gone = omega arith;
    }

pub run-of : (n : ℕ) (old new : Sharded) (lists : List Recency) (out : List CacheEntryKey) → Runs n old lists new out → Run old.limits out lists new.shards
run-of n old new lists out r = fair-run old.limits out lists new.shards (once-all n lists r.placed) r.runs

pub run-evicted : (n : ℕ) (old new : Sharded) (lists : List Recency) (out : List CacheEntryKey) → Runs n old lists new out → new.evicted ≡ evicted_with old.evicted (map_of (all lists)) out
run-evicted n old new lists out r =
    let gone = (run-of n old new lists out r).gone in
    let less : weight (all lists) - weight (all new.shards) ≡ weight_in (map_of (all lists)) out = omega arith in
    let size : new.evicted.weight ≡ min (old.evicted.weight + weight_in (map_of (all lists)) out) (2 ^ 64 - 1) = r.weight ∙ ap (λ w. min (old.evicted.weight + w) (2 ^ 64 - 1)) less in
    λ i. record { weight = size i; count = r.count i }

-- ---- one list's changes, on the map

lookup-mid : (k : CacheEntryKey) (n : ℕ) (a b : Recency) (q : CacheEntryKey) → Apart k a → weight_of q (a ++ (k, n) ∷ b) ≡ weight_of q ((k, n) ∷ (a ++ b))
lookup-mid k n [] b q h = refl
lookup-mid k n (e ∷ a) b q h =
    ap (cond (entry_eq q e.0) (Some e.1)) (lookup-mid k n a b q h.1)
    ∙ (elim (entry_eq q k) as (λ t. entry_eq q k ≡ t → cond (entry_eq q e.0) (Some e.1) (cond t (Some n) (weight_of q (a ++ b))) ≡ cond t (Some n) (cond (entry_eq q e.0) (Some e.1) (weight_of q (a ++ b)))) [
      | true ↦ λ t. ap (λ b. cond b (Some e.1) (Some n)) (ap (λ x. entry_eq x e.0) (same_key q k t) ∙ h.0)
      | false ↦ λ t. refl
    ] refl)

pub map-others-in : (n : ℕ) (k : CacheEntryKey) (shards : List Recency) → ArePlaced n shards → map_of (all (in_shard n k (others k) shards)) ≡ fin.remove (map_of (all shards)) k
map-others-in n k shards p =
    let s = at_home n shards k p in
    ap map_of (s.put (others k (list_at shards (shard_of n k))) ∙ sym (others-all n shards k p)) ∙ map-others k (all shards)

map-moved-too : (n : ℕ) (k : CacheEntryKey) (w : ℕ) (shards : List Recency) → ArePlaced n shards → map_of (all (in_shard n k (moved k w) shards)) ≡ map_of (moved k w (all shards))
map-moved-too n k w shards p =
    let s = at_home n shards k p in
    let l = list_at shards (shard_of n k) in
    fin.same_map entries_total exact_entries _ _ (λ q.
    get-map_of (all (in_shard n k (moved k w) shards)) q
    ∙ ap (weight_of q) (s.put (moved k w l))
    ∙ lookup-mid k w s.front (others k l ++ s.back) q s.before
    ∙ ap (λ t. weight_of q ((k, w) ∷ t)) (sym (others-all n shards k p))
    ∙ sym (get-map_of (moved k w (all shards)) q))

pub map-moved-in : (n : ℕ) (k : CacheEntryKey) (w : ℕ) (shards : List Recency) → ArePlaced n shards → map_of (all (in_shard n k (moved k w) shards)) ≡ fin.insert (map_of (all shards)) k w
map-moved-in n k w shards p = map-moved-too n k w shards p ∙ map-moved k w (all shards)

pub map-accessed-in : (n : ℕ) (k : CacheEntryKey) (w : ℕ) (shards : List Recency) → ArePlaced n shards → map_of (all (in_shard n k (accessed k w) shards)) ≡ added (map_of (all shards)) k w
map-accessed-in n k w shards p =
    map-moved-too n k (unwrap_or (weight_of k (list_at shards (shard_of n k))) w) shards p
    ∙ ap (λ o. map_of (moved k (unwrap_or o w) (all shards))) (sym (found-all n shards k p))
    ∙ map-accessed k w (all shards)

set-past : (k : CacheEntryKey) (n : ℕ) (a b : Recency) → Apart k a → reweighed k n (a ++ b) ≡ a ++ reweighed k n b
set-past k n [] b h = refl
set-past k n (e ∷ a) b h = ap (λ t. cond t ((e.0, n) ∷ (a ++ b)) (e ∷ reweighed k n (a ++ b))) h.0 ∙ ap (λ l. e ∷ l) (set-past k n a b h.1)

lookup-reweighed : (k : CacheEntryKey) (n : ℕ) (q : CacheEntryKey) (l : Recency) → IsSome (weight_of k l) → weight_of q (reweighed k n l) ≡ cond (entry_eq q k) (Some n) (weight_of q l)
lookup-reweighed k n q [] h = cc
lookup-reweighed k n q (e ∷ l) h =
    elim (entry_eq k e.0) as (λ t. entry_eq k e.0 ≡ t → IsSome (cond t (Some e.1) (weight_of k l)) → weight_of q (cond t ((e.0, n) ∷ l) (e ∷ reweighed k n l)) ≡ cond (entry_eq q k) (Some n) (weight_of q (e ∷ l))) [
      | true ↦ λ t _.
          ap (λ x. cond (entry_eq q x) (Some n) (weight_of q l)) (sym (same_key k e.0 t))
          ∙ (elim (entry_eq q k) as (λ b. entry_eq q k ≡ b → cond b (Some n) (weight_of q l) ≡ cond b (Some n) (cond (entry_eq q e.0) (Some e.1) (weight_of q l))) [
            | true ↦ λ _. refl
            | false ↦ λ b. sym (ap (λ c. cond c (Some e.1) (weight_of q l)) (ap (entry_eq q) (sym (same_key k e.0 t)) ∙ b))
          ] refl)
      | false ↦ λ t there.
          ap (cond (entry_eq q e.0) (Some e.1)) (lookup-reweighed k n q l there)
          ∙ (elim (entry_eq q k) as (λ b. entry_eq q k ≡ b → cond (entry_eq q e.0) (Some e.1) (cond b (Some n) (weight_of q l)) ≡ cond b (Some n) (cond (entry_eq q e.0) (Some e.1) (weight_of q l))) [
            | true ↦ λ b. ap (λ c. cond c (Some e.1) (Some n)) (ap (λ x. entry_eq x e.0) (same_key q k b) ∙ t)
            | false ↦ λ _. refl
          ] refl)
    ] refl h

pub map-reweighed-in : (n : ℕ) (k : CacheEntryKey) (w : ℕ) (shards : List Recency) → ArePlaced n shards → IsSome (weight_of k (list_at shards (shard_of n k))) → map_of (all (in_shard n k (reweighed k w) shards)) ≡ fin.insert (map_of (all shards)) k w
map-reweighed-in n k w shards p there =
    let s = at_home n shards k p in
    let l = list_at shards (shard_of n k) in
    let whole : all (in_shard n k (reweighed k w) shards) ≡ reweighed k w (all shards) = s.put (reweighed k w l) ∙ ap (λ t. s.front ++ t) (sym (set-there k w l s.back there)) ∙ sym (ap (reweighed k w) s.here ∙ set-past k w s.front (l ++ s.back) s.before) in
    let found : IsSome (weight_of k (all shards)) = ap is_some (found-all n shards k p) ∙ there in
    fin.same_map entries_total exact_entries _ _ (λ q.
    get-map_of (all (in_shard n k (reweighed k w) shards)) q
    ∙ ap (weight_of q) whole
    ∙ lookup-reweighed k w q (all shards) found
    ∙ ap (λ b. cond b (Some w) (weight_of q (all shards))) (entry_ties q k)
    ∙ sym (fin.get-insert entries_total (map_of (all shards)) k w q ∙ ap (cond (eq_by_cmp entry_cmp q k) (Some w)) (get-map_of (all shards) q)))

pub found-map : (n : ℕ) (k : CacheEntryKey) (shards : List Recency) → ArePlaced n shards → fin.get (map_of (all shards)) k ≡ weight_of k (list_at shards (shard_of n k))
found-map n k shards p = get-map_of (all shards) k ∙ found-all n shards k p

pub map-grown-in : (n : ℕ) (k : CacheEntryKey) (delta : ℕ) (most : Option ℕ) (shards : List Recency) → ArePlaced n shards → map_of (all (in_shard n k (grown k delta most) shards)) ≡ tracked.incremented (map_of (all shards)) k delta most
map-grown-in n k delta most shards p =
    let l = list_at shards (shard_of n k) in
    (elim (weight_of k l) as (λ o. weight_of k l ≡ o → map_of (all (slice_set shards (shard_of n k) (cond (is_some o) (reweighed k (raised delta most o) l) (moved k (raised delta most None) l)))) ≡ fin.insert (map_of (all shards)) k (raised delta most o)) [
      | Some w ↦ λ is. map-reweighed-in n k (raised delta most (Some w)) shards p (ap is_some is)
      | None ↦ λ is. map-moved-in n k (raised delta most None) shards p
    ] refl)
    ∙ ap (λ o. fin.insert (map_of (all shards)) k (raised delta most o)) (sym (found-map n k shards p))

pub once-grown : (n : ℕ) (k : CacheEntryKey) (delta : ℕ) (most : Option ℕ) (shards : List Recency) → ArePlaced n shards → IsOnce (all (in_shard n k (grown k delta most) shards))
once-grown n k delta most shards p =
    let l = list_at shards (shard_of n k) in
    elim (weight_of k l) as (λ o. IsOnce (all (slice_set shards (shard_of n k) (cond (is_some o) (reweighed k (raised delta most o) l) (moved k (raised delta most None) l))))) [
      | Some w ↦ once-all n (in_shard n k (reweighed k (raised delta most (Some w))) shards) (placed-reweighed n k (raised delta most (Some w)) shards p)
      | None ↦ once-all n (in_shard n k (moved k (raised delta most None)) shards) (placed-moved n k (raised delta most None) shards p)
    ]
