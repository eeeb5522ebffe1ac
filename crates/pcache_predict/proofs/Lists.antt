-- The shards of a table that forget, as the lists of a predictor.
use Rattle.std.proofs.Common.{◌≡◌, ℕ, zero, suc, ◌+◌, ◌%◌, ◌<◌, List, [], ◌∷◌, refl, ap, sym, subst, ◌∙◌, arith, length}
use Rattle.std.specs.Prelude.{nat_eq, map, max, replicate, slice_index_or, slice_set, Result, Ok, Err, OnOk, OnErr}
use Rattle.std.specs.List.{range_with_len, IsDistinct}
use Rattle.std.specs.Map.{lookup}
use Rattle.std.proofs.lemmas.List.{get_or-map, length-map, length-set, map-set}
use Rattle.std.proofs.lemmas.List.FromFn.{get_or-map-range_with_len, length-map-range_with_len}
use Rattle.std.proofs.lemmas.Option.{get_or_from_slice_get, slice_get-get_or, slice_get_within}
use Rattle.lru.specs.LruCache.{lru_cache}
use Rattle.pcache_base.specs.declared.reason.NoCacheReason.{NoCacheReason}
use Rattle.pcache_table.specs.Sharding.{LruPart, new_lists, list_at, part_with, part_without}
use Rattle.pcache_table.proofs.ShardLists.{each-set}
use Rattle.pcache_predict.specs.Lists.{AreKept, IsKept, list_seen, seen}
use Rattle.pcache_predict.specs.Remembered.{Shard, empty_shard, found, marked, unmarked, place, shard_of, reason_of, after_mark, after_unmark}
use Rattle.pcache_predict.proofs.Marks.{put-marked, remove-others, valid-marked, valid-unmarked}

abbrev Part : Type 0
Part = LruPart NoCacheReason

-- shards that were just made
seen-range : (a n c : ℕ) → seen (map (λ place. record { place = place; cap = c; entries = [] }) (range_with_len a n)) ≡ replicate n (record { capacity = c; keys = [] })
seen-range a zero c = refl
seen-range a (suc n) c = ap (λ ss. record { capacity = c; keys = [] } ∷ ss) (seen-range (a + 1) n c)

pub seen-new : (n c : ℕ) → seen (new_lists n (max c 1)) ≡ replicate n (empty_shard c)
seen-new n c = seen-range 0 n (max c 1)

distinct-none : IsDistinct nat_eq []
unfolding IsDistinct
distinct-none = tt

above : (c : ℕ) → 0 < max c 1
above zero = omega arith
above (suc c) = omega arith

kept-new : (n c : ℕ) → 0 < c → AreKept (new_lists n c)
kept-new n c some place p at =
    let made : ℕ → Part = λ place. record { place = place; cap = c; entries = [] } in
    let within : place < n = subst (λ m. place < m) (length-map-range_with_len made 0 n) (slice_get_within (new_lists n c) place p at) in
    let is : p ≡ made place = sym (get_or_from_slice_get (new_lists n c) place p p at) ∙ get_or-map-range_with_len made 0 n place place p within (omega arith) in
    subst IsKept (sym is) (distinct-none, omega arith, some)

pub new-kept : (n c : ℕ) (ps : List Part) → 0 < n → ps ≡ new_lists n (max c 1) → (0 < n) × (length ps ≡ n) × AreKept ps
new-kept n c ps some is =
    let made : ℕ → Part = λ place. record { place = place; cap = max c 1; entries = [] } in
    subst (λ l. (0 < n) × (length l ≡ n) × AreKept l) (sym is) (some, length-map-range_with_len made 0 n, kept-new n (max c 1) (above c))

module _ (n k : ℕ) (ps : List Part) (some : 0 < n) (long : length ps ≡ n) (kept : AreKept ps) where
  within : k % n < length ps
  within = let below : k % n < n = omega (arith, some) in subst (λ m. k % n < m) (sym long) below

  count : length (seen ps) ≡ n
  count = length-map ps list_seen ∙ long

  -- the list of a key
  pub shard-seen : shard_of (seen ps) k ≡ list_seen (list_at ps (k % n))
  shard-seen =
      ap (λ m. slice_index_or (seen ps) (k % m) (empty_shard 0)) count
      ∙ get_or-map list_seen ps (k % n) (record { place = k % n; cap = 1; entries = [] }) (empty_shard 0) within

  pub reason-seen : lookup (nat_eq k) (list_at ps (k % n)).entries ≡ reason_of (seen ps) k
  reason-seen = ap (found k) (sym shard-seen)

  own : IsKept (list_at ps (k % n))
  own = kept (k % n) (list_at ps (k % n)) (slice_get-get_or ps (k % n) (record { place = k % n; cap = 1; entries = [] }) within)

  -- a change of that list
  changed : (p : Part) (f : Shard → Shard) → list_seen p ≡ f (list_seen (list_at ps (k % n))) → seen (slice_set ps (k % n) p) ≡ slice_set (seen ps) (place (seen ps) k) (f (shard_of (seen ps) k))
  changed p f is =
      map-set list_seen ps (k % n) p
      ∙ ap (slice_set (seen ps) (k % n)) (is ∙ ap f (sym shard-seen))
      ∙ ap (λ m. slice_set (seen ps) (k % m) (f (shard_of (seen ps) k))) (sym count)

  still : (p : Part) → IsKept p → (0 < n) × (length (slice_set ps (k % n) p) ≡ n) × AreKept (slice_set ps (k % n) p)
  still p valid = (some, length-set ps (k % n) p ∙ long, each-set (λ _ q. IsKept q) (k % n) ps p within kept valid)

  pub marked-seen : (w : NoCacheReason) → seen (slice_set ps (k % n) (part_with k w (list_at ps (k % n)))) ≡ after_mark (seen ps) k w
  marked-seen w =
      let p = list_at ps (k % n) in
      changed (part_with k w p) (marked k w) (ap (λ es. record { capacity = p.cap; keys = es }) (put-marked (lru_cache p.entries p.cap) k w own))

  pub unmarked-seen : seen (slice_set ps (k % n) (part_without k (list_at ps (k % n)))) ≡ after_unmark (seen ps) k
  unmarked-seen =
      let p = list_at ps (k % n) in
      changed (part_without k p) (unmarked k) (ap (λ es. record { capacity = p.cap; keys = es }) (remove-others k p.entries own.0))

  -- the lists stay as they are kept, whether a key was put in or not, and once one was removed
  pub marked-kept : {A B : Type 0} (w : NoCacheReason) (qs : List Part) (r : Result A B) → OnOk r (qs ≡ slice_set ps (k % n) (part_with k w (list_at ps (k % n)))) → OnErr r (qs ≡ ps) → (0 < n) × (length qs ≡ n) × AreKept qs
  marked-kept w qs (Ok a) ok err = let p = list_at ps (k % n) in subst (λ l. (0 < n) × (length l ≡ n) × AreKept l) (sym ok) (still (part_with k w p) (valid-marked (lru_cache p.entries p.cap) k w own))
  marked-kept w qs (Err b) ok err = subst (λ l. (0 < n) × (length l ≡ n) × AreKept l) (sym err) (some, long, kept)

  pub unmarked-kept : (qs : List Part) → qs ≡ slice_set ps (k % n) (part_without k (list_at ps (k % n))) → (0 < n) × (length qs ≡ n) × AreKept qs
  unmarked-kept qs is = let p = list_at ps (k % n) in subst (λ l. (0 < n) × (length l ≡ n) × AreKept l) (sym is) (still (part_without k p) (valid-unmarked (lru_cache p.entries p.cap) k own))
