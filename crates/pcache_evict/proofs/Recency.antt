-- Lists of entries: an entry removed, moved to the front.
use Rattle.std.proofs.Common.{option_map}
use Rattle.std.specs.Cmp.{IsEquivalence}
use Rattle.std.specs.List.{IsDistinct, slice_get}
use Rattle.std.specs.Option.{option_map_or}
use Rattle.std.specs.Map.{lookup, lookup_entry, remove_entry, set_value}
use Rattle.std.specs.Ordering.{is_eq}
use Rattle.std.proofs.lemmas.List.Elements.{All-take}
use Rattle.std.proofs.lemmas.List.Sums.{sum_by-le}
use Rattle.lru.specs.LruCache.{put_entries, promoted, last_entry}
use Rattle.pcache_evict.specs.Recency.{weight}
use Rattle.pcache_evict.proofs.Words.{◌≡◌, ℕ, zero, suc, ◌+◌, ◌-◌, ◌<◌, ◌≤◌, ◌^◌, true, false, cond, not, Option, None, Some, is_some, unwrap_or, [], ◌∷◌, ◌++◌, refl, ap, sym, subst, ◌∙◌, arith, length, length-append, take, All, IfSome, IsSome, eq_by_cmp_equiv, AllByRecursion, keys_of, Ordering, Less, Equal, Greater, take_all, All-filter, All-cons, All-head, All-tail, All-push, sum_by-cons, sum_by-append, IsDistinct-head, IsDistinct-tail, IsDistinct-cons, LruCache, demoted, lru_cache, CacheEntryKey, entry_eq, entries_total, entry_ties, Recency, weight_of, others, moved, IsKept}
use Rattle.pcache_evict.proofs.EntryOrder.{exact_entries, same_test}

level : (r : Ordering) → is_eq r ≡ true → r ≡ Equal
level Less h = cc
level Equal h = refl
level Greater h = cc

pub same_key : (a b : CacheEntryKey) → entry_eq a b ≡ true → a ≡ b
same_key a b h = exact_entries a b (level _ (sym (entry_ties a b) ∙ h))

pub laws : IsEquivalence entry_eq
laws = subst IsEquivalence (sym same_test) (eq_by_cmp_equiv entries_total)

pub all_apart : (k j : CacheEntryKey) (l : Recency) → entry_eq k j ≡ true → AllByRecursion (λ y. entry_eq j y ≡ false) (keys_of l) → others k l ≡ l
all_apart k j [] t a = refl
all_apart k j (e ∷ l) t a =
    ap (λ b. cond (not b) (e ∷ others k l) (others k l)) (laws.congr k j e.0 t ∙ a.0) ∙ ap (λ xs. e ∷ xs) (all_apart k j l t a.1)

pub remove-others : (k : CacheEntryKey) (l : Recency) → IsDistinct entry_eq (keys_of l) → remove_entry (entry_eq k) l ≡ others k l
remove-others k [] d = refl
remove-others k (e ∷ l) d =
    elim (entry_eq k e.0) as (λ b. entry_eq k e.0 ≡ b → cond b l (e ∷ remove_entry (entry_eq k) l) ≡ cond (not b) (e ∷ others k l) (others k l)) [
      | true ↦ λ t. sym (all_apart k e.0 l t (IsDistinct-head entry_eq e.0 (keys_of l) d))
      | false ↦ λ t. ap (λ xs. e ∷ xs) (remove-others k l (IsDistinct-tail entry_eq e.0 (keys_of l) d))
    ] refl

pub others-none : (k : CacheEntryKey) (l : Recency) → weight_of k l ≡ None → others k l ≡ l
others-none k [] h = refl
others-none k (e ∷ l) h =
    elim (entry_eq k e.0) as (λ b. cond b (Some e.1) (lookup (entry_eq k) l) ≡ None → cond (not b) (e ∷ others k l) (others k l) ≡ e ∷ l) [
      | true ↦ λ h. cc
      | false ↦ λ h. ap (λ xs. e ∷ xs) (others-none k l h)
    ] h

entry_found : (k : CacheEntryKey) (l : Recency) → lookup_entry (entry_eq k) l ≡ option_map (λ w. (k, w)) (weight_of k l)
entry_found k [] = refl
entry_found k (e ∷ l) =
    elim (entry_eq k e.0) as (λ b. entry_eq k e.0 ≡ b → cond b (Some e) (lookup_entry (entry_eq k) l) ≡ option_map (λ w. (k, w)) (cond b (Some e.1) (lookup (entry_eq k) l))) [
      | true ↦ λ t. ap (λ (x : CacheEntryKey). Some (x, e.1)) (sym (same_key k e.0 t))
      | false ↦ λ t. entry_found k l
    ] refl

-- `put` sets the weight and moves the entry to the front
pub put-moved : (c : LruCache CacheEntryKey ℕ) (k : CacheEntryKey) (n : ℕ) → IsDistinct entry_eq (keys_of c.entries) → length c.entries ≤ c.cap - 1 → put_entries entry_eq c k n ≡ moved k n c.entries
put-moved c k n d few =
    ap (λ o. option_map_or (λ (e : CacheEntryKey × ℕ). (e.0, n) ∷ remove_entry (entry_eq k) c.entries) o ((k, n) ∷ take (c.cap - 1) c.entries)) (entry_found k c.entries)
    ∙ (elim (weight_of k c.entries) as (λ o. weight_of k c.entries ≡ o → option_map_or (λ (e : CacheEntryKey × ℕ). (e.0, n) ∷ remove_entry (entry_eq k) c.entries) (option_map (λ w. (k, w)) o) ((k, n) ∷ take (c.cap - 1) c.entries) ≡ moved k n c.entries) [
      | None ↦ λ h. ap (λ xs. (k, n) ∷ xs) (take_all (c.cap - 1) c.entries few ∙ sym (others-none k c.entries h))
      | Some w ↦ λ h. ap (λ xs. (k, n) ∷ xs) (remove-others k c.entries d)
    ] refl)

-- a weight written in place is what `put` makes of a present entry
written_by : (k : CacheEntryKey) (n : ℕ) (rest es more : Recency) (o : Option ℕ) → IsSome o → set_value (entry_eq k) (option_map_or (λ (e : CacheEntryKey × ℕ). e ∷ rest) (option_map (λ w. (k, w)) o) es) n ≡ option_map_or (λ (e : CacheEntryKey × ℕ). (e.0, n) ∷ rest) (option_map (λ w. (k, w)) o) more
written_by k n rest es more None there = cc
written_by k n rest es more (Some w) there = ap (λ b. cond b ((k, n) ∷ rest) ((k, w) ∷ set_value (entry_eq k) rest n)) (laws.refl k)

pub written-put : (c : LruCache CacheEntryKey ℕ) (k : CacheEntryKey) (n : ℕ) → IsSome (weight_of k c.entries) → set_value (entry_eq k) (promoted (entry_eq k) c.entries) n ≡ put_entries entry_eq c k n
written-put c k n there =
    ap (λ o. set_value (entry_eq k) (option_map_or (λ (e : CacheEntryKey × ℕ). e ∷ remove_entry (entry_eq k) c.entries) o c.entries) n) (entry_found k c.entries)
    ∙ written_by k n (remove_entry (entry_eq k) c.entries) c.entries ((k, n) ∷ take (c.cap - 1) c.entries) (weight_of k c.entries) there
    ∙ sym (ap (λ o. option_map_or (λ (e : CacheEntryKey × ℕ). (e.0, n) ∷ remove_entry (entry_eq k) c.entries) o ((k, n) ∷ take (c.cap - 1) c.entries)) (entry_found k c.entries))

-- `promote` moves a present entry to the front with its weight
pub promoted-moved : (k : CacheEntryKey) (l : Recency) (w : ℕ) → IsDistinct entry_eq (keys_of l) → weight_of k l ≡ Some w → promoted (entry_eq k) l ≡ moved k w l
promoted-moved k l w d h =
    ap (λ o. option_map_or (λ (e : CacheEntryKey × ℕ). e ∷ remove_entry (entry_eq k) l) o l) (entry_found k l ∙ ap (option_map (λ (w : ℕ). (k, w))) h) ∙ ap (λ xs. (k, w) ∷ xs) (remove-others k l d)

pub weight-others : (k : CacheEntryKey) (l : Recency) → IsDistinct entry_eq (keys_of l) → weight (others k l) + unwrap_or (weight_of k l) 0 ≡ weight l
weight-others k [] d = refl
weight-others k (e ∷ l) d =
    let whole : weight (e ∷ l) ≡ e.1 + weight l = sum_by-cons (λ (e : CacheEntryKey × ℕ). e.1) e l in
    elim (entry_eq k e.0) as (λ b. entry_eq k e.0 ≡ b → weight (cond (not b) (e ∷ others k l) (others k l)) + unwrap_or (cond b (Some e.1) (lookup (entry_eq k) l)) 0 ≡ weight (e ∷ l)) [
      | true ↦ λ t. let same = ap weight (all_apart k e.0 l t (IsDistinct-head entry_eq e.0 (keys_of l) d)) in omega arith
      | false ↦ λ t. let rest = weight-others k l (IsDistinct-tail entry_eq e.0 (keys_of l) d) in let split : weight (e ∷ others k l) ≡ e.1 + weight (others k l) = sum_by-cons (λ (e : CacheEntryKey × ℕ). e.1) e (others k l) in omega arith
    ] refl

pub weight-moved : (k : CacheEntryKey) (n : ℕ) (l : Recency) → weight (moved k n l) ≡ n + weight (others k l)
weight-moved k n l = sum_by-cons (λ (e : CacheEntryKey × ℕ). e.1) (k, n) (others k l)

pub length-others : (k : CacheEntryKey) (l : Recency) → IsDistinct entry_eq (keys_of l) → length (others k l) + cond (is_some (weight_of k l)) 1 0 ≡ length l
length-others k [] d = refl
length-others k (e ∷ l) d =
    elim (entry_eq k e.0) as (λ b. entry_eq k e.0 ≡ b → length (cond (not b) (e ∷ others k l) (others k l)) + cond (is_some (cond b (Some e.1) (lookup (entry_eq k) l))) 1 0 ≡ length (e ∷ l)) [
      | true ↦ λ t. let same = ap (λ (xs : Recency). length xs) (all_apart k e.0 l t (IsDistinct-head entry_eq e.0 (keys_of l) d)) in omega arith
      | false ↦ λ t. let rest = length-others k l (IsDistinct-tail entry_eq e.0 (keys_of l) d) in omega arith
    ] refl

apart_left : (P : CacheEntryKey → Type 0) (k : CacheEntryKey) (l : Recency) → AllByRecursion P (keys_of l) → AllByRecursion P (keys_of (others k l))
apart_left P k [] a = tt
apart_left P k (e ∷ l) a =
    elim (entry_eq k e.0) as (λ b. AllByRecursion P (keys_of (cond (not b) (e ∷ others k l) (others k l)))) [
      | true ↦ apart_left P k l a.1
      | false ↦ (a.0, apart_left P k l a.1)
    ]

pub distinct-others : (k : CacheEntryKey) (l : Recency) → IsDistinct entry_eq (keys_of l) → IsDistinct entry_eq (keys_of (others k l))
distinct-others k [] d = d
distinct-others k (e ∷ l) d =
    elim (entry_eq k e.0) as (λ b. IsDistinct entry_eq (keys_of (cond (not b) (e ∷ others k l) (others k l)))) [
      | true ↦ distinct-others k l (IsDistinct-tail entry_eq e.0 (keys_of l) d)
      | false ↦ IsDistinct-cons entry_eq e.0 (keys_of (others k l)) (apart_left (λ y. entry_eq e.0 y ≡ false) k l (IsDistinct-head entry_eq e.0 (keys_of l) d)) (distinct-others k l (IsDistinct-tail entry_eq e.0 (keys_of l) d))
    ]

others_apart : (k : CacheEntryKey) (l : Recency) → AllByRecursion (λ y. entry_eq k y ≡ false) (keys_of (others k l))
others_apart k [] = tt
others_apart k (e ∷ l) =
    elim (entry_eq k e.0) as (λ b. entry_eq k e.0 ≡ b → AllByRecursion (λ y. entry_eq k y ≡ false) (keys_of (cond (not b) (e ∷ others k l) (others k l)))) [
      | true ↦ λ _. others_apart k l
      | false ↦ λ t. (t, others_apart k l)
    ] refl

pub distinct-moved : (k : CacheEntryKey) (n : ℕ) (l : Recency) → IsDistinct entry_eq (keys_of l) → IsDistinct entry_eq (keys_of (moved k n l))
distinct-moved k n l d = IsDistinct-cons entry_eq k (keys_of (others k l)) (others_apart k l) (distinct-others k l d)

-- no sum of weights is large
pub weight_bound : (l : Recency) → All (λ e. e.1 ≤ 2 ^ 64 - 1) l → length l < 2 ^ 63 → weight l + 2 ^ 64 < 2 ^ 128
weight_bound l a few = let bound = sum_by-le (λ (e : CacheEntryKey × ℕ). e.1) (2 ^ 64 - 1) l a in omega arith

pub kept-moved : (c : LruCache CacheEntryKey ℕ) (d : LruCache CacheEntryKey ℕ) (total : ℕ) (k : CacheEntryKey) (n : ℕ) → IsKept c total → d ≡ lru_cache (put_entries entry_eq c k n) c.cap → IsDistinct entry_eq (keys_of d.entries) → length d.entries < 2 ^ 63 → n ≤ 2 ^ 64 - 1
    → (d.entries ≡ moved k n c.entries) × IsKept d (weight (others k c.entries) + n)
kept-moved c d total k n kept e distinct few small =
    let room = kept.room in
    let short = kept.few in
    let is : d.entries ≡ moved k n c.entries = ap (λ (c : LruCache CacheEntryKey ℕ). c.entries) e ∙ put-moved c k n kept.distinct (omega arith) in
    let left = weight-others k c.entries kept.distinct in
    let whole : weight (moved k n c.entries) ≡ n + weight (others k c.entries) = sum_by-cons (λ (e : CacheEntryKey × ℕ). e.1) (k, n) (others k c.entries) in
    let total_is = kept.summed in
    let sum_is : weight d.entries ≡ weight (moved k n c.entries) = ap weight is in (
      is,
      record {
        summed = omega arith;
        room = ap (λ (c : LruCache CacheEntryKey ℕ). c.cap) e ∙ kept.room;
        few = few;
        small = subst (All (λ e. e.1 ≤ 2 ^ 64 - 1)) (sym is) (All-cons (λ (e : CacheEntryKey × ℕ). e.1 ≤ 2 ^ 64 - 1) (k, n) (others k c.entries) small (All-filter (λ (e : CacheEntryKey × ℕ). not (entry_eq k e.0)) (λ e. e.1 ≤ 2 ^ 64 - 1) c.entries kept.small));
        distinct = distinct;
      },
    )

last_at : (n : ℕ) (l : Recency) (e : CacheEntryKey × ℕ) → length l ≡ n + 1 → slice_get l n ≡ Some e → l ≡ take n l ++ e ∷ []
last_at n [] e c h = absurd (omega arith)
last_at zero (x ∷ []) e c h = let same : x ≡ e = cc in ap (λ (x : CacheEntryKey × ℕ). x ∷ []) same
last_at zero (x ∷ y ∷ l) e c h = absurd (omega arith)
last_at (suc n) (x ∷ l) e c h = ap (λ xs. x ∷ xs) (last_at n l e (omega arith) h)

last_split : (l : Recency) (e : CacheEntryKey × ℕ) → last_entry l ≡ Some e → l ≡ take (length l - 1) l ++ e ∷ []
last_split [] e h = cc
last_split (x ∷ l) e h = last_at (length (x ∷ l) - 1) (x ∷ l) e (omega arith) h

front_apart : (P : CacheEntryKey → Type 0) (front back : Recency) → AllByRecursion P (keys_of (front ++ back)) → AllByRecursion P (keys_of front)
front_apart P [] back a = tt
front_apart P (e ∷ front) back a = (a.0, front_apart P front back a.1)

pub distinct-front : (front back : Recency) → IsDistinct entry_eq (keys_of (front ++ back)) → IsDistinct entry_eq (keys_of front)
unfolding IsDistinct
distinct-front [] back d = tt
distinct-front (e ∷ front) back d = (front_apart (λ y. entry_eq e.0 y ≡ false) front back d.0, distinct-front front back d.1)

pub front_of : (c d : LruCache CacheEntryKey ℕ) (e : CacheEntryKey × ℕ) → Some e ≡ last_entry c.entries → d ≡ lru_cache (take (length c.entries - 1) c.entries) c.cap → c.entries ≡ d.entries ++ e ∷ []
front_of c d e h is = last_split c.entries e (sym h) ∙ ap (λ l. l ++ e ∷ []) (sym (ap (λ (c : LruCache CacheEntryKey ℕ). c.entries) is))

pub kept-popped : (c d : LruCache CacheEntryKey ℕ) (total : ℕ) (e : CacheEntryKey × ℕ) → IsKept c total → Some e ≡ last_entry c.entries → d ≡ lru_cache (take (length c.entries - 1) c.entries) c.cap → (e.1 ≤ total) × IsKept d (total - e.1)
kept-popped c d total e kept h is =
    let split = front_of c d e h is in
    let parts = sum_by-append (λ (e : CacheEntryKey × ℕ). e.1) d.entries (e ∷ []) in
    let last : weight (e ∷ []) ≡ e.1 + 0 = sum_by-cons (λ (e : CacheEntryKey × ℕ). e.1) e [] in
    let whole : weight c.entries ≡ weight (d.entries ++ e ∷ []) = ap weight split in
    let total_is = kept.summed in
    let many = ap (λ (l : Recency). length l) split in
    let longer = length-append d.entries (e ∷ []) in
    let few = kept.few in (
      omega arith,
      record {
        summed = omega arith;
        room = ap (λ (c : LruCache CacheEntryKey ℕ). c.cap) is ∙ kept.room;
        few = omega arith;
        small = subst (All (λ e. e.1 ≤ 2 ^ 64 - 1)) (sym (ap (λ (c : LruCache CacheEntryKey ℕ). c.entries) is)) (All-take (λ (e : CacheEntryKey × ℕ). e.1 ≤ 2 ^ 64 - 1) (length c.entries - 1) c.entries kept.small);
        distinct = distinct-front d.entries (e ∷ []) (subst (λ (l : Recency). IsDistinct entry_eq (keys_of l)) split kept.distinct);
      },
    )

few_left : (k : CacheEntryKey) (l : Recency) → IsDistinct entry_eq (keys_of l) → length (others k l) ≤ length l
few_left k l d = let both = length-others k l d in omega arith

pub kept-others : (c d : LruCache CacheEntryKey ℕ) (total : ℕ) (k : CacheEntryKey) → IsKept c total → d ≡ lru_cache (remove_entry (entry_eq k) c.entries) c.cap
    → (d.entries ≡ others k c.entries) × IsKept d (weight (others k c.entries))
kept-others c d total k kept e =
    let is : d.entries ≡ others k c.entries = ap (λ (c : LruCache CacheEntryKey ℕ). c.entries) e ∙ remove-others k c.entries kept.distinct in
    let few = kept.few in
    let fewer = few_left k c.entries kept.distinct in
    let many = ap (λ (l : Recency). length l) is in (
      is,
      record {
        summed = sym (ap weight is);
        room = ap (λ (c : LruCache CacheEntryKey ℕ). c.cap) e ∙ kept.room;
        few = omega arith;
        small = subst (All (λ e. e.1 ≤ 2 ^ 64 - 1)) (sym is) (All-filter (λ (e : CacheEntryKey × ℕ). not (entry_eq k e.0)) (λ e. e.1 ≤ 2 ^ 64 - 1) c.entries kept.small);
        distinct = subst (λ (l : Recency). IsDistinct entry_eq (keys_of l)) (sym is) (distinct-others k c.entries kept.distinct);
      },
    )

pub found-small : (k : CacheEntryKey) (l : Recency) (w : ℕ) → weight_of k l ≡ Some w → All (λ e. e.1 ≤ 2 ^ 64 - 1) l → w ≤ 2 ^ 64 - 1
found-small k [] w h a = cc
found-small k (e ∷ l) w h a =
    elim (entry_eq k e.0) as (λ b. cond b (Some e.1) (weight_of k l) ≡ Some w → w ≤ 2 ^ 64 - 1) [
      | true ↦ λ h. let here = All-head (λ (e : CacheEntryKey × ℕ). e.1 ≤ 2 ^ 64 - 1) e l a in let same : e.1 ≡ w = cc in omega arith
      | false ↦ λ h. found-small k l w h (All-tail (λ (e : CacheEntryKey × ℕ). e.1 ≤ 2 ^ 64 - 1) e l a)
    ] h

pub record Promotes (c d : LruCache CacheEntryKey ℕ) (total : ℕ) (k : CacheEntryKey) (o : Option ℕ) : Type 0 where
  pub there : IfSome o (λ w. d.entries ≡ moved k w c.entries)
  pub missing : is_some o ≡ false → d ≡ c
  pub kept : IsKept d total

pub kept-promoted : (c d : LruCache CacheEntryKey ℕ) (total : ℕ) (k : CacheEntryKey) → IsKept c total → d ≡ lru_cache (promoted (entry_eq k) c.entries) c.cap → length d.entries < 2 ^ 63 → Promotes c d total k (weight_of k c.entries)
kept-promoted c d total k kept e few =
    elim (weight_of k c.entries) as (λ o. weight_of k c.entries ≡ o → Promotes c d total k o) [
      | None ↦ λ h.
          let same : d ≡ c = e ∙ ap (λ l. lru_cache l c.cap) (ap (λ o. option_map_or (λ (e : CacheEntryKey × ℕ). e ∷ remove_entry (entry_eq k) c.entries) o c.entries) (entry_found k c.entries ∙ ap (option_map (λ (w : ℕ). (k, w))) h)) in
          record { there = tt; missing = λ _. same; kept = subst (λ d. IsKept d total) (sym same) kept }
      | Some w ↦ λ h.
          let is : d.entries ≡ moved k w c.entries = ap (λ (c : LruCache CacheEntryKey ℕ). c.entries) e ∙ promoted-moved k c.entries w kept.distinct h in
          let left = weight-others k c.entries kept.distinct in
          let present = ap (λ o. unwrap_or o 0) h in
          let whole : weight (moved k w c.entries) ≡ w + weight (others k c.entries) = sum_by-cons (λ (e : CacheEntryKey × ℕ). e.1) (k, w) (others k c.entries) in
          let sum_is : weight d.entries ≡ weight (moved k w c.entries) = ap weight is in
          let total_is = kept.summed in
          record {
            there = is;
            missing = λ no. cc;
            kept = record {
              summed = omega arith;
              room = ap (λ (c : LruCache CacheEntryKey ℕ). c.cap) e ∙ kept.room;
              few = few;
              small = subst (All (λ e. e.1 ≤ 2 ^ 64 - 1)) (sym is) (All-cons (λ (e : CacheEntryKey × ℕ). e.1 ≤ 2 ^ 64 - 1) (k, w) (others k c.entries) (found-small k c.entries w h kept.small) (All-filter (λ (e : CacheEntryKey × ℕ). not (entry_eq k e.0)) (λ e. e.1 ≤ 2 ^ 64 - 1) c.entries kept.small));
              distinct = subst (λ (l : Recency). IsDistinct entry_eq (keys_of l)) (sym is) (distinct-moved k w c.entries kept.distinct);
            };
          }
    ] refl

-- an entry in front of others goes to the back
demoted-front : (k : CacheEntryKey) (n : ℕ) (l : Recency) → demoted (entry_eq k) ((k, n) ∷ l) ≡ l ++ (k, n) ∷ []
demoted-front k n l =
    ap (λ b. option_map_or (λ (e : CacheEntryKey × ℕ). cond b l ((k, n) ∷ remove_entry (entry_eq k) l) ++ e ∷ []) (cond b (Some (k, n)) (lookup_entry (entry_eq k) l)) ((k, n) ∷ l)) (laws.refl k)

pub kept-last : (c d : LruCache CacheEntryKey ℕ) (total : ℕ) (k : CacheEntryKey) (n : ℕ) (l : Recency) → IsKept c total → c.entries ≡ moved k n l → weight_of k l ≡ None → d ≡ lru_cache (demoted (entry_eq k) c.entries) c.cap → length d.entries < 2 ^ 63 → IsDistinct entry_eq (keys_of d.entries)
    → (d.entries ≡ l ++ (k, n) ∷ []) × IsKept d total
kept-last c d total k n l kept front none e few distinct =
    let same : others k l ≡ l = others-none k l none in
    let is : d.entries ≡ l ++ (k, n) ∷ [] = ap (λ (c : LruCache CacheEntryKey ℕ). c.entries) e ∙ ap (demoted (entry_eq k)) front ∙ ap (λ l. demoted (entry_eq k) ((k, n) ∷ l)) same ∙ demoted-front k n l in
    let was : c.entries ≡ (k, n) ∷ l = front ∙ ap (λ l. (k, n) ∷ l) same in
    let small = subst (All (λ e. e.1 ≤ 2 ^ 64 - 1)) was kept.small in
    let here : weight c.entries ≡ weight ((k, n) ∷ l) = ap weight was in
    let there : weight d.entries ≡ weight (l ++ (k, n) ∷ []) = ap weight is in
    let front_sum : weight ((k, n) ∷ l) ≡ n + weight l = sum_by-cons (λ (e : CacheEntryKey × ℕ). e.1) (k, n) l in
    let back_sum = sum_by-append (λ (e : CacheEntryKey × ℕ). e.1) l ((k, n) ∷ []) in
    let one : weight ((k, n) ∷ []) ≡ n + 0 = sum_by-cons (λ (e : CacheEntryKey × ℕ). e.1) (k, n) [] in
    let total_is = kept.summed in (
      is,
      record {
        summed = omega arith;
        room = ap (λ (c : LruCache CacheEntryKey ℕ). c.cap) e ∙ kept.room;
        few = few;
        small = subst (All (λ e. e.1 ≤ 2 ^ 64 - 1)) (sym is) (All-push (λ (e : CacheEntryKey × ℕ). e.1 ≤ 2 ^ 64 - 1) l (k, n) (All-tail (λ (e : CacheEntryKey × ℕ). e.1 ≤ 2 ^ 64 - 1) (k, n) l small) (All-head (λ (e : CacheEntryKey × ℕ). e.1 ≤ 2 ^ 64 - 1) (k, n) l small));
        distinct = distinct;
      },
    )
