-- Queues: an entry removed, put in, changed in place.
use Rattle.std.proofs.Common.{All}
use Rattle.std.specs.List.{IsDistinct, slice_get}
use Rattle.std.specs.Option.{option_map_or}
use Rattle.std.specs.Map.{lookup_entry, remove_entry, set_value}
use Rattle.std.proofs.lemmas.List.{take_all}
use Rattle.std.proofs.lemmas.List.Elements.{All-filter, All-head, All-tail, All-take}
use Rattle.lru.specs.LruCache.{put_entries, promoted, lru_cache}
use Rattle.pcache_evict.specs.Shards.{reweighed}
use Rattle.pcache_evict.proofs.Recency.{weight-others, length-others}
use Rattle.pcache_evict.proofs.Reweighs.{weight-reweighed}
use Rattle.pcache_policies.specs.Queue.{IsOnce}
use Rattle.pcache_policies.proofs.Words.{◌≡◌, ℕ, zero, suc, ◌+◌, ◌*◌, ◌-◌, ◌<◌, ◌≤◌, ◌^◌, true, false, cond, not, Option, None, Some, is_some, option_map, unwrap_or, [], ◌∷◌, ◌++◌, refl, ap, sym, subst, ◌∙◌, arith, length, length-append, take, IsSome, IfSome, AllByRecursion, keys_of, All-cons, sum_by-cons, sum_by-append, IsDistinct-head, IsDistinct-tail, IsDistinct-cons, LruCache, last_entry, CacheEntryKey, entry_eq, Recency, weight, weight_of, others, same_key, laws, distinct-others, Seen, Queue, plain, seen_of, rest_of, reseen, IsKept}

abbrev pub E : Type 0
E = CacheEntryKey × Seen

abbrev IsSmall : E → Type 0
IsSmall e = e.1.weight ≤ 2 ^ 64 - 1

-- ---- what the weights alone show

pub keys-plain : (q : Queue) → keys_of (plain q) ≡ keys_of q
keys-plain [] = refl
keys-plain (e ∷ q) = ap (λ ks. e.0 ∷ ks) (keys-plain q)

pub length-plain : (q : Queue) → length (plain q) ≡ length q
length-plain [] = refl
length-plain (e ∷ q) = ap suc (length-plain q)

pub plain-append : (a b : Queue) → plain (a ++ b) ≡ plain a ++ plain b
plain-append [] b = refl
plain-append (e ∷ a) b = ap (λ l. (e.0, e.1.weight) ∷ l) (plain-append a b)

pub plain-found : (k : CacheEntryKey) (q : Queue) → weight_of k (plain q) ≡ option_map (λ (v : Seen). v.weight) (seen_of k q)
plain-found k [] = refl
plain-found k (e ∷ q) = elim (entry_eq k e.0) as (λ b. cond b (Some e.1.weight) (weight_of k (plain q)) ≡ option_map (λ (v : Seen). v.weight) (cond b (Some e.1) (seen_of k q))) [ true ↦ refl | false ↦ plain-found k q ]

pub some-plain : (k : CacheEntryKey) (q : Queue) → is_some (weight_of k (plain q)) ≡ is_some (seen_of k q)
some-plain k [] = refl
some-plain k (e ∷ q) = elim (entry_eq k e.0) as (λ b. is_some (cond b (Some e.1.weight) (weight_of k (plain q))) ≡ is_some (cond b (Some e.1) (seen_of k q))) [ true ↦ refl | false ↦ some-plain k q ]

pub plain-rest : (k : CacheEntryKey) (q : Queue) → plain (rest_of k q) ≡ others k (plain q)
plain-rest k [] = refl
plain-rest k (e ∷ q) =
    elim (entry_eq k e.0) as (λ b. plain (cond (not b) (e ∷ rest_of k q) (rest_of k q)) ≡ cond (not b) ((e.0, e.1.weight) ∷ others k (plain q)) (others k (plain q))) [
      | true ↦ plain-rest k q
      | false ↦ ap (λ l. (e.0, e.1.weight) ∷ l) (plain-rest k q)
    ]

pub plain-set : (k : CacheEntryKey) (v : Seen) (q : Queue) → plain (set_value (entry_eq k) q v) ≡ reweighed k v.weight (plain q)
plain-set k v [] = refl
plain-set k v (e ∷ q) =
    elim (entry_eq k e.0) as (λ b. plain (cond b ((e.0, v) ∷ q) (e ∷ set_value (entry_eq k) q v)) ≡ cond b ((e.0, v.weight) ∷ plain q) ((e.0, e.1.weight) ∷ reweighed k v.weight (plain q))) [
      | true ↦ refl
      | false ↦ ap (λ l. (e.0, e.1.weight) ∷ l) (plain-set k v q)
    ]

pub once-plain : (q : Queue) → IsOnce q → IsDistinct entry_eq (keys_of (plain q))
once-plain q d = subst (IsDistinct entry_eq) (sym (keys-plain q)) d

pub plain-once : (q : Queue) → IsDistinct entry_eq (keys_of (plain q)) → IsOnce q
plain-once q d = subst (IsDistinct entry_eq) (keys-plain q) d

-- ---- an entry that is not there

pub apart_rest : (k j : CacheEntryKey) (q : Queue) → entry_eq k j ≡ true → AllByRecursion (λ y. entry_eq j y ≡ false) (keys_of q) → rest_of k q ≡ q
apart_rest k j [] t a = refl
apart_rest k j (e ∷ q) t a = ap (λ b. cond (not b) (e ∷ rest_of k q) (rest_of k q)) (laws.congr k j e.0 t ∙ a.0) ∙ ap (λ l. e ∷ l) (apart_rest k j q t a.1)

pub apart_reseen : (k j : CacheEntryKey) (v : Seen) (q : Queue) → entry_eq k j ≡ true → AllByRecursion (λ y. entry_eq j y ≡ false) (keys_of q) → reseen k v q ≡ q
apart_reseen k j v [] t a = refl
apart_reseen k j v (e ∷ q) t a =
    ap (λ b. cond b (e.0, v) e ∷ reseen k v q) (laws.congr k j e.0 t ∙ a.0) ∙ ap (λ l. e ∷ l) (apart_reseen k j v q t a.1)

pub reseen-none : (k : CacheEntryKey) (v : Seen) (q : Queue) → seen_of k q ≡ None → reseen k v q ≡ q
reseen-none k v [] h = refl
reseen-none k v (e ∷ q) h =
    elim (entry_eq k e.0) as (λ b. cond b (Some e.1) (seen_of k q) ≡ None → cond b (e.0, v) e ∷ reseen k v q ≡ e ∷ q) [
      | true ↦ λ h. cc
      | false ↦ λ h. ap (λ l. e ∷ l) (reseen-none k v q h)
    ] h

-- ---- the cache's words as ours

pub remove-rest : (k : CacheEntryKey) (q : Queue) → IsOnce q → remove_entry (entry_eq k) q ≡ rest_of k q
remove-rest k [] d = refl
remove-rest k (e ∷ q) d =
    elim (entry_eq k e.0) as (λ b. entry_eq k e.0 ≡ b → cond b q (e ∷ remove_entry (entry_eq k) q) ≡ cond (not b) (e ∷ rest_of k q) (rest_of k q)) [
      | true ↦ λ t. sym (apart_rest k e.0 q t (IsDistinct-head entry_eq e.0 (keys_of q) d))
      | false ↦ λ t. ap (λ l. e ∷ l) (remove-rest k q (IsDistinct-tail entry_eq e.0 (keys_of q) d))
    ] refl

pub set-reseen : (k : CacheEntryKey) (v : Seen) (q : Queue) → IsOnce q → set_value (entry_eq k) q v ≡ reseen k v q
set-reseen k v [] d = refl
set-reseen k v (e ∷ q) d =
    elim (entry_eq k e.0) as (λ b. entry_eq k e.0 ≡ b → cond b ((e.0, v) ∷ q) (e ∷ set_value (entry_eq k) q v) ≡ cond b (e.0, v) e ∷ reseen k v q) [
      | true ↦ λ t. ap (λ l. (e.0, v) ∷ l) (sym (apart_reseen k e.0 v q t (IsDistinct-head entry_eq e.0 (keys_of q) d)))
      | false ↦ λ t. ap (λ l. e ∷ l) (set-reseen k v q (IsDistinct-tail entry_eq e.0 (keys_of q) d))
    ] refl

entry_none : (k : CacheEntryKey) (q : Queue) → seen_of k q ≡ None → lookup_entry (entry_eq k) q ≡ None
entry_none k [] h = refl
entry_none k (e ∷ q) h =
    elim (entry_eq k e.0) as (λ b. cond b (Some e.1) (seen_of k q) ≡ None → cond b (Some e) (lookup_entry (entry_eq k) q) ≡ None) [
      | true ↦ λ h. cc
      | false ↦ λ h. entry_none k q h
    ] h

put_new : (c : LruCache CacheEntryKey Seen) (k : CacheEntryKey) (v : Seen) → seen_of k c.entries ≡ None → length c.entries ≤ c.cap - 1 → put_entries entry_eq c k v ≡ (k, v) ∷ c.entries
put_new c k v none few =
    ap (λ o. option_map_or (λ (e : E). (e.0, v) ∷ remove_entry (entry_eq k) c.entries) o ((k, v) ∷ take (c.cap - 1) c.entries)) (entry_none k c.entries none)
    ∙ ap (λ l. (k, v) ∷ l) (take_all (c.cap - 1) c.entries few)

-- ---- what is kept

pub weight_bound : (q : Queue) → All IsSmall q → weight (plain q) ≤ length q * (2 ^ 64 - 1)
weight_bound [] a = omega arith
weight_bound (e ∷ q) a =
    let rest = weight_bound q (All-tail IsSmall e q a) in
    let one = All-head IsSmall e q a in
    let whole = sum_by-cons (λ (e : CacheEntryKey × ℕ). e.1) (e.0, e.1.weight) (plain q) in
    omega arith

pub kept_bound : (c : LruCache CacheEntryKey Seen) (total : ℕ) → IsKept c total → total ≤ length c.entries * (2 ^ 64 - 1)
kept_bound c total kept = let bound = weight_bound c.entries kept.small in omega (arith, kept.summed)

pub record Pushed (d : LruCache CacheEntryKey Seen) (total : ℕ) (q : Queue) : Type 0 where
  pub is : d.entries ≡ q
  pub kept : IsKept d total

pub kept-pushed : (c d : LruCache CacheEntryKey Seen) (total : ℕ) (k : CacheEntryKey) (v : Seen) → IsKept c total → seen_of k c.entries ≡ None → d ≡ lru_cache (put_entries entry_eq c k v) c.cap → IsDistinct entry_eq (keys_of d.entries) → length d.entries < 2 ^ 63 → v.weight ≤ 2 ^ 64 - 1
    → Pushed d (total + v.weight) ((k, v) ∷ c.entries)
kept-pushed c d total k v kept none e once few fits =
    let room = kept.room in
    let short = kept.few in
    let is : d.entries ≡ (k, v) ∷ c.entries = ap (λ (c : LruCache CacheEntryKey Seen). c.entries) e ∙ put_new c k v none (omega arith) in
    let whole : weight (plain ((k, v) ∷ c.entries)) ≡ v.weight + weight (plain c.entries) = sum_by-cons (λ (e : CacheEntryKey × ℕ). e.1) (k, v.weight) (plain c.entries) in
    let sum : weight (plain d.entries) ≡ weight (plain ((k, v) ∷ c.entries)) = ap (λ q. weight (plain q)) is in
    record {
      is = is;
      kept = record {
        summed = omega (arith, kept.summed, whole, sum);
        room = ap (λ (c : LruCache CacheEntryKey Seen). c.cap) e ∙ kept.room;
        few = few;
        small = subst (All IsSmall) (sym is) (All-cons IsSmall (k, v) c.entries fits kept.small);
        once = once;
      };
    }

pub record Removed (d : LruCache CacheEntryKey Seen) (total gone : ℕ) (q : Queue) : Type 0 where
  pub less : gone ≤ total
  pub is : d.entries ≡ q
  pub kept : IsKept d (total - gone)

abbrev weight_in : Option Seen → ℕ
weight_in o = unwrap_or (option_map (λ (v : Seen). v.weight) o) 0

pub once-rest : (k : CacheEntryKey) (q : Queue) → IsOnce q → IsOnce (rest_of k q)
once-rest k q d = plain-once (rest_of k q) (subst (λ (l : Recency). IsDistinct entry_eq (keys_of l)) (sym (plain-rest k q)) (distinct-others k (plain q) (once-plain q d)))

pub fewer : (k : CacheEntryKey) (q : Queue) → IsOnce q → length (rest_of k q) ≤ length q
fewer k q d =
    let both = length-others k (plain q) (once-plain q d) in
    let left = sym (length-plain (rest_of k q)) ∙ ap (λ (l : Recency). length l) (plain-rest k q) in
    let was = length-plain q in
    omega (arith, both, left, was)

pub kept-removed : (c d : LruCache CacheEntryKey Seen) (total : ℕ) (k : CacheEntryKey) (o : Option Seen) → IsKept c total → o ≡ seen_of k c.entries → d ≡ lru_cache (remove_entry (entry_eq k) c.entries) c.cap
    → Removed d total (weight_in o) (rest_of k c.entries)
kept-removed c d total k o kept found e =
    let is : d.entries ≡ rest_of k c.entries = ap (λ (c : LruCache CacheEntryKey Seen). c.entries) e ∙ remove-rest k c.entries kept.once in
    let parts = weight-others k (plain c.entries) (once-plain c.entries kept.once) in
    let here : unwrap_or (weight_of k (plain c.entries)) 0 ≡ weight_in o = ap (λ o. unwrap_or o 0) (plain-found k c.entries ∙ ap (option_map (λ (v : Seen). v.weight)) (sym found)) in
    let left : weight (plain d.entries) ≡ weight (others k (plain c.entries)) = ap (λ q. weight (plain q)) is ∙ ap weight (plain-rest k c.entries) in
    let few = kept.few in
    let less = fewer k c.entries kept.once in
    let many = ap (λ (q : Queue). length q) is in
    record {
      less = omega (arith, kept.summed, parts, here);
      is = is;
      kept = record {
        summed = omega (arith, kept.summed, parts, here, left);
        room = ap (λ (c : LruCache CacheEntryKey Seen). c.cap) e ∙ kept.room;
        few = omega (arith, few, less, many);
        small = subst (All IsSmall) (sym is) (All-filter (λ (e : E). not (entry_eq k e.0)) IsSmall c.entries kept.small);
        once = subst IsOnce (sym is) (once-rest k c.entries kept.once);
      };
    }

small-reseen : (k : CacheEntryKey) (v : Seen) (q : Queue) → v.weight ≤ 2 ^ 64 - 1 → All IsSmall q → All IsSmall (reseen k v q)
small-reseen k v [] fits a = a
small-reseen k v (e ∷ q) fits a =
    All-cons IsSmall (cond (entry_eq k e.0) (e.0, v) e) (reseen k v q) (elim (entry_eq k e.0) as (λ b. IsSmall (cond b (e.0, v) e)) [ true ↦ fits | false ↦ All-head IsSmall e q a ]) (small-reseen k v q fits (All-tail IsSmall e q a))

pub keys-reseen : (k : CacheEntryKey) (v : Seen) (q : Queue) → keys_of (reseen k v q) ≡ keys_of q
keys-reseen k v [] = refl
keys-reseen k v (e ∷ q) = elim (entry_eq k e.0) as (λ b. (cond b (e.0, v) e).0 ∷ keys_of (reseen k v q) ≡ e.0 ∷ keys_of q) [ true ↦ ap (λ ks. e.0 ∷ ks) (keys-reseen k v q) | false ↦ ap (λ ks. e.0 ∷ ks) (keys-reseen k v q) ]

pub length-reseen : (k : CacheEntryKey) (v : Seen) (q : Queue) → length (reseen k v q) ≡ length q
length-reseen k v [] = refl
length-reseen k v (e ∷ q) = ap suc (length-reseen k v q)

pub once-reseen : (k : CacheEntryKey) (v : Seen) (q : Queue) → IsOnce q → IsOnce (reseen k v q)
once-reseen k v q d = subst (IsDistinct entry_eq) (sym (keys-reseen k v q)) d

pub record Set (d : LruCache CacheEntryKey Seen) (total before after : ℕ) (q : Queue) : Type 0 where
  pub less : before ≤ total
  pub is : d.entries ≡ q
  pub kept : IsKept d (total - before + after)

pub kept-set : (c d : LruCache CacheEntryKey Seen) (total : ℕ) (k : CacheEntryKey) (w v : Seen) → IsKept c total → seen_of k c.entries ≡ Some w → d ≡ lru_cache (set_value (entry_eq k) c.entries v) c.cap → v.weight ≤ 2 ^ 64 - 1
    → Set d total w.weight v.weight (reseen k v c.entries)
kept-set c d total k w v kept found e fits =
    let is : d.entries ≡ reseen k v c.entries = ap (λ (c : LruCache CacheEntryKey Seen). c.entries) e ∙ set-reseen k v c.entries kept.once in
    let once = once-plain c.entries kept.once in
    let parts = weight-others k (plain c.entries) once in
    let at : weight_of k (plain c.entries) ≡ Some w.weight = plain-found k c.entries ∙ ap (option_map (λ (v : Seen). v.weight)) found in
    let here : unwrap_or (weight_of k (plain c.entries)) 0 ≡ w.weight = ap (λ o. unwrap_or o 0) at in
    let after : weight (plain d.entries) ≡ weight (others k (plain c.entries)) + v.weight =
    ap (λ (c : LruCache CacheEntryKey Seen). weight (plain c.entries)) e ∙ ap weight (plain-set k v c.entries) ∙ weight-reweighed k v.weight (plain c.entries) once (subst IsSome (sym at) refl) in
    let few = kept.few in
    let many : length d.entries ≡ length c.entries = ap (λ (q : Queue). length q) is ∙ length-reseen k v c.entries in
    record {
      less = omega (arith, kept.summed, parts, here);
      is = is;
      kept = record {
        summed = omega (arith, kept.summed, parts, here, after);
        room = ap (λ (c : LruCache CacheEntryKey Seen). c.cap) e ∙ kept.room;
        few = omega (arith, few, many);
        small = subst (All IsSmall) (sym is) (small-reseen k v c.entries fits kept.small);
        once = subst IsOnce (sym is) (once-reseen k v c.entries kept.once);
      };
    }

last_at : (n : ℕ) (l : Queue) (e : E) → length l ≡ n + 1 → slice_get l n ≡ Some e → l ≡ take n l ++ e ∷ []
last_at n [] e c h = absurd (omega arith)
last_at zero (x ∷ []) e c h = let same : x ≡ e = cc in ap (λ (x : E). x ∷ []) same
last_at zero (x ∷ y ∷ l) e c h = absurd (omega arith)
last_at (suc n) (x ∷ l) e c h = ap (λ xs. x ∷ xs) (last_at n l e (omega arith) h)

pub last_split : (l : Queue) (e : E) → last_entry l ≡ Some e → l ≡ take (length l - 1) l ++ e ∷ []
last_split [] e h = cc
last_split (x ∷ l) e h = last_at (length (x ∷ l) - 1) (x ∷ l) e (omega arith) h

pub last_none : (l : Queue) → last_entry l ≡ None → l ≡ []
last_none [] h = refl
last_none (x ∷ l) h = absurd (some (length (x ∷ l) - 1) (x ∷ l) (omega arith) h)
  where
    some : (n : ℕ) (l : Queue) → n < length l → slice_get l n ≡ None → ⊥
    some n [] h e = omega arith
    some zero (x ∷ l) h e = cc
    some (suc n) (x ∷ l) h e = some n l (omega arith) e

front_apart : (P : CacheEntryKey → Type 0) (front back : Queue) → AllByRecursion P (keys_of (front ++ back)) → AllByRecursion P (keys_of front)
front_apart P [] back a = tt
front_apart P (e ∷ front) back a = (a.0, front_apart P front back a.1)

pub once-front : (front back : Queue) → IsOnce (front ++ back) → IsOnce front
unfolding IsDistinct
once-front [] back d = tt
once-front (e ∷ front) back d = (front_apart (λ y. entry_eq e.0 y ≡ false) front back d.0, once-front front back d.1)

pub once-back : (front back : Queue) → IsOnce (front ++ back) → IsOnce back
once-back [] back d = d
once-back (e ∷ front) back d = once-back front back (IsDistinct-tail entry_eq e.0 (keys_of (front ++ back)) d)

pub record Popped (d : LruCache CacheEntryKey Seen) (total : ℕ) (q : Queue) (e : E) : Type 0 where
  pub less : e.1.weight ≤ total
  pub is : q ≡ d.entries ++ e ∷ []
  pub kept : IsKept d (total - e.1.weight)

pub kept-popped : (c d : LruCache CacheEntryKey Seen) (total : ℕ) (e : E) → IsKept c total → Some e ≡ last_entry c.entries → d ≡ lru_cache (take (length c.entries - 1) c.entries) c.cap → Popped d total c.entries e
kept-popped c d total e kept h is =
    let left : d.entries ≡ take (length c.entries - 1) c.entries = ap (λ (c : LruCache CacheEntryKey Seen). c.entries) is in
    let split : c.entries ≡ d.entries ++ e ∷ [] = last_split c.entries e (sym h) ∙ ap (λ l. l ++ e ∷ []) (sym left) in
    let parts = sum_by-append (λ (e : CacheEntryKey × ℕ). e.1) (plain d.entries) (plain (e ∷ [])) in
    let last : weight (plain (e ∷ [])) ≡ e.1.weight + 0 = sum_by-cons (λ (e : CacheEntryKey × ℕ). e.1) (e.0, e.1.weight) [] in
    let whole : weight (plain c.entries) ≡ weight (plain d.entries ++ plain (e ∷ [])) = ap (λ q. weight (plain q)) split ∙ ap weight (plain-append d.entries (e ∷ [])) in
    let many = ap (λ (l : Queue). length l) split in
    let longer = length-append d.entries (e ∷ []) in
    let few = kept.few in
    record {
      less = omega (arith, kept.summed, parts, last, whole);
      is = split;
      kept = record {
        summed = omega (arith, kept.summed, parts, last, whole);
        room = ap (λ (c : LruCache CacheEntryKey Seen). c.cap) is ∙ kept.room;
        few = omega (arith, few, many, longer);
        small = subst (All IsSmall) (sym left) (All-take IsSmall (length c.entries - 1) c.entries kept.small);
        once = once-front d.entries (e ∷ []) (subst IsOnce split kept.once);
      };
    }

-- ---- an entry put first

entry-found : (k : CacheEntryKey) (q : Queue) (v : Seen) → seen_of k q ≡ Some v → lookup_entry (entry_eq k) q ≡ Some (k, v)
entry-found k [] v h = cc
entry-found k (e ∷ q) v h =
    elim (entry_eq k e.0) as (λ b. entry_eq k e.0 ≡ b → cond b (Some e.1) (seen_of k q) ≡ Some v → cond b (Some e) (lookup_entry (entry_eq k) q) ≡ Some (k, v)) [
      | true ↦ λ t h. ap (λ (x : CacheEntryKey). Some (x, e.1)) (sym (same_key k e.0 t)) ∙ ap (λ (o : Option Seen). option_map (λ w. (k, w)) o) h
      | false ↦ λ t h. entry-found k q v h
    ] refl h

pub promoted-first : (k : CacheEntryKey) (q : Queue) (v : Seen) → IsOnce q → seen_of k q ≡ Some v → promoted (entry_eq k) q ≡ (k, v) ∷ rest_of k q
promoted-first k q v d h = ap (λ o. option_map_or (λ (e : E). e ∷ remove_entry (entry_eq k) q) o q) (entry-found k q v h) ∙ ap (λ q. (k, v) ∷ q) (remove-rest k q d)

promoted-none : (k : CacheEntryKey) (q : Queue) → seen_of k q ≡ None → promoted (entry_eq k) q ≡ q
promoted-none k q h = ap (λ o. option_map_or (λ (e : E). e ∷ remove_entry (entry_eq k) q) o q) (entry_none k q h)

found-small : (k : CacheEntryKey) (q : Queue) (v : Seen) → seen_of k q ≡ Some v → All IsSmall q → v.weight ≤ 2 ^ 64 - 1
found-small k [] v h a = cc
found-small k (e ∷ q) v h a =
    elim (entry_eq k e.0) as (λ b. cond b (Some e.1) (seen_of k q) ≡ Some v → v.weight ≤ 2 ^ 64 - 1) [
      | true ↦ λ h. let here = All-head IsSmall e q a in let same : e.1.weight ≡ v.weight = ap (λ (o : Option Seen). unwrap_or (option_map (λ (v : Seen). v.weight) o) 0) h in omega arith
      | false ↦ λ h. found-small k q v h (All-tail IsSmall e q a)
    ] h

pub none-in-rest : (k : CacheEntryKey) (q : Queue) → AllByRecursion (λ y. entry_eq k y ≡ false) (keys_of (rest_of k q))
none-in-rest k [] = tt
none-in-rest k (e ∷ q) =
    elim (entry_eq k e.0) as (λ b. entry_eq k e.0 ≡ b → AllByRecursion (λ y. entry_eq k y ≡ false) (keys_of (cond (not b) (e ∷ rest_of k q) (rest_of k q)))) [
      | true ↦ λ t. none-in-rest k q
      | false ↦ λ t. (t, none-in-rest k q)
    ] refl

pub kept-promoted : (c d : LruCache CacheEntryKey Seen) (total : ℕ) (k : CacheEntryKey) → IsKept c total → d ≡ lru_cache (promoted (entry_eq k) c.entries) c.cap → length d.entries < 2 ^ 63 → IsKept d total
kept-promoted c d total k kept e few =
    elim (seen_of k c.entries) as (λ o. seen_of k c.entries ≡ o → IsKept d total) [
      | None ↦ λ h. subst (λ d. IsKept d total) (sym (e ∙ ap (λ q. lru_cache q c.cap) (promoted-none k c.entries h))) kept
      | Some v ↦ λ h.
          let is : d.entries ≡ (k, v) ∷ rest_of k c.entries = ap (λ (c : LruCache CacheEntryKey Seen). c.entries) e ∙ promoted-first k c.entries v kept.once h in
          let parts = weight-others k (plain c.entries) (once-plain c.entries kept.once) in
          let here : unwrap_or (weight_of k (plain c.entries)) 0 ≡ v.weight = ap (λ o. unwrap_or o 0) (plain-found k c.entries ∙ ap (option_map (λ (v : Seen). v.weight)) h) in
          let left : weight (plain (rest_of k c.entries)) ≡ weight (others k (plain c.entries)) = ap weight (plain-rest k c.entries) in
          let whole : weight (plain ((k, v) ∷ rest_of k c.entries)) ≡ v.weight + weight (plain (rest_of k c.entries)) = sum_by-cons (λ (e : CacheEntryKey × ℕ). e.1) (k, v.weight) (plain (rest_of k c.entries)) in
          let sum : weight (plain d.entries) ≡ weight (plain ((k, v) ∷ rest_of k c.entries)) = ap (λ q. weight (plain q)) is in
          record {
            summed = omega (arith, kept.summed, parts, here, left, whole, sum);
            room = ap (λ (c : LruCache CacheEntryKey Seen). c.cap) e ∙ kept.room;
            few = few;
            small = subst (All IsSmall) (sym is) (All-cons IsSmall (k, v) (rest_of k c.entries) (found-small k c.entries v h kept.small) (All-filter (λ (e : E). not (entry_eq k e.0)) IsSmall c.entries kept.small));
            once = subst IsOnce (sym is) (IsDistinct-cons entry_eq k (keys_of (rest_of k c.entries)) (none-in-rest k c.entries) (once-rest k c.entries kept.once));
          }
    ] refl

-- an entry set in place, and put first
pub seen-set : (k : CacheEntryKey) (v : Seen) (q : Queue) → is_some (seen_of k q) ≡ true → seen_of k (reseen k v q) ≡ Some v
seen-set k v [] h = cc
seen-set k v (e ∷ q) h =
    elim (entry_eq k e.0) as (λ b. entry_eq k e.0 ≡ b → is_some (cond b (Some e.1) (seen_of k q)) ≡ true → cond (entry_eq k (cond b (e.0, v) e).0) (Some (cond b (e.0, v) e).1) (seen_of k (reseen k v q)) ≡ Some v) [
      | true ↦ λ t h. ap (λ b. cond b (Some v) (seen_of k (reseen k v q))) t
      | false ↦ λ t h. ap (λ b. cond b (Some e.1) (seen_of k (reseen k v q))) t ∙ seen-set k v q h
    ] refl h

pub rest-set : (k : CacheEntryKey) (v : Seen) (q : Queue) → rest_of k (reseen k v q) ≡ rest_of k q
rest-set k v [] = refl
rest-set k v (e ∷ q) =
    elim (entry_eq k e.0) as (λ b. entry_eq k e.0 ≡ b → cond (not (entry_eq k (cond b (e.0, v) e).0)) (cond b (e.0, v) e ∷ rest_of k (reseen k v q)) (rest_of k (reseen k v q)) ≡ cond (not b) (e ∷ rest_of k q) (rest_of k q)) [
      | true ↦ λ t. ap (λ b. cond (not b) ((e.0, v) ∷ rest_of k (reseen k v q)) (rest_of k (reseen k v q))) t ∙ rest-set k v q
      | false ↦ λ t. ap (λ b. cond (not b) (e ∷ rest_of k (reseen k v q)) (rest_of k (reseen k v q))) t ∙ ap (λ q. e ∷ q) (rest-set k v q)
    ] refl

-- ---- the newest entries

pub take-front : (n : ℕ) (q : Queue) (e : E) → n < length (q ++ e ∷ []) → take n q ≡ take n (q ++ e ∷ [])
take-front zero q e h = refl
take-front (suc n) [] e h = absurd (omega arith)
take-front (suc n) (x ∷ q) e h = ap (λ q. x ∷ q) (take-front n q e (omega arith))

-- the oldest goes while there are more than so many
pub keep-step : (n : ℕ) (q r : Queue) → n < length q → IfSome (last_entry q) (λ e. q ≡ r ++ e ∷ []) → (take n r ≡ take n q) × (length r < length q)
keep-step n q r many h =
    elim (last_entry q) as (λ o. last_entry q ≡ o → IfSome o (λ e. q ≡ r ++ e ∷ []) → (take n r ≡ take n q) × (length r < length q)) [
      | None ↦ λ is h. let none : length q ≡ 0 = ap (λ (q : Queue). length q) (last_none q is) in absurd (omega arith)
      | Some e ↦ λ is h.
          let long : length q ≡ length (r ++ e ∷ []) = ap (λ (q : Queue). length q) h in
          let parts = length-append r (e ∷ []) in
          (take-front n r e (omega arith) ∙ ap (take n) (sym h), omega arith)
    ] refl h
