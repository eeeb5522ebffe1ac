-- What is known of an entry of a queue, on the queue's map.
use Rattle.pcache_evict.specs.Entry.{entry_ties}
use Rattle.pcache_evict.specs.Tracked.{Evicted}
use Rattle.pcache_policies.specs.Queue.{IsOnce}
use Rattle.pcache_policies.specs.Sieve.{entries}
use Rattle.pcache_policies.specs.Ring.{shown, left_of}
use Rattle.pcache_evict.proofs.Recency.{others-none}
use Rattle.pcache_policies.proofs.Words.{◌≡◌, ℕ, ◌+◌, Bool, true, false, cond, Option, None, Some, is_some, option_map, [], ◌∷◌, ◌++◌, refl, ap, sym, ◌∙◌, arith, eq_by_cmp, sum_by-append, CacheEntryKey, entry_eq, entry_cmp, entries_total, Limits, weight, weight_of, map_of, exact_entries, same_key, get-map_of, weight-map_of, Seen, Queue, plain, seen_of, reseen, Ring, all, SameEntries, map-moved}
use Rattle.std.specs.FinMap as fin
use Rattle.pcache_evict.specs.Tracked as tracked
use Rattle.pcache_policies.proofs.Queues.{plain-append, plain-found, some-plain, once-plain}

-- an entry that is not there is not there in a list with the same map
pub none_some : (o : Option Seen) → is_some o ≡ false → o ≡ None
none_some None h = refl
none_some (Some v) h = cc

pub found_same : (k : CacheEntryKey) (q r : Queue) → map_of (plain r) ≡ map_of (plain q) → is_some (seen_of k r) ≡ is_some (seen_of k q)
found_same k q r same =
    sym (some-plain k r) ∙ ap is_some (sym (get-map_of (plain r) k)) ∙ ap (λ m. is_some (fin.get m k)) same ∙ ap is_some (get-map_of (plain q) k) ∙ some-plain k q

-- what was chosen, and the others, weigh what all weighed
pub whole_weight : (old new : Ring) → IsOnce (all old) → IsOnce (all new) → SameEntries old new → weight (entries (shown old)) ≡ weight (entries (left_of new)) + weight (plain new.leaving)
whole_weight old new d e same =
    let were = weight-map_of (plain (all old)) (once-plain (all old) d) in
    let are = weight-map_of (plain (all new)) (once-plain (all new) e) in
    let both : tracked.weight (map_of (plain (all new))) ≡ tracked.weight (map_of (plain (all old))) = ap tracked.weight same in
    let first : weight (plain (all new)) ≡ weight (plain new.ahead ++ plain (new.leaving ++ new.passed)) = ap weight (plain-append new.ahead (new.leaving ++ new.passed)) in
    let one = sum_by-append (λ (e : CacheEntryKey × ℕ). e.1) (plain new.ahead) (plain (new.leaving ++ new.passed)) in
    let second : weight (plain (new.leaving ++ new.passed)) ≡ weight (plain new.leaving ++ plain new.passed) = ap weight (plain-append new.leaving new.passed) in
    let two = sum_by-append (λ (e : CacheEntryKey × ℕ). e.1) (plain new.leaving) (plain new.passed) in
    let third : weight (plain (new.ahead ++ new.passed)) ≡ weight (plain new.ahead ++ plain new.passed) = ap weight (plain-append new.ahead new.passed) in
    let three = sum_by-append (λ (e : CacheEntryKey × ℕ). e.1) (plain new.ahead) (plain new.passed) in
    omega arith

abbrev tied : CacheEntryKey → CacheEntryKey → Bool
tied = eq_by_cmp entry_cmp

off_reseen : (k q : CacheEntryKey) (v : Seen) (l : Queue) → entry_eq q k ≡ false → weight_of q (plain (reseen k v l)) ≡ weight_of q (plain l)
off_reseen k q v [] ne = refl
off_reseen k q v (e ∷ l) ne =
    elim (entry_eq k e.0) as (λ b. entry_eq k e.0 ≡ b → cond (entry_eq q (cond b (e.0, v) e).0) (Some (cond b (e.0, v) e).1.weight) (weight_of q (plain (reseen k v l))) ≡ cond (entry_eq q e.0) (Some e.1.weight) (weight_of q (plain l))) [
      | true ↦ λ t.
          let off : entry_eq q e.0 ≡ false = ap (entry_eq q) (sym (same_key k e.0 t)) ∙ ne in
          ap (λ b. cond b (Some v.weight) (weight_of q (plain (reseen k v l)))) off ∙ off_reseen k q v l ne ∙ sym (ap (λ b. cond b (Some e.1.weight) (weight_of q (plain l))) off)
      | false ↦ λ t. ap (cond (entry_eq q e.0) (Some e.1.weight)) (off_reseen k q v l ne)
    ] refl

at_reseen : (k : CacheEntryKey) (v : Seen) (l : Queue) → is_some (seen_of k l) ≡ true → weight_of k (plain (reseen k v l)) ≡ Some v.weight
at_reseen k v [] h = cc
at_reseen k v (e ∷ l) h =
    elim (entry_eq k e.0) as (λ b. entry_eq k e.0 ≡ b → is_some (cond b (Some e.1) (seen_of k l)) ≡ true → cond (entry_eq k (cond b (e.0, v) e).0) (Some (cond b (e.0, v) e).1.weight) (weight_of k (plain (reseen k v l))) ≡ Some v.weight) [
      | true ↦ λ t h. ap (λ b. cond b (Some v.weight) (weight_of k (plain (reseen k v l)))) t
      | false ↦ λ t h. ap (λ b. cond b (Some e.1.weight) (weight_of k (plain (reseen k v l)))) t ∙ at_reseen k v l h
    ] refl h

pub map-reseen : (k : CacheEntryKey) (v : Seen) (l : Queue) → is_some (seen_of k l) ≡ true → map_of (plain (reseen k v l)) ≡ fin.insert (map_of (plain l)) k v.weight
map-reseen k v l there = fin.same_map entries_total exact_entries _ _ (λ q.
    get-map_of (plain (reseen k v l)) q
    ∙ (elim (entry_eq q k) as (λ b. entry_eq q k ≡ b → weight_of q (plain (reseen k v l)) ≡ cond b (Some v.weight) (weight_of q (plain l))) [
      | true ↦ λ t. ap (λ x. weight_of x (plain (reseen k v l))) (same_key q k t) ∙ at_reseen k v l there
      | false ↦ λ t. off_reseen k q v l t
    ] refl)
    ∙ ap (λ b. cond b (Some v.weight) (weight_of q (plain l))) (entry_ties q k)
    ∙ sym (fin.get-insert entries_total (map_of (plain l)) k v.weight q ∙ ap (λ o. cond (tied q k) (Some v.weight) o) (get-map_of (plain l) q)))

-- an entry set to what it had is as it was
pub same_put : (k : CacheEntryKey) (n w : ℕ) (m : tracked.Tracked) → fin.get m k ≡ Some w → fin.insert (fin.insert m k n) k w ≡ m
same_put k n w m is = fin.same_map entries_total exact_entries _ _ (λ q.
    fin.get-insert entries_total (fin.insert m k n) k w q
    ∙ ap (cond (tied q k) (Some w)) (fin.get-insert entries_total m k n q)
    ∙ ap (λ b. cond b (Some w) (cond b (Some n) (fin.get m q))) (sym (entry_ties q k))
    ∙ (elim (entry_eq q k) as (λ b. entry_eq q k ≡ b → cond b (Some w) (cond b (Some n) (fin.get m q)) ≡ fin.get m q) [
      | true ↦ λ t. sym is ∙ ap (fin.get m) (sym (same_key q k t))
      | false ↦ λ t. refl
    ] refl))

-- an entry set to what it has is as it was
pub put_back : (k : CacheEntryKey) (w : ℕ) (m : tracked.Tracked) → fin.get m k ≡ Some w → fin.insert m k w ≡ m
put_back k w m is = fin.same_map entries_total exact_entries _ _ (λ q.
    fin.get-insert entries_total m k w q
    ∙ ap (λ b. cond b (Some w) (fin.get m q)) (sym (entry_ties q k))
    ∙ (elim (entry_eq q k) as (λ b. entry_eq q k ≡ b → cond b (Some w) (fin.get m q) ≡ fin.get m q) [
      | true ↦ λ t. sym is ∙ ap (fin.get m) (sym (same_key q k t))
      | false ↦ λ t. refl
    ] refl))

pub none_plain : (k : CacheEntryKey) (q : Queue) → seen_of k q ≡ None → weight_of k (plain q) ≡ None
none_plain k q none = plain-found k q ∙ ap (option_map (λ (v : Seen). v.weight)) none

pub map-new : (k : CacheEntryKey) (n : ℕ) (q : Queue) → seen_of k q ≡ None → map_of ((k, n) ∷ plain q) ≡ fin.insert (map_of (plain q)) k n
map-new k n q none = ap (λ l. map_of ((k, n) ∷ l)) (sym (others-none k (plain q) (none_plain k q none))) ∙ map-moved k n (plain q)

pub got : (k : CacheEntryKey) (q : Queue) (o : Option Seen) → seen_of k q ≡ o → fin.get (map_of (plain q)) k ≡ option_map (λ (v : Seen). v.weight) o
got k q o is = get-map_of (plain q) k ∙ plain-found k q ∙ ap (option_map (λ (v : Seen). v.weight)) is

pub there-list : (k : CacheEntryKey) (q : Queue) → is_some (seen_of k q) ≡ fin.contains_key (map_of (plain q)) k
there-list k q = sym (some-plain k q) ∙ ap is_some (sym (get-map_of (plain q) k))

pub some_seen : (o : Option Seen) → is_some o ≡ true → (v : Seen) × (o ≡ Some v)
some_seen None h = cc
some_seen (Some v) h = (v, refl)

-- an entry that is set with the weight that it had leaves the map
pub map-noted : (k : CacheEntryKey) (v r : Seen) (q : Queue) → seen_of k q ≡ Some v → r.weight ≡ v.weight → map_of (plain (reseen k r q)) ≡ map_of (plain q)
map-noted k v r q is same = map-reseen k r q (ap is_some is) ∙ ap (fin.insert (map_of (plain q)) k) same ∙ put_back k v.weight (map_of (plain q)) (got k q (Some v) is)
