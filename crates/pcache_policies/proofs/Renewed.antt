-- An entry of a queue becomes its newest.
use Rattle.pcache_policies.specs.Queue.{IsOnce}
use Rattle.pcache_policies.proofs.Words.{◌≡◌, ℕ, suc, ◌+◌, ◌≤◌, Bool, true, false, cond, not, Option, None, Some, is_some, List, [], ◌∷◌, ◌++◌, refl, ap, sym, subst, ◌∙◌, arith, length, length-append, filter, keys_of, IsDistinct-head, IsDistinct-tail, IsDistinct-cons, CacheEntryKey, entry_eq, map_of, same_key, map-moved, Seen, Queue, plain, seen_of, rest_of, IsRing}
use Rattle.std.specs.FinMap as fin
use Rattle.pcache_policies.proofs.Queues.{E, plain-rest, once-rest, none-in-rest}
use Rattle.pcache_policies.proofs.Rings.{Apart, apart_back, apart_both, few_rest, rest-append}

-- what is in the front of a queue is not in its back
apart_behind : (k : CacheEntryKey) (a r : Queue) → IsOnce (a ++ r) → is_some (seen_of k a) ≡ true → Apart k r
apart_behind k [] r once h = cc
apart_behind k (e ∷ a) r once h =
    elim (entry_eq k e.0) as (λ b. entry_eq k e.0 ≡ b → is_some (cond b (Some e.1) (seen_of k a)) ≡ true → Apart k r) [
      | true ↦ λ t h. subst (λ k. Apart k r) (sym (same_key k e.0 t)) (apart_back e.0 a r (IsDistinct-head entry_eq e.0 (keys_of (a ++ r)) once))
      | false ↦ λ t h. apart_behind k a r (IsDistinct-tail entry_eq e.0 (keys_of (a ++ r)) once) h
    ] refl h

-- a queue without what it does not have
apart_whole : (k : CacheEntryKey) (r : Queue) → Apart k r → rest_of k r ≡ r
apart_whole k [] a = refl
apart_whole k (e ∷ r) a = ap (λ b. cond (not b) (e ∷ rest_of k r) (rest_of k r)) a.0 ∙ ap (λ r. e ∷ r) (apart_whole k r a.1)

rest_front : (k : CacheEntryKey) (a r : Queue) → IsOnce (a ++ r) → is_some (seen_of k a) ≡ true → rest_of k (a ++ r) ≡ rest_of k a ++ r
rest_front k a r once h = rest-append k a r ∙ ap (λ r. rest_of k a ++ r) (apart_whole k r (apart_behind k a r once h))

fewer_rest : (k : CacheEntryKey) (a : Queue) → is_some (seen_of k a) ≡ true → length (rest_of k a) + 1 ≤ length a
fewer_rest k [] h = cc
fewer_rest k (e ∷ a) h =
    elim (entry_eq k e.0) as (λ b. is_some (cond b (Some e.1) (seen_of k a)) ≡ true → length (cond (not b) (e ∷ rest_of k a) (rest_of k a)) + 1 ≤ length (e ∷ a)) [
      | true ↦ λ h. (let few = few_rest k a in omega arith)
      | false ↦ λ h. (let few = fewer_rest k a h in omega arith)
    ] h

pub once_renewed : (k : CacheEntryKey) (v : Seen) (a r : Queue) → IsOnce (a ++ r) → is_some (seen_of k a) ≡ true → IsOnce ((k, v) ∷ rest_of k a ++ r)
once_renewed k v a r once h =
    IsDistinct-cons entry_eq k (keys_of (rest_of k a ++ r))
    (apart_both k (rest_of k a) r (none-in-rest k a) (apart_behind k a r once h))
    (subst IsOnce (rest_front k a r once h) (once-rest k (a ++ r) once))

pub ring-renewed : (k : CacheEntryKey) (v : Seen) (a g p : Queue) → IsRing a g p → is_some (seen_of k a) ≡ true → IsRing ((k, v) ∷ rest_of k a) g p
ring-renewed k v a g p r h =
    let few = fewer_rest k a h in
    let was = r.few in
    record { once = once_renewed k v a (g ++ p) r.once h; few = omega arith }

pub map-renewed : (k : CacheEntryKey) (v : Seen) (a r : Queue) → IsOnce (a ++ r) → is_some (seen_of k a) ≡ true → map_of (plain ((k, v) ∷ rest_of k a ++ r)) ≡ fin.insert (map_of (plain (a ++ r))) k v.weight
map-renewed k v a r once h =
    ap (λ q. map_of (plain ((k, v) ∷ q))) (sym (rest_front k a r once h))
    ∙ ap (λ l. map_of ((k, v.weight) ∷ l)) (plain-rest k (a ++ r))
    ∙ map-moved k v.weight (plain (a ++ r))
