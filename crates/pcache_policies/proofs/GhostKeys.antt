-- Ghosts as the keys of a queue.
use Rattle.std.proofs.Common.{◌||◌}
use Rattle.std.specs.List.{list_any}
use Rattle.pcache_policies.proofs.Words.{◌≡◌, ℕ, zero, suc, Bool, true, false, cond, not, Option, None, Some, is_some, List, [], ◌∷◌, refl, ap, sym, ◌∙◌, take, filter, keys_of, CacheEntryKey, entry_eq, Seen, Queue, seen_of, rest_of, is_ghost, forgotten, ghosted}
use Rattle.pcache_policies.proofs.Queues.{E}

pub is_key : (k : CacheEntryKey) (q : Queue) → is_some (seen_of k q) ≡ is_ghost k (keys_of q)
is_key k [] = refl
is_key k (e ∷ q) = elim (entry_eq k e.0) as (λ b. is_some (cond b (Some e.1) (seen_of k q)) ≡ (b || is_ghost k (keys_of q))) [ true ↦ refl | false ↦ is_key k q ]

pub keys-rest : (k : CacheEntryKey) (q : Queue) → keys_of (rest_of k q) ≡ forgotten k (keys_of q)
keys-rest k [] = refl
keys-rest k (e ∷ q) =
    elim (entry_eq k e.0) as (λ b. keys_of (cond (not b) (e ∷ rest_of k q) (rest_of k q)) ≡ cond (not b) (e.0 ∷ forgotten k (keys_of q)) (forgotten k (keys_of q))) [
      | true ↦ keys-rest k q
      | false ↦ ap (λ ks. e.0 ∷ ks) (keys-rest k q)
    ]

pub none-rest : (k : CacheEntryKey) (q : Queue) → seen_of k (rest_of k q) ≡ None
none-rest k [] = refl
none-rest k (e ∷ q) =
    elim (entry_eq k e.0) as (λ b. entry_eq k e.0 ≡ b → seen_of k (cond (not b) (e ∷ rest_of k q) (rest_of k q)) ≡ None) [
      | true ↦ λ t. none-rest k q
      | false ↦ λ t. ap (λ b. cond b (Some e.1) (seen_of k (rest_of k q))) t ∙ none-rest k q
    ] refl

keys-take : (n : ℕ) (q : Queue) → keys_of (take n q) ≡ take n (keys_of q)
keys-take zero q = refl
keys-take (suc n) [] = refl
keys-take (suc n) (e ∷ q) = ap (λ ks. e.0 ∷ ks) (keys-take n q)

-- a key added to a queue without it, and the oldest cut off
pub added : (k : CacheEntryKey) (v : Seen) (n : ℕ) (q r s t : Queue) → r ≡ rest_of k q → s ≡ (k, v) ∷ r → t ≡ take n s → keys_of t ≡ take n (k ∷ forgotten k (keys_of q))
added k v n q r s t a b c = ap (λ (q : Queue). keys_of q) c ∙ keys-take n s ∙ ap (λ (q : Queue). take n (keys_of q)) b ∙ ap (λ (q : Queue). take n (k ∷ keys_of q)) a ∙ ap (λ ks. take n (k ∷ ks)) (keys-rest k q)
