-- A list with a hand as a queue.
use Rattle.pcache_policies.specs.Queue.{IsOnce}
use Rattle.pcache_policies.specs.Sieve.{Sieve, whole, entries}
use Rattle.pcache_policies.specs.OneQueue.{MakesRoom, rests, goes}
use Rattle.pcache_policies.specs.Ring.{shown, left_of}
use Rattle.pcache_policies.proofs.Words.{◌≡◌, ℕ, ◌+◌, ◌≤◌, true, false, cond, None, Some, List, [], ◌∷◌, ◌++◌, refl, ap, sym, subst, ◌∙◌, arith, inl, inr, length, length-append, append_assoc, append-nil, IfSome, ◌⊎◌, sum_by-append, IsDistinct-head, IsDistinct-tail, keys_of, CacheEntryKey, entry_eq, Limits, weight, map_of, same_key, laws, Queue, plain, seen_of, HasRoom, sieve, spares, Ring, all, in_turn, SameEntries}
use Rattle.pcache_policies.specs.Sieve as hand
use Rattle.pcache_policies.proofs.Queues.{E, plain-append, length-plain}
use Rattle.pcache_policies.proofs.Rings.{Apart, none_apart, apart_none, apart_front, apart_back, apart_both, once_swap, map-swap}
use Rattle.pcache_policies.proofs.Seens.{whole_weight}

-- ---- two parts of a queue in the other order

pub weight_swap : (a p : Queue) → weight (plain (a ++ p)) ≡ weight (plain (p ++ a))
weight_swap a p =
    let one : weight (plain (a ++ p)) ≡ weight (plain a ++ plain p) = ap weight (plain-append a p) in
    let two = sum_by-append (λ (e : CacheEntryKey × ℕ). e.1) (plain a) (plain p) in
    let three : weight (plain (p ++ a)) ≡ weight (plain p ++ plain a) = ap weight (plain-append p a) in
    let four = sum_by-append (λ (e : CacheEntryKey × ℕ). e.1) (plain p) (plain a) in
    omega arith

pub length_swap : (a p : Queue) → length (a ++ p) ≡ length (p ++ a)
length_swap a p = let one = length-append a p in let two = length-append p a in omega arith

plain_length_swap : (a p : Queue) → length (plain (a ++ p)) ≡ length (plain (p ++ a))
plain_length_swap a p = length-plain (a ++ p) ∙ length_swap a p ∙ sym (length-plain (p ++ a))

pub room_swap : (limits : Limits) (size count : ℕ) (a p : Queue) → HasRoom limits size count (plain (a ++ p)) → HasRoom limits size count (plain (p ++ a))
room_swap limits size count a p r =
    record { heavy = subst (λ n. size + n ≤ limits.weight) (weight_swap a p) r.heavy; many = subst (λ n. IfSome limits.watermark (λ most. count + n ≤ most)) (plain_length_swap a p) r.many }

empty_swap : (a p : Queue) → a ++ p ≡ [] → p ++ a ≡ []
empty_swap [] p e = append-nil p ∙ e
empty_swap (x ∷ a) p e = cc

pub absent_swap : (k : CacheEntryKey) (a p : Queue) → seen_of k (a ++ p) ≡ None → seen_of k (p ++ a) ≡ None
absent_swap k a p h = none_apart k (p ++ a) (apart_both k p a (apart_back k a p (apart_none k (a ++ p) h)) (apart_front k a p (apart_none k (a ++ p) h)))

-- an entry is found wherever it is
found_mid : (k : CacheEntryKey) (e : E) (b a : Queue) → Apart e.0 b → seen_of k (b ++ e ∷ a) ≡ cond (entry_eq k e.0) (Some e.1) (seen_of k (b ++ a))
found_mid k e [] a h = refl
found_mid k e (x ∷ b) a h =
    elim (entry_eq k x.0) as (λ t. entry_eq k x.0 ≡ t → cond t (Some x.1) (seen_of k (b ++ e ∷ a)) ≡ cond (entry_eq k e.0) (Some e.1) (cond t (Some x.1) (seen_of k (b ++ a)))) [
      | true ↦ λ t.
          let off : entry_eq k e.0 ≡ false = ap (λ y. entry_eq y e.0) (same_key k x.0 t) ∙ laws.symm x.0 e.0 ∙ h.0 in
          sym (ap (λ b. cond b (Some e.1) (Some x.1)) off)
      | false ↦ λ t. found_mid k e b a h.1
    ] refl

pub found_swap : (k : CacheEntryKey) (a b : Queue) → IsOnce (a ++ b) → seen_of k (a ++ b) ≡ seen_of k (b ++ a)
found_swap k [] b d = ap (seen_of k) (sym (append-nil b))
found_swap k (e ∷ a) b d =
    ap (cond (entry_eq k e.0) (Some e.1)) (found_swap k a b (IsDistinct-tail entry_eq e.0 (keys_of (a ++ b)) d))
    ∙ sym (found_mid k e b a (apart_back e.0 a b (IsDistinct-head entry_eq e.0 (keys_of (a ++ b)) d)))

-- ---- what the hand does is what the queue does

pub rooms : (limits : Limits) (size count : ℕ) (s t : Sieve) (out : List CacheEntryKey) → hand.MakesRoom limits size count s out t → MakesRoom limits size count (in_turn s) out (in_turn t)
rooms limits size count s t out (hand.rests s2 h) = rests (in_turn s) (at_rest h)
  where
    at_rest : HasRoom limits size count (entries s) ⊎ (whole s ≡ []) → HasRoom limits size count (plain (in_turn s)) ⊎ (in_turn s ≡ [])
    at_rest (inl r) = inl (room_swap limits size count s.ahead s.passed r)
    at_rest (inr e) = inr (empty_swap s.ahead s.passed e)
rooms limits size count s t out (hand.clears s2 m t2 k v out2 over a used p more) =
    spares (in_turn s) (s.passed ++ m.ahead) (in_turn t) k v out (λ r. over (room_swap limits size count s.passed s.ahead r))
    (ap (λ a. s.passed ++ a) a ∙ sym (append_assoc s.passed m.ahead ((k, v) ∷ []))) used
    (subst (λ q. MakesRoom limits size count q out (in_turn t)) (ap (λ p. p ++ m.ahead) p) (rooms limits size count m t out more))
rooms limits size count s t out (hand.goes s2 m t2 k v out2 over a idle p more) =
    goes (in_turn s) (s.passed ++ m.ahead) (in_turn t) k v out2 (λ r. over (room_swap limits size count s.passed s.ahead r))
    (ap (λ a. s.passed ++ a) a ∙ sym (append_assoc s.passed m.ahead ((k, v) ∷ []))) idle
    (subst (λ q. MakesRoom limits size count q out2 (in_turn t)) (ap (λ p. p ++ m.ahead) p) (rooms limits size count m t out2 more))
rooms limits size count s t out (hand.turns s2 t2 out2 over a more) =
    subst (λ q. MakesRoom limits size count q out (in_turn t)) (sym (ap (λ a. s.passed ++ a) a ∙ append-nil s.passed)) (rooms limits size count (sieve s.passed []) t out more)

-- ---- the ring as a queue

pub once_turn : (r : Ring) → IsOnce (all r) → IsOnce (in_turn (shown r))
once_turn r d = once_swap r.ahead (r.leaving ++ r.passed) d

pub found_turn : (k : CacheEntryKey) (r : Ring) → IsOnce (all r) → seen_of k (all r) ≡ seen_of k (in_turn (shown r))
found_turn k r d = found_swap k r.ahead (r.leaving ++ r.passed) d

pub map_turn : (old new : Ring) → IsOnce (all old) → IsOnce (all new) → SameEntries old new → map_of (plain (in_turn (shown new))) ≡ map_of (plain (in_turn (shown old)))
map_turn old new d e same = sym (map-swap new.ahead (new.leaving ++ new.passed) e) ∙ same ∙ map-swap old.ahead (old.leaving ++ old.passed) d

pub weight_turn : (old new : Ring) → IsOnce (all old) → IsOnce (all new) → SameEntries old new → weight (plain (in_turn (shown old))) ≡ weight (plain (in_turn (left_of new))) + weight (plain new.leaving)
weight_turn old new d e same =
    let parts = whole_weight old new d e same in
    let were = weight_swap old.ahead (old.leaving ++ old.passed) in
    let are = weight_swap new.ahead new.passed in
    omega arith
