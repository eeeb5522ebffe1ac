-- SIEVE keeps the entries, but for those that go.
use Rattle.std.specs.List.{IsDistinct}
use Rattle.pcache_policies.specs.Queue.{IsOnce, used}
use Rattle.pcache_policies.specs.Sieve.{Sieve, whole, entries, MakesRoom, rests, clears, goes, turned, entered, reseen_in, sieve_way}
use Rattle.pcache_policies.proofs.Words.{◌≡◌, ℕ, true, false, cond, Some, is_some, List, [], ◌∷◌, ◌++◌, refl, ap, sym, subst, ◌∙◌, nat_eq, inl, append_assoc, append-nil, ◌⊎◌, keys_of, sum_by-cons, CacheEntryKey, entry_eq, Limits, Recency, weight, map_of, Seen, HasRoom, Coming, Run, Lawful, Queue, plain, seen_of, unused, sieve, turns}
use Rattle.std.specs.FinMap as fin
use Rattle.pcache_policies.proofs.Queues.{once-reseen}
use Rattle.pcache_policies.proofs.Rings.{reseen-append, rest-append}
use Rattle.pcache_policies.proofs.Runs.{Runs, drops, over_whole, split_first, keys_forgot, plain_at}
use Rattle.pcache_policies.proofs.Seens.{map-reseen, map-noted}

runs : (limits : Limits) (coming : Queue) (size count : ℕ) → Coming (plain coming) size count → (s t : Sieve) (out rest : List CacheEntryKey) (left : Recency)
    → MakesRoom limits size count s out t → IsOnce (coming ++ whole s) → (IsOnce (coming ++ whole t) → Runs limits rest (coming ++ whole t) left) → Runs limits (out ++ rest) (coming ++ whole s) left
runs limits coming size count c s t out rest left (rests s2 h) once run = run once
runs limits coming size count c s t out rest left (clears s2 m t2 k v out2 over a set p more) once run =
    let here = split_first coming m.ahead s.ahead s.passed (k, v) a in
    let there : coming ++ whole m ≡ (coming ++ m.ahead) ++ (k, unused v.weight) ∷ s.passed = ap (λ p. coming ++ (m.ahead ++ p)) p ∙ sym (append_assoc coming m.ahead ((k, unused v.weight) ∷ s.passed)) in
    let names : keys_of (coming ++ whole s) ≡ keys_of (coming ++ whole m) = ap (λ (q : Queue). keys_of q) here ∙ keys_forgot (coming ++ m.ahead) s.passed k (unused v.weight) v ∙ ap (λ (q : Queue). keys_of q) (sym there) in
    let same : plain (coming ++ whole m) ≡ plain (coming ++ whole s) = ap plain there ∙ plain_at (coming ++ m.ahead) s.passed k (unused v.weight) ∙ sym (ap plain here ∙ plain_at (coming ++ m.ahead) s.passed k v) in
    subst (λ l. Run limits (out ++ rest) l left) same (runs limits coming size count c m t out rest left more (subst (IsDistinct entry_eq) names once) run)
runs limits coming size count c s t out rest left (goes s2 m t2 k v out2 over a idle p more) once run =
    let join : coming ++ whole m ≡ (coming ++ m.ahead) ++ s.passed = ap (λ p. coming ++ (m.ahead ++ p)) p ∙ sym (append_assoc coming m.ahead s.passed) in
    drops limits (out2 ++ rest) (coming ++ whole s) (coming ++ m.ahead) s.passed k v left once (over_whole limits coming (whole s) size count c over) (split_first coming m.ahead s.ahead s.passed (k, v) a)
    (λ apart. subst (λ q. Runs limits (out2 ++ rest) q left) join (runs limits coming size count c m t out2 rest left more (subst IsOnce (sym join) apart) run))
runs limits coming size count c s t out rest left (turns s2 t2 out2 over a more) once run =
    let same : coming ++ whole (sieve s.passed []) ≡ coming ++ whole s = ap (λ q. coming ++ q) (append-nil s.passed ∙ ap (λ q. q ++ s.passed) (sym a)) in
    subst (λ q. Runs limits (out ++ rest) q left) same (runs limits coming size count c (sieve s.passed []) t out rest left more (subst IsOnce (sym same) once) run)

-- it ends when there is room, or nothing is left
ended : (limits : Limits) (size count : ℕ) (s t : Sieve) (out : List CacheEntryKey) → MakesRoom limits size count s out t → HasRoom limits size count (entries t) ⊎ (whole t ≡ [])
ended limits size count s t out (rests s2 h) = h
ended limits size count s t out (clears s2 m t2 k v out2 over a used p more) = ended limits size count m t out2 more
ended limits size count s t out (goes s2 m t2 k v out2 over a idle p more) = ended limits size count m t out2 more
ended limits size count s t out (turns s2 t2 out2 over a more) = ended limits size count (sieve s.passed []) t out2 more

-- a new entry comes before the others
entries-entered : (k : CacheEntryKey) (n : ℕ) (s : Sieve) → entries (entered k n s) ≡ (k, n) ∷ entries s
entries-entered k n s = ap (λ l. (k, n) ∷ l) (facing s.ahead s.passed)
  where
    facing : (a p : Queue) → plain ((turned a p).ahead ++ (turned a p).passed) ≡ plain (a ++ p)
    facing [] p = ap plain (append-nil p)
    facing (e ∷ a) p = refl

map-set : (k : CacheEntryKey) (v : Seen) (s : Sieve) → is_some (seen_of k (whole s)) ≡ true → map_of (entries (reseen_in k v s)) ≡ fin.insert (map_of (entries s)) k v.weight
map-set k v s there = ap (λ q. map_of (plain q)) (sym (reseen-append k v s.ahead s.passed)) ∙ map-reseen k v (whole s) there

-- a use leaves the map
map-used : (k : CacheEntryKey) (v : Seen) (s : Sieve) → seen_of k (whole s) ≡ Some v → map_of (entries (cond (nat_eq v.uses 0) (reseen_in k (used v.weight) s) s)) ≡ map_of (entries s)
map-used k v s is =
    elim (nat_eq v.uses 0) as (λ b. map_of (entries (cond b (reseen_in k (used v.weight) s) s)) ≡ map_of (entries s)) [
      | true ↦ ap (λ q. map_of (plain q)) (sym (reseen-append k (used v.weight) s.ahead s.passed)) ∙ map-noted k v (used v.weight) (whole s) is refl
      | false ↦ refl
    ]

pub sieve_laws : Lawful sieve_way
sieve_laws = record {
  runs = runs;
  ended = ended;
  rests = λ limits size count s h. rests s (inl h);
  entered = λ known k n s none. ap map_of (entries-entered k n s);
  heavier = λ known k n s. ap weight (entries-entered k n s) ∙ sum_by-cons (λ (e : CacheEntryKey × ℕ). e.1) (k, n) (entries s);
  used = λ k v s once is. map-used k v s is;
  readmitted = λ k v n s once is. map-set k (used n) s (ap is_some is);
  once = λ k v n s once. subst IsOnce (reseen-append k (used n) s.ahead s.passed) (once-reseen k (used n) (whole s) once);
  reseen = λ k v s. sym (reseen-append k v s.ahead s.passed);
  rest = λ k s. sym (rest-append k s.ahead s.passed);
}
