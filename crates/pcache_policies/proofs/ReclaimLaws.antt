-- 2Q keeps the entries, but for those that go.
use Rattle.pcache_policies.specs.Queue.{IsOnce}
use Rattle.pcache_policies.specs.TwoQueues.{TwoQueues, whole, entries, MakesRoom, rests, leaves, goes, entered, touched, two_queues_way}
use Rattle.pcache_policies.proofs.Words.{◌≡◌, ℕ, ◌+◌, Bool, true, false, cond, Some, is_some, List, [], ◌∷◌, ◌++◌, refl, ap, sym, subst, ◌∙◌, arith, inl, append_assoc, append-nil, length, ◌⊎◌, sum_by-cons, sum_by-append, CacheEntryKey, Limits, Recency, weight, map_of, Seen, HasRoom, Coming, Lawful, Queue, plain, seen_of, rest_of, reseen, unused, queues, remembered}
use Rattle.std.specs.FinMap as fin
use Rattle.pcache_policies.proofs.Queues.{plain-append, once-reseen, reseen-none}
use Rattle.pcache_policies.proofs.Renewed.{once_renewed, map-renewed}
use Rattle.pcache_policies.proofs.Rings.{Apart, apart_none, apart_front, map-mid, reseen-append, rest-append}
use Rattle.pcache_policies.proofs.Runs.{Runs, drops, over_whole, split_first, split_second}
use Rattle.pcache_policies.proofs.Seens.{none_some, map-reseen, put_back, got}

runs : (limits : Limits) (coming : Queue) (size count : ℕ) → Coming (plain coming) size count → (q t : TwoQueues) (out rest : List CacheEntryKey) (left : Recency)
    → MakesRoom limits size count q out t → IsOnce (coming ++ whole q) → (IsOnce (coming ++ whole t) → Runs limits rest (coming ++ whole t) left) → Runs limits (out ++ rest) (coming ++ whole q) left
runs limits coming size count c q t out rest left (rests q2 h) once run = run once
runs limits coming size count c q t out rest left (leaves q2 t2 i k v out2 over next is more) once run =
    let end = append-nil (coming ++ (q.main ++ i)) in
    drops limits (out2 ++ rest) (coming ++ whole q) (coming ++ (q.main ++ i)) [] k v left once (over_whole limits coming (whole q) size count c over) (split_second coming q.main q.incoming i (k, v) is)
    (λ apart. subst (λ r. Runs limits (out2 ++ rest) r left) (sym end)
    (runs limits coming size count c (queues q.main i (remembered k (length (whole q)) q.ghosts)) t out2 rest left more (subst IsOnce end apart) run))
runs limits coming size count c q t out rest left (goes q2 t2 m k v out2 over next is more) once run =
    drops limits (out2 ++ rest) (coming ++ whole q) (coming ++ m) q.incoming k v left once (over_whole limits coming (whole q) size count c over) (split_first coming m q.main q.incoming (k, v) is)
    (λ apart. subst (λ r. Runs limits (out2 ++ rest) r left) (sym (append_assoc coming m q.incoming))
    (runs limits coming size count c (queues m q.incoming q.ghosts) t out2 rest left more (subst IsOnce (append_assoc coming m q.incoming) apart) run))

-- it ends when there is room, or nothing is left
ended : (limits : Limits) (size count : ℕ) (q t : TwoQueues) (out : List CacheEntryKey) → MakesRoom limits size count q out t → HasRoom limits size count (entries t) ⊎ (whole t ≡ [])
ended limits size count q t out (rests q2 h) = h
ended limits size count q t out (leaves q2 t2 i k v out2 over next is more) = ended limits size count _ t out2 more
ended limits size count q t out (goes q2 t2 m k v out2 over next is more) = ended limits size count _ t out2 more

-- an entry that comes in is among the others
weight-entered : (again : Bool) (k : CacheEntryKey) (n : ℕ) (q : TwoQueues) → weight (entries (entered again k n q)) ≡ n + weight (entries q)
weight-entered true k n q = sum_by-cons (λ (e : CacheEntryKey × ℕ). e.1) (k, n) (entries q)
weight-entered false k n q =
    let w : CacheEntryKey × ℕ → ℕ = λ e. e.1 in
    let first : weight (plain (q.main ++ (k, unused n) ∷ q.incoming)) ≡ weight (plain q.main ++ plain ((k, unused n) ∷ q.incoming)) = ap weight (plain-append q.main ((k, unused n) ∷ q.incoming)) in
    let parts = sum_by-append w (plain q.main) (plain ((k, unused n) ∷ q.incoming)) in
    let one : weight (plain ((k, unused n) ∷ q.incoming)) ≡ n + weight (plain q.incoming) = sum_by-cons w (k, n) (plain q.incoming) in
    let second : weight (plain (q.main ++ q.incoming)) ≡ weight (plain q.main ++ plain q.incoming) = ap weight (plain-append q.main q.incoming) in
    let others = sum_by-append w (plain q.main) (plain q.incoming) in
    omega arith

map-entered : (again : Bool) (k : CacheEntryKey) (n : ℕ) (q : TwoQueues) → Apart k (whole q) → map_of (entries (entered again k n q)) ≡ map_of ((k, n) ∷ entries q)
map-entered true k n q a = refl
map-entered false k n q a = map-mid k (unused n) q.main q.incoming (apart_front k q.main q.incoming a)

-- an entry that is used is there with its record
pub touched-main : (k : CacheEntryKey) (v : Seen) (q : TwoQueues) → is_some (seen_of k q.main) ≡ true → touched k v q ≡ queues ((k, v) ∷ rest_of k q.main) q.incoming q.ghosts
touched-main k v q h = ap (λ b. cond b (queues ((k, v) ∷ rest_of k q.main) q.incoming q.ghosts) (queues q.main (reseen k v q.incoming) q.ghosts)) h

pub touched-incoming : (k : CacheEntryKey) (v : Seen) (q : TwoQueues) → is_some (seen_of k q.main) ≡ false → touched k v q ≡ queues q.main (reseen k v q.incoming) q.ghosts
touched-incoming k v q h = ap (λ b. cond b (queues ((k, v) ∷ rest_of k q.main) q.incoming q.ghosts) (queues q.main (reseen k v q.incoming) q.ghosts)) h

whole-incoming : (k : CacheEntryKey) (v : Seen) (q : TwoQueues) → is_some (seen_of k q.main) ≡ false → q.main ++ reseen k v q.incoming ≡ reseen k v (whole q)
whole-incoming k v q h = ap (λ m. m ++ reseen k v q.incoming) (sym (reseen-none k v q.main (none_some (seen_of k q.main) h))) ∙ sym (reseen-append k v q.main q.incoming)

map-touched : (k : CacheEntryKey) (v : Seen) (q : TwoQueues) → IsOnce (whole q) → is_some (seen_of k (whole q)) ≡ true → map_of (entries (touched k v q)) ≡ fin.insert (map_of (entries q)) k v.weight
map-touched k v q once there =
    elim (is_some (seen_of k q.main)) as (λ b. is_some (seen_of k q.main) ≡ b → map_of (entries (cond b (queues ((k, v) ∷ rest_of k q.main) q.incoming q.ghosts) (queues q.main (reseen k v q.incoming) q.ghosts))) ≡ fin.insert (map_of (entries q)) k v.weight) [
      | true ↦ λ h. map-renewed k v q.main q.incoming once h
      | false ↦ λ h. ap (λ q. map_of (plain q)) (whole-incoming k v q h) ∙ map-reseen k v (whole q) there
    ] refl

once-touched : (k : CacheEntryKey) (v : Seen) (q : TwoQueues) → IsOnce (whole q) → IsOnce (whole (touched k v q))
once-touched k v q once =
    elim (is_some (seen_of k q.main)) as (λ b. is_some (seen_of k q.main) ≡ b → IsOnce (whole (cond b (queues ((k, v) ∷ rest_of k q.main) q.incoming q.ghosts) (queues q.main (reseen k v q.incoming) q.ghosts)))) [
      | true ↦ λ h. once_renewed k v q.main q.incoming once h
      | false ↦ λ h. subst IsOnce (sym (whole-incoming k v q h)) (once-reseen k v (whole q) once)
    ] refl

pub two_queues_laws : Lawful two_queues_way
two_queues_laws = record {
  runs = runs;
  ended = ended;
  rests = λ limits size count q h. rests q (inl h);
  entered = λ known k n q none. map-entered known k n q (apart_none k (whole q) none);
  heavier = weight-entered;
  used = λ k v q once is. map-touched k v q once (ap is_some is) ∙ put_back k v.weight (map_of (entries q)) (got k (whole q) (Some v) is);
  readmitted = λ k v n q once is. map-touched k (record v { weight = n }) q once (ap is_some is);
  once = λ k v n q once. once-touched k (record v { weight = n }) q once;
  reseen = λ k v q. sym (reseen-append k v q.main q.incoming);
  rest = λ k q. sym (rest-append k q.main q.incoming);
}
