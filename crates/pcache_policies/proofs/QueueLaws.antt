-- FIFO and CLOCK keep the entries, but for those that go.
use Rattle.pcache_policies.specs.Queue.{IsOnce}
use Rattle.pcache_policies.specs.OneQueue.{MakesRoom, rests, goes, queue_way}
use Rattle.pcache_policies.proofs.Words.{◌≡◌, ℕ, is_some, List, [], ◌∷◌, ◌++◌, refl, ap, sym, subst, ◌∙◌, inl, append_assoc, append-nil, ◌⊎◌, sum_by-cons, CacheEntryKey, EvictionPolicy, Limits, Recency, map_of, Seen, HasRoom, Coming, Lawful, Queue, plain, unused, spares}
use Rattle.std.specs.FinMap as fin
use Rattle.pcache_policies.proofs.Queues.{E, once-plain, once-reseen}
use Rattle.pcache_policies.proofs.Rings.{again}
use Rattle.pcache_policies.proofs.Leavings.{run-same}
use Rattle.pcache_policies.proofs.Runs.{Runs, drops, over_whole}
use Rattle.pcache_policies.proofs.Seens.{map-reseen, map-noted}

last_of : (coming q newer : Queue) (e : E) → q ≡ newer ++ e ∷ [] → coming ++ q ≡ (coming ++ newer) ++ e ∷ []
last_of coming q newer e is = ap (λ q. coming ++ q) is ∙ sym (append_assoc coming newer (e ∷ []))

runs : (limits : Limits) (coming : Queue) (size count : ℕ) → Coming (plain coming) size count → (q t : Queue) (out rest : List CacheEntryKey) (left : Recency)
    → MakesRoom limits size count q out t → IsOnce (coming ++ q) → (IsOnce (coming ++ t) → Runs limits rest (coming ++ t) left) → Runs limits (out ++ rest) (coming ++ q) left
runs limits coming size count c q t out rest left (rests q2 h) once run = run once
runs limits coming size count c q t out rest left (spares q2 newer t2 k v out2 over is used more) once run =
    let (apart, same) = again coming [] q newer (k, v) (unused v.weight) once is refl in
    run-same limits (out ++ rest) (plain (coming ++ q)) (plain (coming ++ (k, unused v.weight) ∷ newer)) left (once-plain _ once) (once-plain _ apart) same
    (runs limits coming size count c ((k, unused v.weight) ∷ newer) t out rest left more apart run)
runs limits coming size count c q t out rest left (goes q2 newer t2 k v out2 over is idle more) once run =
    let end = append-nil (coming ++ newer) in
    drops limits (out2 ++ rest) (coming ++ q) (coming ++ newer) [] k v left once (over_whole limits coming q size count c over) (last_of coming q newer (k, v) is)
    (λ apart. subst (λ q. Runs limits (out2 ++ rest) q left) (sym end)
    (runs limits coming size count c newer t out2 rest left more (subst IsOnce end apart) run))

-- it ends when there is room, or nothing is left
ended : (limits : Limits) (size count : ℕ) (q t : Queue) (out : List CacheEntryKey) → MakesRoom limits size count q out t → HasRoom limits size count (plain t) ⊎ (t ≡ [])
ended limits size count q t out (rests q2 h) = h
ended limits size count q t out (spares q2 newer t2 k v out2 over is used more) = ended limits size count _ t out2 more
ended limits size count q t out (goes q2 newer t2 k v out2 over is idle more) = ended limits size count _ t out2 more

pub queue_laws : (policy : EvictionPolicy) (f : Seen → Seen) → ((v : Seen) → (f v).weight ≡ v.weight) → Lawful (queue_way policy f)
queue_laws policy f weighs = record {
  runs = runs;
  ended = ended;
  rests = λ limits size count q h. rests q (inl h);
  entered = λ known k n q none. refl;
  heavier = λ known k n q. sum_by-cons (λ (e : CacheEntryKey × ℕ). e.1) (k, n) (plain q);
  used = λ k v q once is. map-noted k v (f v) q is (weighs v);
  readmitted = λ k v n q once is. map-reseen k (f (record v { weight = n })) q (ap is_some is) ∙ ap (fin.insert (map_of (plain q)) k) (weighs (record v { weight = n }));
  once = λ k v n q once. once-reseen k (f (record v { weight = n })) q once;
  reseen = λ k v q. refl;
  rest = λ k q. refl;
}
