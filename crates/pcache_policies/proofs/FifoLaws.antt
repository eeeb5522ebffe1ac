-- S3-FIFO keeps the entries, but for those that go.
use Rattle.std.specs.List.{IsDistinct}
use Rattle.pcache_policies.specs.Queue.{IsOnce, reused}
use Rattle.pcache_policies.specs.S3Fifo.{whole, entries, MakesRoom, rests, moves, leaves, returns, goes, entered, reseen_in, s3_fifo_way}
use Rattle.pcache_policies.proofs.Words.{◌≡◌, ℕ, ◌+◌, true, false, cond, Some, is_some, List, [], ◌∷◌, ◌++◌, refl, ap, sym, subst, ◌∙◌, arith, nat_eq, inl, append_assoc, append-nil, length, ◌⊎◌, keys_of, sum_by-cons, sum_by-append, CacheEntryKey, entry_eq, Limits, Recency, weight, map_of, Seen, HasRoom, Coming, Run, Lawful, Queue, plain, seen_of, unused, spent, Fifos, fifos, is_ghost, forgotten, ghosted}
use Rattle.std.specs.FinMap as fin
use Rattle.pcache_policies.proofs.Queues.{plain-append, once-plain, once-reseen}
use Rattle.pcache_policies.proofs.Rings.{Apart, apart_none, apart_front, map-mid, reseen-append, rest-append, again}
use Rattle.pcache_policies.proofs.Leavings.{run-same}
use Rattle.pcache_policies.proofs.Runs.{Runs, drops, over_whole, split_first, split_second, keys_forgot, plain_at}
use Rattle.pcache_policies.proofs.Seens.{map-reseen, map-noted}

runs : (limits : Limits) (coming : Queue) (size count : ℕ) → Coming (plain coming) size count → (f t : Fifos) (out rest : List CacheEntryKey) (left : Recency)
    → MakesRoom limits size count f out t → IsOnce (coming ++ whole f) → (IsOnce (coming ++ whole t) → Runs limits rest (coming ++ whole t) left) → Runs limits (out ++ rest) (coming ++ whole f) left
runs limits coming size count c f t out rest left (rests f2 h) once run = run once
runs limits coming size count c f t out rest left (moves f2 t2 s k v out2 over next is used more) once run =
    let here = split_first coming s f.small f.main (k, v) is in
    let there : coming ++ (s ++ (k, unused v.weight) ∷ f.main) ≡ (coming ++ s) ++ (k, unused v.weight) ∷ f.main = sym (append_assoc coming s ((k, unused v.weight) ∷ f.main)) in
    let names : keys_of (coming ++ whole f) ≡ keys_of (coming ++ (s ++ (k, unused v.weight) ∷ f.main)) = ap (λ (q : Queue). keys_of q) here ∙ keys_forgot (coming ++ s) f.main k (unused v.weight) v ∙ ap (λ (q : Queue). keys_of q) (sym there) in
    let same : plain (coming ++ (s ++ (k, unused v.weight) ∷ f.main)) ≡ plain (coming ++ whole f) = ap plain there ∙ plain_at (coming ++ s) f.main k (unused v.weight) ∙ sym (ap plain here ∙ plain_at (coming ++ s) f.main k v) in
    subst (λ l. Run limits (out ++ rest) l left) same
    (runs limits coming size count c (fifos s ((k, unused v.weight) ∷ f.main) f.ghosts) t out rest left more (subst (IsDistinct entry_eq) names once) run)
runs limits coming size count c f t out rest left (leaves f2 t2 s k v out2 over next is few more) once run =
    drops limits (out2 ++ rest) (coming ++ whole f) (coming ++ s) f.main k v left once (over_whole limits coming (whole f) size count c over) (split_first coming s f.small f.main (k, v) is)
    (λ apart. subst (λ q. Runs limits (out2 ++ rest) q left) (sym (append_assoc coming s f.main))
    (runs limits coming size count c (fifos s f.main (ghosted k (length (whole f)) f.ghosts)) t out2 rest left more (subst IsOnce (append_assoc coming s f.main) apart) run))
runs limits coming size count c f t out rest left (returns f2 t2 m k v out2 over next is used more) once run =
    let (apart, same) = again coming f.small f.main m (k, v) (spent v) once is refl in
    run-same limits (out ++ rest) (plain (coming ++ whole f)) (plain (coming ++ (f.small ++ (k, spent v) ∷ m))) left (once-plain _ once) (once-plain _ apart) same
    (runs limits coming size count c (fifos f.small ((k, spent v) ∷ m) f.ghosts) t out rest left more apart run)
runs limits coming size count c f t out rest left (goes f2 t2 m k v out2 over next is idle more) once run =
    let end = append-nil (coming ++ (f.small ++ m)) in
    drops limits (out2 ++ rest) (coming ++ whole f) (coming ++ (f.small ++ m)) [] k v left once (over_whole limits coming (whole f) size count c over) (split_second coming f.small f.main m (k, v) is)
    (λ apart. subst (λ q. Runs limits (out2 ++ rest) q left) (sym end)
    (runs limits coming size count c (fifos f.small m f.ghosts) t out2 rest left more (subst IsOnce end apart) run))

-- it ends when there is room, or nothing is left
ended : (limits : Limits) (size count : ℕ) (f t : Fifos) (out : List CacheEntryKey) → MakesRoom limits size count f out t → HasRoom limits size count (entries t) ⊎ (whole t ≡ [])
ended limits size count f t out (rests f2 h) = h
ended limits size count f t out (moves f2 t2 s k v out2 over next is used more) = ended limits size count _ t out2 more
ended limits size count f t out (leaves f2 t2 s k v out2 over next is few more) = ended limits size count _ t out2 more
ended limits size count f t out (returns f2 t2 m k v out2 over next is used more) = ended limits size count _ t out2 more
ended limits size count f t out (goes f2 t2 m k v out2 over next is idle more) = ended limits size count _ t out2 more

-- a new entry is among the others
weight-entered : (k : CacheEntryKey) (n : ℕ) (f : Fifos) → weight (entries (entered k n f)) ≡ n + weight (entries f)
weight-entered k n f =
    let w : CacheEntryKey × ℕ → ℕ = λ e. e.1 in
    elim (is_ghost k f.ghosts) as (λ b. weight (entries (cond b (fifos f.small ((k, unused n) ∷ f.main) (forgotten k f.ghosts)) (fifos ((k, unused n) ∷ f.small) f.main f.ghosts))) ≡ n + weight (entries f)) [
      | true ↦
          let first : weight (plain (f.small ++ (k, unused n) ∷ f.main)) ≡ weight (plain f.small ++ plain ((k, unused n) ∷ f.main)) = ap weight (plain-append f.small ((k, unused n) ∷ f.main)) in
          let parts = sum_by-append w (plain f.small) (plain ((k, unused n) ∷ f.main)) in
          let one : weight (plain ((k, unused n) ∷ f.main)) ≡ n + weight (plain f.main) = sum_by-cons w (k, n) (plain f.main) in
          let second : weight (plain (f.small ++ f.main)) ≡ weight (plain f.small ++ plain f.main) = ap weight (plain-append f.small f.main) in
          let others = sum_by-append w (plain f.small) (plain f.main) in
          omega arith
      | false ↦ sum_by-cons w (k, n) (entries f)
    ]

map-entered : (k : CacheEntryKey) (n : ℕ) (f : Fifos) → Apart k (whole f) → map_of (entries (entered k n f)) ≡ map_of ((k, n) ∷ entries f)
map-entered k n f a =
    elim (is_ghost k f.ghosts) as (λ b. map_of (entries (cond b (fifos f.small ((k, unused n) ∷ f.main) (forgotten k f.ghosts)) (fifos ((k, unused n) ∷ f.small) f.main f.ghosts))) ≡ map_of ((k, n) ∷ entries f)) [
      | true ↦ map-mid k (unused n) f.small f.main (apart_front k f.small f.main a)
      | false ↦ refl
    ]

pub entered-ghost : (k : CacheEntryKey) (n : ℕ) (f : Fifos) → is_ghost k f.ghosts ≡ true → entered k n f ≡ fifos f.small ((k, unused n) ∷ f.main) (forgotten k f.ghosts)
entered-ghost k n f h = ap (λ b. cond b (fifos f.small ((k, unused n) ∷ f.main) (forgotten k f.ghosts)) (fifos ((k, unused n) ∷ f.small) f.main f.ghosts)) h

pub entered-new : (k : CacheEntryKey) (n : ℕ) (f : Fifos) → is_ghost k f.ghosts ≡ false → entered k n f ≡ fifos ((k, unused n) ∷ f.small) f.main f.ghosts
entered-new k n f h = ap (λ b. cond b (fifos f.small ((k, unused n) ∷ f.main) (forgotten k f.ghosts)) (fifos ((k, unused n) ∷ f.small) f.main f.ghosts)) h

map-set : (k : CacheEntryKey) (v : Seen) (f : Fifos) → is_some (seen_of k (whole f)) ≡ true → map_of (entries (reseen_in k v f)) ≡ fin.insert (map_of (entries f)) k v.weight
map-set k v f there = ap (λ q. map_of (plain q)) (sym (reseen-append k v f.small f.main)) ∙ map-reseen k v (whole f) there

-- a use leaves the map
map-used : (k : CacheEntryKey) (v : Seen) (f : Fifos) → seen_of k (whole f) ≡ Some v → map_of (entries (cond (nat_eq v.uses 3) f (reseen_in k (reused v) f))) ≡ map_of (entries f)
map-used k v f is =
    elim (nat_eq v.uses 3) as (λ b. map_of (entries (cond b f (reseen_in k (reused v) f))) ≡ map_of (entries f)) [
      | true ↦ refl
      | false ↦ ap (λ q. map_of (plain q)) (sym (reseen-append k (reused v) f.small f.main)) ∙ map-noted k v (reused v) (whole f) is refl
    ]

pub s3_fifo_laws : Lawful s3_fifo_way
s3_fifo_laws = record {
  runs = runs;
  ended = ended;
  rests = λ limits size count f h. rests f (inl h);
  entered = λ known k n f none. map-entered k n f (apart_none k (whole f) none);
  heavier = λ known k n f. weight-entered k n f;
  used = λ k v f once is. map-used k v f is;
  readmitted = λ k v n f once is. map-set k (record (reused v) { weight = n }) f (ap is_some is);
  once = λ k v n f once. subst IsOnce (reseen-append k (record (reused v) { weight = n }) f.small f.main) (once-reseen k (record (reused v) { weight = n }) (whole f) once);
  reseen = λ k v f. sym (reseen-append k v f.small f.main);
  rest = λ k f. sym (rest-append k f.small f.main);
}
