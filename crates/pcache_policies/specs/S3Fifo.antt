-- S3-FIFO: a small queue for new entries, a main queue for those that were used there or come in again soon, and ghosts,
-- which are the keys of entries evicted from the small one (Yang, Zhang, Qiu, Yue, Vigfusson, SOSP 2023).
use Rattle.std.specs.Prelude.{◌≡◌, ℕ, ◌-◌, ◌*◌, ◌/◌, ◌<◌, ◌≤◌, ◌⊎◌, ◌==◌, Bool, false, not, List, [], ◌∷◌, ◌++◌, length, take, if◌then◌else◌, map}
use Rattle.std.specs.List.{list_any, filter}
use Rattle.pcache_evict.specs.declared.eviction.entry_key.CacheEntryKey.{CacheEntryKey}
use Rattle.pcache_evict.specs.declared.eviction.policy.EvictionPolicy.TheVariants as named
use Rattle.pcache_evict.specs.Entry.{entry_eq}
use Rattle.pcache_evict.specs.Tracked.{Limits}
use Rattle.pcache_evict.specs.Recency.{Recency, weight}
use Rattle.pcache_evict.specs.Policy.{Policy, Shown}
use Rattle.pcache_policies.specs.declared.queue.Seen.{Seen}
use Rattle.pcache_policies.specs.Queue.{Queue, plain, rest_of, reseen, unused, reused, spent, queue_shown}
use Rattle.pcache_policies.specs.Leaving.{HasRoom}
use Rattle.pcache_policies.specs.Managed.{Way, policy_of}

-- keys, the newest first
abbrev pub Ghosts : Type 0
Ghosts = List CacheEntryKey

-- two queues and the ghosts, each the newest first
pub record Fifos : Type 0 where
  pub small : Queue
  pub main : Queue
  pub ghosts : Ghosts

abbrev pub fifos : Queue → Queue → Ghosts → Fifos
fifos s m g = record { small = s; main = m; ghosts = g }

-- the entries of both queues
abbrev pub whole : Fifos → Queue
whole f = f.small ++ f.main

-- the same with their weights alone
abbrev pub entries : Fifos → Recency
entries f = plain (whole f)

-- a key is among the ghosts, and the ghosts without it
abbrev pub is_ghost : CacheEntryKey → Ghosts → Bool
is_ghost k g = list_any (entry_eq k) g

abbrev pub forgotten : CacheEntryKey → Ghosts → Ghosts
forgotten k g = filter (λ j. not (entry_eq k j)) g

-- a key becomes the newest ghost; the oldest ghosts go if there are more than nine tenths of the number of entries
abbrev pub ghosted : CacheEntryKey → ℕ → Ghosts → Ghosts
ghosted k n g = take (n - n / 10) (k ∷ forgotten k g)

-- the oldest of the small queue is next if that queue weighs its share, a tenth of the limit, or the main queue is
-- empty
abbrev pub IsSmallNext : ℕ → Fifos → Type 0
IsSmallNext limit f = (f.main ≡ []) ⊎ (limit ≤ 10 * weight (plain f.small))

-- the oldest of the main queue is next otherwise
abbrev pub IsMainNext : ℕ → Fifos → Type 0
IsMainNext limit f = (f.small ≡ []) ⊎ (10 * weight (plain f.small) < limit)

-- room is made for `count` entries of this total weight: while there is none, the next entry is looked at. One of the
-- small queue that was used more than once moves to the main one, its uses forgotten; another goes and leaves its ghost.
-- One of the main queue that was used becomes its newest, with one use less; another goes.
pub data MakesRoom (limits : Limits) (size count : ℕ) : Fifos → List CacheEntryKey → Fifos → Type 0 where
  rests : (f : Fifos) → HasRoom limits size count (entries f) ⊎ (whole f ≡ []) → MakesRoom limits size count f [] f
  moves : (f t : Fifos) (s : Queue) (k : CacheEntryKey) (v : Seen) (out : List CacheEntryKey) → ¬ HasRoom limits size count (entries f) → IsSmallNext limits.weight f
      → f.small ≡ s ++ (k, v) ∷ [] → 1 < v.uses → MakesRoom limits size count (fifos s ((k, unused v.weight) ∷ f.main) f.ghosts) out t → MakesRoom limits size count f out t
  leaves : (f t : Fifos) (s : Queue) (k : CacheEntryKey) (v : Seen) (out : List CacheEntryKey) → ¬ HasRoom limits size count (entries f) → IsSmallNext limits.weight f
      → f.small ≡ s ++ (k, v) ∷ [] → v.uses ≤ 1 → MakesRoom limits size count (fifos s f.main (ghosted k (length (whole f)) f.ghosts)) out t → MakesRoom limits size count f (k ∷ out) t
  returns : (f t : Fifos) (m : Queue) (k : CacheEntryKey) (v : Seen) (out : List CacheEntryKey) → ¬ HasRoom limits size count (entries f) → IsMainNext limits.weight f
      → f.main ≡ m ++ (k, v) ∷ [] → 0 < v.uses → MakesRoom limits size count (fifos f.small ((k, spent v) ∷ m) f.ghosts) out t → MakesRoom limits size count f out t
  goes : (f t : Fifos) (m : Queue) (k : CacheEntryKey) (v : Seen) (out : List CacheEntryKey) → ¬ HasRoom limits size count (entries f) → IsMainNext limits.weight f
      → f.main ≡ m ++ (k, v) ∷ [] → v.uses ≡ 0 → MakesRoom limits size count (fifos f.small m f.ghosts) out t → MakesRoom limits size count f (k ∷ out) t

-- a new entry, not used yet, is added to the main queue if its key is a ghost, which then goes, and otherwise to the
-- small one
abbrev pub entered : CacheEntryKey → ℕ → Fifos → Fifos
entered k n f = if is_ghost k f.ghosts then fifos f.small ((k, unused n) ∷ f.main) (forgotten k f.ghosts) else fifos ((k, unused n) ∷ f.small) f.main f.ghosts

-- the queues with this record of an entry, wherever it is; and the queues without an entry
abbrev pub reseen_in : CacheEntryKey → Seen → Fifos → Fifos
reseen_in k v f = fifos (reseen k v f.small) (reseen k v f.main) f.ghosts

abbrev pub rest_in : CacheEntryKey → Fifos → Fifos
rest_in k f = fifos (rest_of k f.small) (rest_of k f.main) f.ghosts

-- a use is counted, in place
abbrev pub noted : CacheEntryKey → Seen → Fifos → Fifos
noted k v f = if v.uses == 3 then f else reseen_in k (reused v) f

-- ghosts as a manager shows them
abbrev pub ghosts_shown : Ghosts → List (CacheEntryKey × ℕ × ℕ)
ghosts_shown g = map (λ (k : CacheEntryKey). (k, 0, 0)) g

-- the order as a manager shows it
abbrev pub fifos_shown : Fifos → Shown
fifos_shown f = queue_shown f.small ∷ queue_shown f.main ∷ ghosts_shown f.ghosts ∷ []

-- S3-FIFO as the way of a queue: ghosts are looked for when an entry comes in, after room was made. An entry that is admitted again
-- gets its weight in place, which is a use
abbrev pub s3_fifo_way : Way Fifos
s3_fifo_way = record {
  policy = named.S3Fifo;
  whole = whole;
  none = fifos [] [] [];
  shown = fifos_shown;
  MakesRoom = λ limits size count f out t. MakesRoom limits size count f out t;
  is_known = λ k f. false;
  entered = λ known k n f. entered k n f;
  used = noted;
  readmitted = λ k v n f. reseen_in k (record (reused v) { weight = n }) f;
  reseen_in = reseen_in;
  rest_in = rest_in;
}

-- S3-FIFO as a policy
abbrev pub s3_fifo_policy : Policy Fifos
s3_fifo_policy = policy_of s3_fifo_way
