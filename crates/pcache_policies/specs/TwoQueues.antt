-- 2Q, the full version: a queue for new entries, a main queue in the order of uses for those that came in again soon, and
-- ghosts, which are the keys of entries that went from the first (Johnson, Shasha, VLDB 1994: A1in, Am and A1out).
use Rattle.std.specs.Prelude.{◌≡◌, ℕ, ◌*◌, ◌/◌, ◌<◌, ◌≤◌, ◌⊎◌, Bool, is_some, List, [], ◌∷◌, ◌++◌, length, take, if◌then◌else◌}
use Rattle.pcache_evict.specs.declared.eviction.entry_key.CacheEntryKey.{CacheEntryKey}
use Rattle.pcache_evict.specs.declared.eviction.policy.EvictionPolicy.TheVariants as named
use Rattle.pcache_evict.specs.Tracked.{Limits}
use Rattle.pcache_evict.specs.Recency.{Recency, weight}
use Rattle.pcache_evict.specs.Policy.{Policy, Shown}
use Rattle.pcache_policies.specs.declared.queue.Seen.{Seen}
use Rattle.pcache_policies.specs.Queue.{Queue, plain, rest_of, reseen, seen_of, unused, queue_shown}
use Rattle.pcache_policies.specs.Leaving.{HasRoom}
use Rattle.pcache_policies.specs.Managed.{Way, policy_of}
use Rattle.pcache_policies.specs.S3Fifo.{Ghosts, ghosts_shown, is_ghost, forgotten}

-- the main queue (Am), the queue of new entries (A1in), and the ghosts (A1out), each the newest first
pub record TwoQueues : Type 0 where
  pub main : Queue
  pub incoming : Queue
  pub ghosts : Ghosts

abbrev pub queues : Queue → Queue → Ghosts → TwoQueues
queues m i g = record { main = m; incoming = i; ghosts = g }

-- the entries of both queues
abbrev pub whole : TwoQueues → Queue
whole q = q.main ++ q.incoming

-- the same with their weights alone
abbrev pub entries : TwoQueues → Recency
entries q = plain (whole q)

-- a key becomes the newest ghost; the oldest ghosts go if there are more than half the number of entries (Kout)
abbrev pub remembered : CacheEntryKey → ℕ → Ghosts → Ghosts
remembered k n g = take (n / 2) (k ∷ forgotten k g)

-- the oldest new entry is next if the new ones weigh more than a quarter of the limit (Kin), or the main queue is empty
abbrev pub IsIncomingNext : ℕ → TwoQueues → Type 0
IsIncomingNext limit q = (q.main ≡ []) ⊎ (limit < 4 * weight (plain q.incoming))

-- the oldest of the main queue is next otherwise
abbrev pub IsMainNext : ℕ → TwoQueues → Type 0
IsMainNext limit q = (q.incoming ≡ []) ⊎ (4 * weight (plain q.incoming) ≤ limit)

-- room is made for `count` entries of this total weight: while there is none, the next entry goes. A new one leaves its ghost,
-- one of the main queue does not.
pub data MakesRoom (limits : Limits) (size count : ℕ) : TwoQueues → List CacheEntryKey → TwoQueues → Type 0 where
  rests : (q : TwoQueues) → HasRoom limits size count (entries q) ⊎ (whole q ≡ []) → MakesRoom limits size count q [] q
  leaves : (q t : TwoQueues) (i : Queue) (k : CacheEntryKey) (v : Seen) (out : List CacheEntryKey) → ¬ HasRoom limits size count (entries q) → IsIncomingNext limits.weight q
      → q.incoming ≡ i ++ (k, v) ∷ [] → MakesRoom limits size count (queues q.main i (remembered k (length (whole q)) q.ghosts)) out t → MakesRoom limits size count q (k ∷ out) t
  goes : (q t : TwoQueues) (m : Queue) (k : CacheEntryKey) (v : Seen) (out : List CacheEntryKey) → ¬ HasRoom limits size count (entries q) → IsMainNext limits.weight q
      → q.main ≡ m ++ (k, v) ∷ [] → MakesRoom limits size count (queues m q.incoming q.ghosts) out t → MakesRoom limits size count q (k ∷ out) t

-- an entry that comes in again is added to the main queue, and its ghost goes; a new one is added to the new ones
abbrev pub entered : Bool → CacheEntryKey → ℕ → TwoQueues → TwoQueues
entered again k n q = if again then queues ((k, unused n) ∷ q.main) q.incoming (forgotten k q.ghosts) else queues q.main ((k, unused n) ∷ q.incoming) q.ghosts

-- the queues with this record of an entry, wherever it is; and the queues without an entry
abbrev pub reseen_in : CacheEntryKey → Seen → TwoQueues → TwoQueues
reseen_in k v q = queues (reseen k v q.main) (reseen k v q.incoming) q.ghosts

abbrev pub rest_in : CacheEntryKey → TwoQueues → TwoQueues
rest_in k q = queues (rest_of k q.main) (rest_of k q.incoming) q.ghosts

-- an entry is used, and has this record then: one of the main queue becomes its newest, a new one stays where it is
abbrev pub touched : CacheEntryKey → Seen → TwoQueues → TwoQueues
touched k v q = if is_some (seen_of k q.main) then queues ((k, v) ∷ rest_of k q.main) q.incoming q.ghosts else queues q.main (reseen k v q.incoming) q.ghosts

-- the order as a manager shows it
abbrev pub two_queues_shown : TwoQueues → Shown
two_queues_shown q = queue_shown q.main ∷ queue_shown q.incoming ∷ ghosts_shown q.ghosts ∷ []

-- 2Q as the way of a queue: whether an entry comes in again is decided before room is made. One that is admitted again gets its
-- weight, which is a use
abbrev pub two_queues_way : Way TwoQueues
two_queues_way = record {
  policy = named.TwoQueues;
  whole = whole;
  none = queues [] [] [];
  shown = two_queues_shown;
  MakesRoom = λ limits size count q out t. MakesRoom limits size count q out t;
  is_known = λ k q. is_ghost k q.ghosts;
  entered = entered;
  used = touched;
  readmitted = λ k v n q. touched k (record v { weight = n }) q;
  reseen_in = reseen_in;
  rest_in = rest_in;
}

-- 2Q as a policy
abbrev pub two_queues_policy : Policy TwoQueues
two_queues_policy = policy_of two_queues_way
