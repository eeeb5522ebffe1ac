-- FIFO and CLOCK: one queue, whose oldest entry goes while there is no room. In CLOCK an entry that was used has a second
-- chance (Corbató, A paging experiment with the Multics system, 1968); in FIFO a use changes nothing.
use Rattle.std.specs.Prelude.{◌≡◌, ◌≢◌, ℕ, ◌⊎◌, false, List, [], ◌∷◌, ◌++◌}
use Rattle.pcache_evict.specs.declared.eviction.entry_key.CacheEntryKey.{CacheEntryKey}
use Rattle.pcache_evict.specs.declared.eviction.policy.EvictionPolicy.{EvictionPolicy}
use Rattle.pcache_evict.specs.declared.eviction.policy.EvictionPolicy.TheVariants as named
use Rattle.pcache_evict.specs.Tracked.{Limits}
use Rattle.pcache_evict.specs.Policy.{Policy, Shown}
use Rattle.pcache_policies.specs.declared.queue.Seen.{Seen}
use Rattle.pcache_policies.specs.Queue.{Queue, plain, rest_of, reseen, unused, used, queue_shown}
use Rattle.pcache_policies.specs.Leaving.{HasRoom}
use Rattle.pcache_policies.specs.Managed.{Way, policy_of}

-- room is made for `count` entries of this total weight: while there is none, the oldest entry is looked at. If it was used, its bit
-- is cleared, and it becomes the newest; if not, it goes
pub data MakesRoom (limits : Limits) (size count : ℕ) : Queue → List CacheEntryKey → Queue → Type 0 where
  rests : (q : Queue) → HasRoom limits size count (plain q) ⊎ (q ≡ []) → MakesRoom limits size count q [] q
  spares : (q newer t : Queue) (k : CacheEntryKey) (v : Seen) (out : List CacheEntryKey) → ¬ HasRoom limits size count (plain q)
      → q ≡ newer ++ (k, v) ∷ [] → v.uses ≢ 0 → MakesRoom limits size count ((k, unused v.weight) ∷ newer) out t → MakesRoom limits size count q out t
  goes : (q newer t : Queue) (k : CacheEntryKey) (v : Seen) (out : List CacheEntryKey) → ¬ HasRoom limits size count (plain q)
      → q ≡ newer ++ (k, v) ∷ [] → v.uses ≡ 0 → MakesRoom limits size count newer out t → MakesRoom limits size count q (k ∷ out) t

-- a new entry is added as the newest, with its bit clear
abbrev pub entered : CacheEntryKey → ℕ → Queue → Queue
entered k n q = (k, unused n) ∷ q

-- the order as a manager shows it
abbrev pub one_queue_shown : Queue → Shown
one_queue_shown q = queue_shown q ∷ []

-- a queue whose entries have this record after a use, which leaves them where they are; one that is admitted again gets its weight,
-- which is a use. The policy has this name
abbrev pub queue_way : EvictionPolicy → (Seen → Seen) → Way Queue
queue_way policy after_use = record {
  policy = policy;
  whole = λ q. q;
  none = [];
  shown = one_queue_shown;
  MakesRoom = λ limits size count q out t. MakesRoom limits size count q out t;
  is_known = λ k q. false;
  entered = λ known k n q. entered k n q;
  used = λ k v q. reseen k (after_use v) q;
  readmitted = λ k v n q. reseen k (after_use (record v { weight = n })) q;
  reseen_in = reseen;
  rest_in = rest_of;
}

-- FIFO: a use changes nothing, so that no bit is ever set, and the oldest entry goes
abbrev pub fifo_way : Way Queue
fifo_way = queue_way named.Fifo (λ v. v)

abbrev pub fifo : Policy Queue
fifo = policy_of fifo_way

-- CLOCK: a use sets the bit
abbrev pub set_bit : Seen → Seen
set_bit v = used v.weight

abbrev pub clock_way : Way Queue
clock_way = queue_way named.Clock set_bit

abbrev pub clock : Policy Queue
clock = policy_of clock_way
