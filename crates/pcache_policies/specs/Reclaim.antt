-- How the code keeps the two queues of 2Q with ghosts: the main one is what is ahead in a list with a hand, and the new entries
-- are what was passed (own).
use Rattle.std.specs.Prelude.{◌≡◌, ◌≢◌, ℕ, ◌+◌, Bool, true, false, List, [], ◌∷◌, ◌++◌, length}
use Rattle.pcache_evict.specs.declared.eviction.entry_key.CacheEntryKey.{CacheEntryKey}
use Rattle.pcache_evict.specs.Tracked.{Limits}
use Rattle.pcache_policies.specs.declared.queue.Seen.{Seen}
use Rattle.pcache_policies.specs.declared.reclaim.Queues as kept
use Rattle.pcache_policies.specs.Ring.{chosen}
use Rattle.pcache_policies.specs.TwoQueues.{TwoQueues, queues, remembered, IsIncomingNext, IsMainNext, MakesRoom}

-- the parameters are those of the code
abbrev pub Kept : Type 0 → Type 0 → Type 0
Kept = kept.Queues

module _ {S H : Type 0} where
  -- the queues that it represents: entries that were chosen but did not go count as the newest of the new ones
  abbrev pub shown : Kept S H → TwoQueues
  shown q = queues q.ring.ahead (q.ring.leaving ++ q.ring.passed) q.ghosts

  -- the queues without the chosen entries
  abbrev pub left_of : Kept S H → TwoQueues
  left_of q = queues q.ring.ahead q.ring.passed q.ghosts

  -- the oldest new entry is chosen, and leaves its ghost
  pub record Leaves (old new : Kept S H) : Type 0 where
    pub key : CacheEntryKey
    pub seen : Seen
    pub passed : old.ring.passed ≡ new.ring.passed ++ (key, seen) ∷ []
    pub leaving : new.ring.leaving ≡ (key, seen) ∷ old.ring.leaving
    pub ahead : new.ring.ahead ≡ old.ring.ahead
    pub ghosts : new.ghosts ≡ remembered key (length old.ring.ahead + length old.ring.passed) old.ghosts

  -- the oldest entry of the main queue is chosen
  pub record Goes (old new : Kept S H) : Type 0 where
    pub key : CacheEntryKey
    pub seen : Seen
    pub ahead : old.ring.ahead ≡ new.ring.ahead ++ (key, seen) ∷ []
    pub leaving : new.ring.leaving ≡ (key, seen) ∷ old.ring.leaving
    pub passed : new.ring.passed ≡ old.ring.passed
    pub ghosts : new.ghosts ≡ old.ghosts

  -- one entry is chosen, if there is one
  pub data Steps (limit : ℕ) (old : Kept S H) (more : Bool) (new : Kept S H) : Type 0 where
    ends : more ≡ false → old.ring.ahead ≡ [] → old.ring.passed ≡ [] → new ≡ old → Steps limit old more new
    leaves : more ≡ true → IsIncomingNext limit (left_of old) → Leaves old new → Steps limit old more new
    goes : more ≡ true → IsMainNext limit (left_of old) → Goes old new → Steps limit old more new

  -- to evict the chosen entries makes room
  abbrev pub Chooses : Limits → ℕ → ℕ → Kept S H → Kept S H → Type 0
  Chooses limits size count old new = MakesRoom limits size count (left_of old) (chosen new.ring) (left_of new)
