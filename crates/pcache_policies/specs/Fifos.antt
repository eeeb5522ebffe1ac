-- How the code keeps a small and a main queue with ghosts: as the two queues of a list with a hand, ahead of it and passed (own).
use Rattle.std.specs.Prelude.{◌≡◌, ◌≢◌, ℕ, ◌+◌, ◌<◌, ◌≤◌, ◌⊎◌, Bool, true, false, List, [], ◌∷◌, ◌++◌, length, sum_by}
use Rattle.pcache_evict.specs.declared.eviction.entry_key.CacheEntryKey.{CacheEntryKey}
use Rattle.pcache_evict.specs.Tracked.{Limits}
use Rattle.pcache_policies.specs.declared.queue.Seen.{Seen}
use Rattle.pcache_policies.specs.declared.fifos.Fifos as kept
use Rattle.pcache_policies.specs.Queue.{Queue, unused, spent}
use Rattle.pcache_policies.specs.Ring.{chosen}
use Rattle.pcache_policies.specs.S3Fifo.{Fifos, fifos, Ghosts, ghosted, IsSmallNext, IsMainNext, MakesRoom}

-- the parameters are those of the code
abbrev pub Kept : Type 0 → Type 0 → Type 0
Kept = kept.Fifos

module _ {S H : Type 0} where
  -- the queues that it represents: entries that were chosen but did not go count as the newest of the main one
  abbrev pub shown : Kept S H → Fifos
  shown f = fifos f.ring.ahead (f.ring.leaving ++ f.ring.passed) f.ghosts

  -- the queues without the chosen entries
  abbrev pub left_of : Kept S H → Fifos
  left_of f = fifos f.ring.ahead f.ring.passed f.ghosts

  -- the oldest of the small queue is looked at
  pub data LooksAtSmall (old new : Kept S H) : Type 0 where
    moves : (k : CacheEntryKey) (v : Seen) → old.ring.ahead ≡ new.ring.ahead ++ (k, v) ∷ [] → 1 < v.uses
        → new.ring.leaving ≡ old.ring.leaving → new.ring.passed ≡ (k, unused v.weight) ∷ old.ring.passed → new.ghosts ≡ old.ghosts → LooksAtSmall old new
    leaves : (k : CacheEntryKey) (v : Seen) → old.ring.ahead ≡ new.ring.ahead ++ (k, v) ∷ [] → v.uses ≤ 1
        → new.ring.leaving ≡ (k, v) ∷ old.ring.leaving → new.ring.passed ≡ old.ring.passed → new.ghosts ≡ ghosted k (length old.ring.ahead + length old.ring.passed) old.ghosts → LooksAtSmall old new

  -- the oldest of the main queue is looked at, if there is one
  pub data LooksAtMain (old : Kept S H) (more : Bool) (new : Kept S H) : Type 0 where
    ends : more ≡ false → old.ring.passed ≡ [] → new ≡ old → LooksAtMain old more new
    returns : (rest : Queue) (k : CacheEntryKey) (v : Seen) → more ≡ true → old.ring.passed ≡ rest ++ (k, v) ∷ [] → 0 < v.uses
        → new.ring.leaving ≡ old.ring.leaving → new.ring.ahead ≡ old.ring.ahead → new.ring.passed ≡ (k, spent v) ∷ rest → new.ghosts ≡ old.ghosts → LooksAtMain old more new
    goes : (k : CacheEntryKey) (v : Seen) → more ≡ true → old.ring.passed ≡ new.ring.passed ++ (k, v) ∷ [] → v.uses ≡ 0
        → new.ring.leaving ≡ (k, v) ∷ old.ring.leaving → new.ring.ahead ≡ old.ring.ahead → new.ghosts ≡ old.ghosts → LooksAtMain old more new

  -- one entry is looked at, if there is one
  pub data Steps (limit : ℕ) (old : Kept S H) (more : Bool) (new : Kept S H) : Type 0 where
    small : more ≡ true → IsSmallNext limit (left_of old) → LooksAtSmall old new → Steps limit old more new
    main : IsMainNext limit (left_of old) → (old.ring.passed ≡ [] → old.ring.ahead ≡ []) → LooksAtMain old more new → Steps limit old more new

  -- to evict the chosen entries makes room
  abbrev pub Chooses : Limits → ℕ → ℕ → Kept S H → Kept S H → Type 0
  Chooses limits size count old new = MakesRoom limits size count (left_of old) (chosen new.ring) (left_of new)

-- an upper bound of how many entries are still looked at
abbrev pub steps_of : Queue → Queue → ℕ
steps_of ahead passed = sum_by (λ (e : CacheEntryKey × Seen). 2) ahead + sum_by (λ (e : CacheEntryKey × Seen). 1 + e.1.uses) passed
