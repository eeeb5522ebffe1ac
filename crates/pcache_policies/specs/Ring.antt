-- How the code keeps a list with a hand: the entries ahead of the hand, those that it chose to go, and those that it passed
-- (own).
use Rattle.std.specs.Prelude.{◌≡◌, ◌≢◌, ℕ, ◌+◌, ◌^◌, ◌<◌, ◌==◌, Bool, true, false, List, [], ◌∷◌, ◌++◌, length, reverse, sum_by, if◌then◌else◌}
use Rattle.std.specs.Map.{keys_of}
use Rattle.pcache_evict.specs.declared.eviction.entry_key.CacheEntryKey.{CacheEntryKey}
use Rattle.pcache_evict.specs.Tracked.{Limits}
use Rattle.pcache_evict.specs.Listed.{map_of}
use Rattle.pcache_policies.specs.declared.queue.Seen.{Seen}
use Rattle.pcache_policies.specs.Queue.{Queue, IsOnce, plain, unused}
use Rattle.pcache_policies.specs.Sieve.{Sieve, sieve, MakesRoom}

-- the three parts, each the newest entry first
pub record Ring : Type 0 where
  pub ahead : Queue
  pub leaving : Queue
  pub passed : Queue

abbrev pub ring : Queue → Queue → Queue → Ring
ring a l p = record { ahead = a; leaving = l; passed = p }

-- all of its entries
abbrev pub all : Ring → Queue
all r = r.ahead ++ (r.leaving ++ r.passed)

-- the list with a hand that it represents: entries that were chosen but did not go count as passed
abbrev pub shown : Ring → Sieve
shown r = sieve r.ahead (r.leaving ++ r.passed)

-- the list with the hand, without the chosen entries
abbrev pub left_of : Ring → Sieve
left_of r = sieve r.ahead r.passed

-- the list as a queue, for policies that add new entries behind the hand: the hand is at the oldest entry, and what it passed is
-- newer than what is ahead of it
abbrev pub in_turn : Sieve → Queue
in_turn s = s.passed ++ s.ahead

-- its entries are distinct, and fewer than 2 ^ 63
pub record IsRing (ahead leaving passed : Queue) : Type 0 where
  pub once : IsOnce (ahead ++ (leaving ++ passed))
  pub few : length ahead + (length leaving + length passed) < 2 ^ 63

-- one step of the hand
pub data Steps (old : Ring) (more : Bool) (new : Ring) : Type 0 where
  ends : more ≡ false → old.ahead ≡ [] → old.passed ≡ [] → new ≡ old → Steps old more new
  turns : more ≡ true → old.ahead ≡ [] → old.passed ≢ [] → new ≡ ring old.passed old.leaving [] → Steps old more new
  clears : (k : CacheEntryKey) (v : Seen) → more ≡ true → old.ahead ≡ new.ahead ++ (k, v) ∷ [] → v.uses ≢ 0 → new.leaving ≡ old.leaving → new.passed ≡ (k, unused v.weight) ∷ old.passed → Steps old more new
  chooses : (k : CacheEntryKey) (v : Seen) → more ≡ true → old.ahead ≡ new.ahead ++ (k, v) ∷ [] → v.uses ≡ 0 → new.leaving ≡ (k, v) ∷ old.leaving → new.passed ≡ old.passed → Steps old more new

-- the keys of entries that were chosen, in the order in which they go
abbrev pub going : Queue → List CacheEntryKey
going q = reverse (keys_of q)

-- the same of a ring
abbrev pub chosen : Ring → List CacheEntryKey
chosen r = going r.leaving

-- to evict what the hand chose makes room
abbrev pub Chooses : Limits → ℕ → ℕ → Ring → Ring → Type 0
Chooses limits size count old new = MakesRoom limits size count (left_of old) (chosen new) (left_of new)

-- the entries with their weights are unchanged
abbrev pub SameEntries : Ring → Ring → Type 0
SameEntries old new = map_of (plain (all new)) ≡ map_of (plain (all old))

-- an upper bound of the steps that the hand still makes
abbrev pub steps_of : Queue → ℕ
steps_of q = sum_by (λ (e : CacheEntryKey × Seen). if e.1.uses == 0 then 2 else 4) q
