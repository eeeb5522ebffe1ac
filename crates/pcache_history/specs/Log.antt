-- The history of a world, and what calls add to it (own).
use Rattle.std.specs.Prelude.{◌≡◌, ℕ, Option, None, Some, ◌++◌, ◌∷◌, [], List, take, reverse}
use Rattle.std.specs.FinMap as map
use Rattle.pcache_evict.specs.Tracked.{Tracked, Limits, Evicted}
use Rattle.pcache_evict.specs.declared.eviction.entry_key.CacheEntryKey.{CacheEntryKey}
use Rattle.pcache_history.specs.declared.call.Call.{Call}
use Rattle.pcache_history.specs.declared.call.Reply.{Reply}
use Rattle.pcache_history.specs.declared.entry.Entry.{Entry}
use Rattle.pcache_history.specs.declared.entry.Event.{Event}
use Rattle.pcache_history.specs.Events.{evicted_by, tracked}
use Rattle.pcache_history.specs.History.{events_of}
use Rattle.pcache_history.specs.Legal.{IsLegal}

-- what contracts see of a world
pub record Log : Type 0 where
  -- the entries, oldest first
  pub history : List Entry
  -- what the manager tracked before the first call, and its limits
  pub start : Tracked
  pub limits : Limits
  -- the manager's totals of all entries that it evicted
  pub evicted : Evicted
  -- the age in nanoseconds at which a permit is too old
  pub age : ℕ

-- the events, newest first
abbrev pub events_in : Log → List Event
events_in log = events_of (reverse log.history)

-- the history is legal, for a manager that tracked these entries at the start and has these limits
abbrev pub HasLegal : Log → Type 0
HasLegal log = IsLegal log.age log.limits log.start (reverse log.history)

-- what was recorded of the manager before the first call; before that call, what it tracks now
abbrev pub started : Option (List (CacheEntryKey × ℕ)) → Tracked → Tracked
started None now = now
started (Some all) now = map.from_entries all

-- one more entry, with this call and this reply; the totals grow by what its admissions evicted
pub record Adds (old : Log) (call : Call) (reply : Reply) (new : Log) : Type 0 where
  pub events : List Event
  pub history : new.history ≡ old.history ++ record { call = call; reply = reply; events = events } ∷ []
  pub start : new.start ≡ old.start
  pub limits : new.limits ≡ old.limits
  pub age : new.age ≡ old.age
  pub evicted : new.evicted ≡ evicted_by (tracked old.start (events_in old)) old.evicted events

-- one more entry for each call, in order, with its reply
abbrev pub AddsAll : Log → List Call → List Reply → Log → Type 0
AddsAll old [] [] new = new ≡ old
AddsAll old [] (r ∷ rs) new = ⊥
AddsAll old (c ∷ cs) [] new = ⊥
AddsAll old (c ∷ cs) (r ∷ rs) new = (next : Log) × Adds old c r next × AddsAll next cs rs new

-- the entries of a prefix of the calls
abbrev pub AddsSome : Log → List Call → Log → Type 0
AddsSome old calls new = (n : ℕ) × ((replies : List Reply) × AddsAll old (take n calls) replies new)
