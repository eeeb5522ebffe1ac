-- A policy's plain run over a trace: an order of entries, which each request moves (own).
use Rattle.std.specs.Prelude.{◌≡◌, ℕ, ◌+◌, ◌-◌, ◌^◌, ◌&&◌, Option, List, [], ◌∷◌, length, min, sum_by}
use Rattle.pcache_evict.specs.Tracked.{Limits}
use Rattle.pcache_evict.specs.Policy.{Policy, is_in}
use Rattle.pcache_evict.specs.declared.eviction.entry_key.CacheEntryKey.{CacheEntryKey}
use Rattle.cache_simulation.specs.declared.run.Request.{Request}
use Rattle.cache_simulation.specs.declared.counts.Counts.{Counts}
use Rattle.cache_simulation.specs.Fresh.{Fresh, is_fresh}
use Rattle.cache_simulation.specs.Events.{Event, Hit, Came, Renewed, Passed, Leads, hits_of, hit_bytes_of, bytes_of}
use Rattle.cache_simulation.specs.Plays.{Rules, State, IsEvent, fresh_after}

-- where a run is: the order of its entries, and what is recorded of freshness
pub record Place (O : Type 0) : Type 0 where
  pub order : O
  pub fresh : Option Fresh

abbrev pub place : {O : Type 0} → O → Option Fresh → Place O
place o f = record { order = o; fresh = f }

-- what an event makes of the order: a hit is a use, what came in lets these go, what came in anew was removed before, and what
-- passed changes nothing
abbrev pub Moves : {O : Type 0} → Policy O → Limits → O → Event → O → Type 0
Moves p limits o (Hit k n) next = p.Accesses o k n next
Moves p limits o (Came k n out) next = p.Admits limits o k n next out
Moves {O = O} p limits o (Renewed k n out) next = (rest : O) × p.Removes o k rest × p.Admits limits rest k n next out
Moves p limits o (Passed k n) next = next ≡ o

-- a request has this event, a hit if its body is in the order and fresh, and the order moves by it
pub record Answers {O : Type 0} (p : Policy O) (rules : Rules) (s : Place O) (asked : Request) (e : Event) (t : Place O) : Type 0 where
  pub event : IsEvent (is_in p asked.item s.order && is_fresh s.fresh asked.item asked.time) (rules.replaces && is_in p asked.item s.order) rules.most asked.item asked.size e
  pub moves : Moves p rules.limits s.order e t.order
  pub fresh : t.fresh ≡ fresh_after e asked.time s.fresh

-- a manager's count of what it evicted, which stops at the largest number, after an event
abbrev pub count_after : ℕ → Event → ℕ
count_after count (Hit k n) = count
count_after count (Came k n out) = min (count + length out) (2 ^ 64 - 1)
count_after count (Renewed k n out) = min (count + length out) (2 ^ 64 - 1)
count_after count (Passed k n) = count

-- a body is added by an event that is made of what goes: what becomes of the map, of the order and of the count of evictions
pub record Brings {O : Type 0} (p : Policy O) (limits : Limits) (made : List CacheEntryKey → Event) (asked : Request) (s : State) (o : O) (count : ℕ) (t : State) (next : O) (counted : ℕ) : Type 0 where
  pub out : List CacheEntryKey
  pub leads : Leads limits s.tracked (made out) t.tracked
  pub fresh : t.fresh ≡ fresh_after (made out) asked.time s.fresh
  pub moves : Moves p limits o (made out) next
  pub gone : counted ≡ count_after count (made out)

-- these requests have these events, one each and in their order
abbrev pub Replays : {O : Type 0} → Policy O → Rules → Place O → List Request → List Event → Place O → Type 0
Replays p rules s [] [] t = t ≡ s
Replays p rules s [] (e ∷ es) t = ⊥
Replays p rules s (a ∷ requests) [] t = ⊥
Replays {O = O} p rules s (a ∷ requests) (e ∷ es) t = (between : Place O) × Answers p rules s a e between × Replays p rules between requests es t

-- the number of entries that an event lets go, and that these let go
abbrev pub gone_in : Event → ℕ
gone_in (Hit k n) = 0
gone_in (Came k n out) = length out
gone_in (Renewed k n out) = length out
gone_in (Passed k n) = 0

abbrev pub gone_of : List Event → ℕ
gone_of es = sum_by gone_in es

-- the same after these
abbrev pub counts_after : ℕ → List Event → ℕ
counts_after count [] = count
counts_after count (e ∷ es) = counts_after (count_after count e) es

-- from one place to another a cache served these requests as the policy's plain run does: its counts are those of the run's events,
-- and so many entries had gone before and after
pub record Served {O : Type 0} (p : Policy O) (rules : Rules) (s : Place O) (asked : List Request) (counts : Counts) (before after : ℕ) (t : Place O) : Type 0 where
  pub events : List Event
  pub replays : Replays p rules s asked events t
  pub requests : counts.requests ≡ length asked
  pub hits : counts.hits ≡ hits_of events
  pub bytes : counts.bytes ≡ bytes_of events
  pub hit_bytes : counts.hit_bytes ≡ hit_bytes_of events
  pub evicted : after ≡ min (before + gone_of events) (2 ^ 64 - 1)
