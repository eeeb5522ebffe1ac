-- For the prover: the invariant of a world. Its history is legal, and its parts agree with the history (own).
use Rattle.std.specs.Prelude.{◌≡◌, ℕ, ◌+◌, ◌<◌, ◌==◌, ◌||◌, nat_lt, true, false, if◌then◌else◌, Option, None, Some, is_some, List}
use Rattle.std.specs.Option.{option_map}
use Rattle.std.specs.Ordering.{nat_cmp}
use Rattle.std.specs.FinMap as map
use Rattle.pcache_lock.specs.Locks.{Locks}
use Rattle.pcache_base.specs.Totals.{total}
use Rattle.pcache_evict.specs.Tracked.{Tracked, Limits}
use Rattle.pcache_store.specs.Store.{Store, Slot, Written, Reader, Whole, Part, complete_body, is_untouched_in, is_idle}
use Rattle.pcache_history.specs.declared.entry.Entry.{Entry}
use Rattle.pcache_history.specs.declared.entry.Event.{Event}
use Rattle.pcache_history.specs.Events as ev
use Rattle.pcache_history.specs.Events.{begun, begin_of, is_removed, has_ended, was_stored, in_flight, is_told, is_of, last_finished, complete, is_open, tracked, stored, slots, names_slot, stored_size}
use Rattle.pcache_history.specs.Ongoing.{Ongoing, pair_reader, request_of}
use Rattle.pcache_history.specs.Kept.{IsBounded, IsExact, IsTidy}
use Rattle.pcache_history.specs.Deeds.{Deed, deeds_of}
use Rattle.pcache_history.specs.History.{events_of}
use Rattle.pcache_world.specs.LockTable.{Holds, IsTable, read_locks}
use Rattle.pcache_world.specs.TableWaiting.{IsLocked}
use Rattle.pcache_world.specs.Untold.{untold}
use Rattle.pcache_history.specs.Legal.{IsLegal}

-- how many readers of a write there are: in one request, and in all
abbrev pub follows : ℕ → Option Reader → ℕ
follows w None = 0
follows w (Some (Whole id body start stop done)) = 0
follows w (Some (Part x place)) = if x == w then 1 else 0

-- how many readers of a write a request has, its own and that of its pair
abbrev pub readers_in : ℕ → Ongoing → ℕ
readers_in w x = follows w x.request.reader + follows w (pair_reader x.pair)

-- how many readers of a write there are in all
abbrev pub readers : map.FinMap nat_cmp Ongoing → ℕ → ℕ
readers all w = total (readers_in w) all

-- how many requests hold a write
abbrev pub writers_in : ℕ → Ongoing → ℕ
writers_in w x = if ev.option_any (λ q. q == w) x.request.write then 1 else 0

-- how many requests hold a write in all
abbrev pub writers : map.FinMap nat_cmp Ongoing → ℕ → ℕ
writers all w = total (writers_in w) all

-- a write as the store keeps it, if it is in flight or n readers, at least one, follow it
abbrev pub record_of : ℕ → ℕ → List Event → Option Written
record_of w n es =
    if in_flight w es || nat_lt 0 n
    then option_map (λ b. record { slot = b.0; meta = b.1; bytes = ev.body_of w es; told = is_told w es; flying = in_flight w es; readers = n }) (begin_of w es)
    else None

-- the store agrees with the events, with n readers of each write
pub record IsState (es : List Event) (n : ℕ → ℕ) (s : Store) : Type 0 where
  pub next : s.next ≡ begun es
  pub writes : (w : ℕ) → map.get s.writes w ≡ record_of w (n w) es
  pub untouched : (k w : ℕ) → is_untouched_in w (map.get s.slots k) ≡ is_open k w es
  pub bodies : (k : ℕ) → complete_body (map.get s.slots k) ≡ complete k es
  pub filled : (k : ℕ) (x : Slot) → map.get s.slots k ≡ Some x → is_idle x ≡ false
  -- only a write that was begun is read
  pub known : (w : ℕ) → 0 < n w → is_some (begin_of w es) ≡ true
  -- a look-up finds the write that began first
  pub newest : s.newest ≡ false

-- each open request is as the entries that name it leave it, except for what its read lock was told
abbrev pub AreOpen : List Entry → map.FinMap nat_cmp Ongoing → Type 0
AreOpen h all = (r : ℕ) → option_map untold (map.get all r) ≡ request_of r h

-- the lock that each open request holds agrees with the deeds
abbrev pub AllHold : List Deed → Locks → map.FinMap nat_cmp Ongoing → Type 0
AllHold ds t all = (r : ℕ) (x : Ongoing) → map.get all r ≡ Some x → Holds r ds t x.request.held

-- one request holds each write that is in flight
abbrev pub AreOngoing : List Event → map.FinMap nat_cmp Ongoing → Type 0
AreOngoing es all = (w : ℕ) → writers all w ≡ (if in_flight w es then 1 else 0)

-- the invariant
pub record IsSound (limits : Limits) (start : Tracked) (now : Tracked) (s : Store) (t : Locks) (all : map.FinMap nat_cmp Ongoing) (h : List Entry) : Type 0 where
  pub legal : IsLegal t.age_timeout limits start h
  pub tidy : IsTidy (events_of h)
  pub state : IsState (events_of h) (readers all) s
  pub tracks : now ≡ tracked start (events_of h)
  pub exact : IsExact start (events_of h)
  pub bounded : IsBounded limits (events_of h)
  pub requests : AreOpen h all
  pub writes : AreOngoing (events_of h) all
  pub locks : IsLocked (events_of h) t
  pub table : IsTable (deeds_of h) (read_locks all) t
  pub holds : AllHold (deeds_of h) t all
