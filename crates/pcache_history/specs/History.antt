-- What a history says to a call (own). Histories and their events are listed newest first.
use Rattle.std.specs.Prelude.{◌≡◌, ℕ, ◌<◌, ◌⊎◌, Bool, true, false, cond, Option, Some, None, IsSome, IsTrue, List, [], ◌∷◌, ◌++◌, reverse, slice_range}
use Rattle.std.specs.Option.{option_map}
use Rattle.pcache_base.specs.declared.poll.Poll.{Poll}
use Rattle.pcache_base.specs.declared.poll.Poll.TheVariants.{Ready}
use Rattle.pcache_store.specs.Store.{Written, Reader, Whole, Part, read_part}
use Rattle.pcache_history.specs.declared.entry.Answer.{Answer}
use Rattle.pcache_history.specs.declared.entry.Answer.TheVariants as A
use Rattle.pcache_history.specs.declared.entry.Entry.{Entry}
use Rattle.pcache_history.specs.declared.entry.Event.{Event}
use Rattle.pcache_history.specs.Events.{begin_of, in_flight, body_of, is_told, complete, is_open}

-- the events of a history
abbrev pub events_of : List Entry → List Event
events_of [] = []
events_of (e ∷ h) = reverse e.events ++ events_of h

-- a look-up of a key: the earliest begun write that is in flight and untouched, or else the complete body, or else
-- nothing
abbrev pub Finds : List Event → ℕ → Answer → Type 0
Finds es k A.Nothing = ((q : ℕ) → is_open k q es ≡ false) × (complete k es ≡ None)
Finds es k (A.Streaming m w) = IsTrue (is_open k w es) × ((q : ℕ) → q < w → is_open k q es ≡ false) × (option_map (λ b. b.1) (begin_of w es) ≡ Some m)
Finds es k (A.Complete m body) = ((q : ℕ) → is_open k q es ≡ false) × (complete k es ≡ Some (record { meta = m; bytes = body }))

-- whether anything is stored for a key
abbrev pub HasAny : List Event → ℕ → Bool → Type 0
HasAny es k true = ((w : ℕ) × IsTrue (is_open k w es)) ⊎ IsSome (complete k es)
HasAny es k false = ((q : ℕ) → is_open k q es ≡ false) × (complete k es ≡ None)

-- a write in its present state, if it was begun
abbrev pub written_of : ℕ → List Event → Option Written
written_of w es = option_map (λ b. record { slot = b.0; meta = b.1; bytes = body_of w es; told = is_told w es; flying = in_flight w es; readers = 0 }) (begin_of w es)

-- what a reader gives: a range of a body once, then the end; of a write all unread bytes, pending if there are none
-- but more may come, otherwise the end
abbrev pub reads : List Event → Reader → Poll (Option (List ℕ))
reads es (Whole id body start stop done) = Ready (cond done None (Some (slice_range body start stop)))
reads es (Part w place) = read_part place (written_of w es)
