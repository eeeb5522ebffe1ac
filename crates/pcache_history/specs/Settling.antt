-- What follows the finish of a body that was stored, in the same entry (own): the write's entry is admitted with the body's
-- length, or the manager had no memory and the key's slot is purged. So no body remains in the store that the manager does not
-- track.
use Rattle.std.specs.Prelude.{◌≡◌, ℕ, true, Some, List, [], ◌∷◌, ◌++◌, length}
use Rattle.pcache_base.specs.declared.error.ErrorType.TheVariants.{OutOfMemory}
use Rattle.pcache_evict.specs.Entry.{id_of}
use Rattle.pcache_evict.specs.Tracked.{Tracked, Limits}
use Rattle.pcache_meta.specs.Meta.{Meta}
use Rattle.pcache_history.specs.declared.call.Reply.{Reply}
use Rattle.pcache_history.specs.declared.call.Reply.TheVariants.{Refused}
use Rattle.pcache_history.specs.declared.entry.Entry.{Entry}
use Rattle.pcache_history.specs.declared.entry.Event.{Event}
use Rattle.pcache_history.specs.declared.entry.Event.TheVariants.{Finish, Release, Admit, Purge}
use Rattle.pcache_history.specs.Events.{begin_of, body_of, names_slot}
use Rattle.pcache_history.specs.Headline.{IsEntryOf}
use Rattle.pcache_history.specs.History.{events_of}
use Rattle.pcache_history.specs.Legal.{IsLegal}
use Rattle.pcache_history.specs.Log.{Log}

-- these events settle a body of this size that this write stored in this slot: except for the release of a permit there is one
-- event, the admission of the write's entry with the size, or the purge of the slot by a call that fails for memory
abbrev pub Settles : ℕ → ℕ → ℕ → Reply → List Event → Type 0
Settles k w n reply [] = ⊥
Settles k w n reply (Release l ∷ events) = Settles k w n reply events
Settles k w n reply (Admit e m out ∷ events) = (names_slot k e ≡ true) × (id_of e ≡ Some w) × (m ≡ n) × (events ≡ [])
Settles k w n reply (Purge q ∷ events) = (q ≡ k) × (reply ≡ Refused OutOfMemory) × (events ≡ [])
Settles k w n reply (_ ∷ events) = ⊥

-- a write was begun for a slot, and the events after its finish settle its body
abbrev pub SettlesWrite : ℕ → List Event → Reply → List Event → Type 0
SettlesWrite w es reply rest = (k : ℕ) × (m : Meta) × (begin_of w es ≡ Some (k, m)) × Settles k w (length (body_of w es)) reply rest

-- a finish that succeeds comes first in its entry, and the rest of the entry settles the body
abbrev pub SettlesAtOnce : Type 0
SettlesAtOnce = (age : ℕ) (limits : Limits) (start : Tracked) (before : List Entry) (entry : Entry) (w : ℕ) (earlier rest : List Event) → IsLegal age limits start (entry ∷ before) → entry.events ≡ earlier ++ Finish w true ∷ rest
    → (earlier ≡ []) × SettlesWrite w (events_of before) entry.reply rest

-- the same, for the history of a world
abbrev pub SettlesAlways : Log → Type 0
SettlesAlways log = (before : List Entry) (entry : Entry) (w : ℕ) (earlier rest : List Event) → IsEntryOf log entry before → entry.events ≡ earlier ++ Finish w true ∷ rest
    → (earlier ≡ []) × SettlesWrite w (events_of before) entry.reply rest
