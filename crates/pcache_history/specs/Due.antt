-- When the events of a call may come, by the events before them (own): one definition for each kind of event.
use Rattle.std.specs.Prelude.{◌≡◌, ℕ, true, false, Option, None, Some, IsSome, List, [], ◌∷◌, length}
use Rattle.std.specs.Option.{option_map, option_and_then}
use Rattle.std.specs.FinMap as map
use Rattle.pcache_base.specs.Key.{slot}
use Rattle.pcache_evict.specs.Entry.{id_of}
use Rattle.pcache_evict.specs.Tracked.{Tracked, Limits, IsFair}
use Rattle.pcache_request.specs.Phases.{IsFilling, IsOn}
use Rattle.pcache_request.specs.Requests.{Request}
use Rattle.pcache_store.specs.Store.{Reader}
use Rattle.pcache_history.specs.declared.entry.Event.{Event}
use Rattle.pcache_history.specs.declared.entry.Event.TheVariants.{Look, Begin, Wrote, Finish, Dropped, Release, Admit, Purge, Untrack, Read}
use Rattle.pcache_history.specs.Events.{begun, names_slot, is_removed, body_of, complete, tracked}
use Rattle.pcache_history.specs.Ongoing.{Ongoing}
use Rattle.pcache_history.specs.History.{Finds, reads}

-- the write that an open request makes, the slot of its key, and its reader
abbrev pub makes_of : Option Ongoing → Option ℕ
makes_of q = option_and_then (λ x. x.request.write) q

-- the slot of an open request's key
abbrev pub slot_of : Option Ongoing → Option ℕ
slot_of q = option_and_then (λ x. option_map slot x.request.key) q

-- the reader of an open request
abbrev pub reader_for : Option Ongoing → Option Reader
reader_for q = option_and_then (λ x. x.request.reader) q

-- the write that a request makes, after one event
abbrev pub makes : Event → Option ℕ → Option ℕ
makes (Begin w k m) o = Some w
makes (Finish w kept) o = None
makes (Dropped w) o = None
makes _ o = o

-- what is still owed to the manager: the entry of a write whose body was stored, with its weight, until the entry is admitted or
-- the key purged
pub record Owed : Type 0 where
  pub write : ℕ
  pub weight : ℕ

-- what is owed after one event
abbrev pub owes : List Event → Event → Option Owed → Option Owed
owes es (Finish w true) owed = Some (record { write = w; weight = length (body_of w es) })
owes es (Admit e n out) owed = None
owes es (Purge k) owed = None
owes es _ owed = owed

-- If the request q makes the write o, or none, and nothing is owed: a look-up and a read give what the history says; a write
-- has the next number and the request's slot; only the request's own write gets bytes and ends; it is stored exactly when it
-- is untouched; an entry is untracked only if its key has no complete body.
abbrev pub MayCome : List Event → Option Ongoing → Option ℕ → Event → Type 0
MayCome es q o (Look k a) = Finds es k a
MayCome es q o (Begin w k m) = (w ≡ begun es) × (o ≡ None) × (slot_of q ≡ Some k)
MayCome es q o (Wrote w bytes eof) = o ≡ Some w
MayCome es q o (Finish w true) = (o ≡ Some w) × (is_removed w es ≡ false)
MayCome es q o (Finish w false) = (o ≡ Some w) × (is_removed w es ≡ true)
MayCome es q o (Dropped w) = o ≡ Some w
MayCome es q o (Admit e n out) = ⊥
MayCome es q o (Untrack e) = (k : ℕ) → names_slot k e ≡ true → complete k es ≡ None
MayCome es q o (Read a) = (rd : Reader) × (reader_for q ≡ Some rd) × (a ≡ reads es rd)
MayCome es q o _ = Unit {0}

-- If this is owed for the request's key: the entry of the write is admitted with its weight, by a fair eviction, or the key is
-- purged; before that only a permit may be released.
abbrev pub MaySettle : Limits → Tracked → Option Ongoing → Owed → Event → Type 0
MaySettle limits m q owed (Admit e n out) = (n ≡ owed.weight) × ((k : ℕ) × (slot_of q ≡ Some k) × (names_slot k e ≡ true)) × (id_of e ≡ Some owed.write) × IsFair limits (map.insert m e n) out
MaySettle limits m q owed (Purge k) = slot_of q ≡ Some k
MaySettle limits m q owed (Release n) = Unit {0}
MaySettle limits m q owed _ = ⊥

-- an event may come next: freely, or, while an entry is owed, one that may settle that
abbrev pub IsNext : Limits → Tracked → List Event → Option Ongoing → Option ℕ → Option Owed → Event → Type 0
IsNext limits m es q o None e = MayCome es q o e
IsNext limits m es q o (Some owed) e = MaySettle limits m q owed e

-- these events come one after another, and leave the request with the write o', or none, and nothing owed
abbrev pub AreDue : Limits → Tracked → List Event → Option Ongoing → Option ℕ → Option Owed → List Event → Option ℕ → Type 0
AreDue limits start es q o owed [] o' = (o' ≡ o) × (owed ≡ None)
AreDue limits start es q o owed (e ∷ events) o' =
    IsNext limits (tracked start es) es q o owed e × AreDue limits start (e ∷ es) q (makes e o) (owes es e owed) events o'

-- a request of a world: it uses the manager while caching is on, and if it makes a write it fills
pub record IsOfWorld (x : Request) : Type 0 where
  pub eviction : IsOn x.phase → x.uses.eviction ≡ true
  pub fills : IsSome x.write → IsFilling x.phase

-- a request of a world, or none
abbrev pub IsOfWorldIn : Option Ongoing → Type 0
IsOfWorldIn None = Unit {0}
IsOfWorldIn (Some x) = IsOfWorld x.request

-- a request of a world stays one, and keeps its key while it makes a write
abbrev pub KeepsIn : Request → Request → Type 0
KeepsIn x y = IsOfWorld x → IsOfWorld y × (IsSome y.write → y.key ≡ x.key)

-- the same of what is open under a number; what was not open before makes no write yet
abbrev pub KeepsKey : Option Ongoing → Option Ongoing → Type 0
KeepsKey q None = Unit {0}
KeepsKey None (Some y) = IsOfWorld y.request × (y.request.write ≡ None)
KeepsKey (Some x) (Some y) = KeepsIn x.request y.request
