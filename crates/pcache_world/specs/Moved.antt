-- How the parts of a world change by the events of a call (own): one definition for each kind of event. Beside the
-- events, readers come and go; what counts is how many of each write the request has in the end.
use Rattle.std.specs.Prelude.{◌≡◌, ℕ, ◌+◌, ◌≤◌, true, false, Option, Some, None, IsSome, List, [], ◌∷◌}
use Rattle.std.specs.FinMap as map
use Rattle.pcache_meta.specs.Meta.{Meta, expired_at}
use Rattle.pcache_evict.specs.declared.eviction.entry_key.CacheEntryKey.{CacheEntryKey}
use Rattle.pcache_evict.specs.Tracked.{Tracked, Limits}
use Rattle.pcache_predict.specs.declared.admission.Decision.{Decision}
use Rattle.pcache_request.specs.Requests.{Request, left_by}
use Rattle.pcache_store.specs.Purge.{entry_purged}
use Rattle.pcache_store.specs.Store as store
use Rattle.pcache_store.specs.Store.{Store, Reader, Whole, Part, find, read_of, followed, begun, wrote, finished, dropped, purged, meta_changed, meta_set, is_untouched, written_size}
use Rattle.pcache_store.specs.declared.memory.hit.MemHitHandler.{MemHitHandler}
use Rattle.pcache_history.specs.declared.entry.Event.{Event}
use Rattle.pcache_history.specs.declared.entry.Event.TheVariants.{Look, Begin, Wrote, Finish, Dropped, Admit, Purge, Expire, Renew, Untrack, Read}
use Rattle.pcache_history.specs.Due.{IsOfWorld, Owed, makes_of, slot_of, reader_for, makes, MaySettle}
use Rattle.pcache_history.specs.Events.{names_slot, track}
use Rattle.pcache_history.specs.Ongoing.{Ongoing, pair_of, pair_reader}
use Rattle.pcache_world.specs.Opens.{open_with, pair_read}
use Rattle.pcache_world.specs.Sound.{follows, readers_in}
use Rattle.pcache_world.specs.State.{State}

-- The store after one event.

-- the store without the entries that were evicted
abbrev pub evicted_from : Store → List CacheEntryKey → Store
evicted_from s [] = s
evicted_from s (e ∷ out) = evicted_from (entry_purged true s e) out

-- the store after one event
abbrev pub move : Event → Store → Store
move (Begin w k m) s = begun s k m
move (Wrote w bytes eof) s = wrote s w bytes eof
move (Finish w true) s = finished s w
move (Finish w false) s = dropped s w
move (Dropped w) s = dropped s w
move (Admit e n out) s = evicted_from s out
move (Purge k) s = purged s k
move (Expire k now) s = meta_changed (expired_at now) s k
move (Renew k m) s = meta_set m s k
move _ s = s

-- what is still owed to the manager after one event
abbrev pub owing : Store → Event → Option Owed → Option Owed
owing s (Finish w true) owed = Some (record { write = w; weight = written_size (map.get s.writes w) })
owing s (Admit e n out) owed = None
owing s (Purge k) owed = None
owing s _ owed = owed

-- The state within a call: how many readers of each write its request has, the write that it makes, what is owed to
-- the manager, the store, and the tracked entries.
pub record At : Type 0 where
  pub count : ℕ → ℕ
  pub write : Option ℕ
  pub owed : Option Owed
  pub store : Store
  pub tracked : Tracked

-- the state after one event
abbrev pub after_event : Event → At → At
after_event e a = record { count = a.count; write = makes e a.write; owed = owing a.store e a.owed; store = move e a.store; tracked = track e a.tracked }

-- the state after a reader came
abbrev pub after_join : Option (Meta × Reader) → At → At
after_join p a = record a { count = λ w. a.count w + follows w (pair_reader p); store = followed a.store p }

-- the state after a reader went, which leaves m readers of each write
abbrev pub after_leave : (ℕ → ℕ) → Option Reader → At → At
after_leave m r a = record a { count = m; store = left_by r a.store }

-- Which events may come in that state, if the request was q before the call: as `Due` says it of the history, said of
-- the parts.
abbrev pub MayMove : At → Option Ongoing → Event → Type 0
MayMove a q (Look k x) = pair_of x ≡ find a.store k
MayMove a q (Begin w k m) = (w ≡ a.store.next) × (a.write ≡ None) × (slot_of q ≡ Some k)
MayMove a q (Wrote w bytes eof) = a.write ≡ Some w
MayMove a q (Finish w true) = (a.write ≡ Some w) × (is_untouched a.store w ≡ true)
MayMove a q (Finish w false) = (a.write ≡ Some w) × (is_untouched a.store w ≡ false)
MayMove a q (Dropped w) = a.write ≡ Some w
MayMove a q (Admit e n out) = ⊥
MayMove a q (Untrack e) = (k : ℕ) → names_slot k e ≡ true → store.complete_body (map.get a.store.slots k) ≡ None
MayMove a q (Read x) = (rd : Reader) × (reader_for q ≡ Some rd) × (x ≡ read_of a.store rd) × ((w : ℕ) → follows w (Some rd) ≤ a.count w)
MayMove a q _ = Unit {0}

-- the same, or, while an entry is owed, an event that settles it
abbrev pub IsNextAt : Limits → Option Owed → At → Option Ongoing → Event → Type 0
IsNextAt limits None a q e = MayMove a q e
IsNextAt limits (Some owed) a q e = MaySettle limits a.tracked q owed e

-- What happens in a call: events, in their order, and readers that come and go.

-- an event, or a reader that comes or goes
pub data Act : Type 0 where
  Did : (e : Event) → Act
  Joins : (p : Option (Meta × Reader)) → Act
  Leaves : (r : Option Reader) → Act

-- the events alone
abbrev pub did : List Act → List Event
did [] = []
did (Did e ∷ acts) = e ∷ did acts
did (_ ∷ acts) = did acts

-- a write that a new reader follows has a record
abbrev pub IsThereFor : Store → Option Reader → Type 0
IsThereFor s None = Unit {0}
IsThereFor s (Some (Whole id body start stop done)) = Unit {0}
IsThereFor s (Some (Part w place)) = IsSome (map.get s.writes w)

-- two states that agree
pub record IsSame (a b : At) : Type 0 where
  pub count : (w : ℕ) → b.count w ≡ a.count w
  pub write : b.write ≡ a.write
  pub owed : b.owed ≡ a.owed
  pub store : b.store ≡ a.store
  pub tracked : b.tracked ≡ a.tracked

-- from a to b by these acts, for a request that was q before the call
abbrev pub RunsActs : Limits → Option Ongoing → List Act → At → At → Type 0
RunsActs limits q [] a b = IsSame a b
RunsActs limits q (Did e ∷ acts) a b = IsNextAt limits a.owed a q e × RunsActs limits q acts (after_event e a) b
RunsActs limits q (Joins p ∷ acts) a b = IsThereFor a.store (pair_reader p) × RunsActs limits q acts (after_join p a) b
RunsActs limits q (Leaves r ∷ acts) a b = (m : ℕ → ℕ) × ((w : ℕ) → a.count w ≡ m w + follows w r) × RunsActs limits q acts (after_leave m r a) b

-- the same by the events alone: there are acts with these events
abbrev pub MovesBy : Limits → Option Ongoing → List Event → At → At → Type 0
MovesBy limits q events a b = (acts : List Act) × (did acts ≡ events) × RunsActs limits q acts a b

-- the readers of an open request, or of none
abbrev pub reads_of : Option Ongoing → ℕ → ℕ
reads_of None w = 0
reads_of (Some x) w = readers_in w x

-- the state at the begin of a call
abbrev pub at_call : Option Ongoing → Store → Tracked → At
at_call q s m = record { count = reads_of q; write = makes_of q; owed = None; store = s; tracked = m }

-- what a call that names the request q does to the store and the tracked entries, if the request is q' after it
abbrev pub Moves : Limits → Option Ongoing → Store → Tracked → List Event → Option Ongoing → Store → Tracked → Type 0
Moves limits q s m events q' s' m' = MovesBy limits q events (at_call q s m) (at_call q' s' m')

-- the same for a call that does not change the tracked entries, and for one that does not change the store either
abbrev pub MovesStore : Option Ongoing → Store → List Event → Option Ongoing → Store → Type 0
MovesStore q s events q' s' = (limits : Limits) (m : Tracked) → Moves limits q s m events q' s' m

-- what a call that names the request q does to the parts as one value
abbrev pub MovesParts : Option Ongoing → State → List Event → Option Ongoing → State → Type 0
MovesParts q p events q' p' = Moves p.limits q p.store p.tracked events q' p'.store p'.tracked

-- what a call of an open request does to the store, and to all parts, whichever pair and decision the request has beside
abbrev pub MovesStoreBeside : Request → Store → List Event → Request → Store → Type 0
MovesStoreBeside x s events y s' = (p : Option (Meta × Reader)) (d : Option Decision) → MovesStore (open_with d p x) s events (open_with d p y) s'

abbrev pub MovesBeside : Limits → Request → Store → Tracked → List Event → Request → Store → Tracked → Type 0
MovesBeside limits x s m events y s' m' = (p : Option (Meta × Reader)) (d : Option Decision) → IsOfWorld x → Moves limits (open_with d p x) s m events (open_with d p y) s' m'

-- the same of a call that takes this pair
abbrev pub MovesTaking : Limits → Meta × MemHitHandler → Request → Store → Tracked → List Event → Request → Store → Tracked → Type 0
MovesTaking limits pair x s m events y s' m' = (d : Option Decision) → Moves limits (open_with d (pair_read pair) x) s m events (open_with d None y) s' m'

-- the same for a call without events
abbrev pub MovesRequest : Option Ongoing → Option Ongoing → Type 0
MovesRequest q q' = (s : Store) → MovesStore q s [] q' s
