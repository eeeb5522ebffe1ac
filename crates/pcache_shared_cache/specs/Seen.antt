-- What a thread has seen of a part. The log of a part has each state that the part had, the oldest first, and only grows; what was
-- seen of it is a beginning of it (own).
use Rattle.std.specs.Prelude.{◌≡◌, ◌⊎◌, ℕ, Option, None, Some, IfSome, List, [], ◌∷◌, ◌++◌, map, slice_get}
use mathlib.Core.List.{IsPrefix}
use Rattle.pcache_cache.specs.Growing.{Grew}
use Rattle.pcache_cache.specs.Parts.{Parts, IsBounded, TracksExactly}
use Rattle.pcache_cache.specs.Strays.{SumsToStored}
use Rattle.pcache_cache.specs.declared.weighing.Weighing.TheVariants.{Entries}
use Rattle.pcache_evict.specs.declared.eviction.policy.EvictionPolicy.TheVariants.{Own}
use Rattle.pcache_evict.specs.Tracked.{Limits, limits_of}
use Rattle.pcache_lock.specs.PastLaws.{AtMostOneWaits, GivesByPast, OneFetchAtATime}
use Rattle.pcache_shared_cache.specs.Managed.{no_entries, opened}
use Rattle.pcache_store.specs.OneResponse.{MetasAreTheirs}
use Rattle.pcache_store.specs.PastLaws.{BodiesAreLast, BodiesGetNewer, BodiesGrow, Finds, Finishes, FoundIsOfItsWrite, NewestStands, NothingIsLost, PurgedIsGone, ReadsInOrder}

-- a log, or what was seen of one, and the place of the part
pub record Placed : Type 0 where
  pub place : ℕ
  pub log : List Parts

-- a part as the lock lends it: its place, its log, and the state that it has
pub record Held : Type 0 where
  pub place : ℕ
  pub log : List Parts
  pub now : Parts

-- a part's beginning: its place, and its first state
pub record Begun : Type 0 where
  pub place : ℕ
  pub first : Parts

abbrev pub begun_first : Begun → Parts
begun_first b = b.first

-- the log of a part that just began, in this state
abbrev pub StartsWith : List Parts → Parts → Type 0
StartsWith log first = log ≡ first ∷ []

-- the first state of a log; the log of a part has one
abbrev pub first_of : List Parts → Parts
first_of [] = opened 0 (no_entries (limits_of Own 0 None))
first_of (p ∷ later) = p

-- the limits of these states
abbrev pub limits_in : List Parts → List Limits
limits_in ps = map (λ p. p.limits) ps

-- a log ends with this state
abbrev pub EndsWith : List Parts → Parts → Type 0
EndsWith log p = (earlier : List Parts) × (log ≡ earlier ++ p ∷ [])

-- What holds of each state, as `Cache::headline` says it: of its store by its past, of its locks by its deeds, and of what is
-- tracked. An entry weighs all that is kept for it.
pub record IsSound (p : Parts) : Type 0 where
  pub finds : Finds p.store p.past
  pub finishes : Finishes p.store p.past
  pub purged : PurgedIsGone p.store p.past
  pub kept : NothingIsLost p.store p.past
  pub bodies : BodiesAreLast p.store p.past
  pub found : FoundIsOfItsWrite p.store p.past
  pub metas : MetasAreTheirs p.store p.past
  pub reads : ReadsInOrder p.store p.past
  pub grows : BodiesGrow p.store p.past
  pub newest : NewestStands p.store p.past
  pub newer : BodiesGetNewer p.past
  pub tracked : TracksExactly p.weighing p.store p.tracked
  pub bounded : IsBounded p.weighing p.limits p.store
  pub sums : SumsToStored p
  pub one : AtMostOneWaits p.deeds
  pub gives : GivesByPast p.locks p.deeds
  pub fetches : OneFetchAtATime p.deeds
  pub weighing : p.weighing ≡ Entries

-- a call led from the state p to q: no call changes a part's limits, what its entries weigh or the age at which its permits are too
-- old, and of what was done to the store and to the locks nothing is forgotten
pub record Leads (p q : Parts) : Type 0 where
  pub limits : q.limits ≡ p.limits
  pub weighing : q.weighing ≡ p.weighing
  pub age : q.locks.age_timeout ≡ p.locks.age_timeout
  pub past : Grew p.past q.past
  pub deeds : Grew p.deeds q.deeds

-- each of these states is sound, and a call led to it from the one before it, to the first one from p
abbrev pub goes_on : Parts → List Parts → Type 0
goes_on p [] = Unit {0}
goes_on p (q ∷ later) = (Leads p q × IsSound q) × goes_on q later

-- the log of a part: it has a first state, each is sound, and a call led to each later one from the one before it
abbrev pub IsLog : List Parts → Type 0
IsLog [] = ⊥
IsLog (p ∷ later) = IsSound p × goes_on p later

-- a keeper or what was seen has the name that a mark gives to the place, if it gives one
abbrev pub IsNamed : Option ℕ → ℕ → Type 0
IsNamed named name = IfSome named (λ n. name ≡ n)

-- what was seen before is a beginning of a log, if the mark names the place
abbrev pub Begins : Option ℕ → List Parts → List Parts → Type 0
Begins named old log = IfSome named (λ _. IsPrefix old log)

-- A call found the part in the state p. It had seen `old`, and has seen `new` now.
abbrev pub Looks : Option ℕ → List Parts → List Parts → Parts → Type 0
Looks named old new p = Begins named old new × EndsWith new p

-- A call found the part in the state p, and left it in the state q. It had seen `old`, and has seen `new` now: all that others did
-- before it, and q.
abbrev pub Moves : Option ℕ → List Parts → List Parts → Parts → Parts → Type 0
Moves named old new p q = (before : List Parts) × Begins named old before × EndsWith before p × (new ≡ before ++ q ∷ [])

-- A call that found the part at this place in the state p and left it in the state q, of which P holds. The parts began in these
-- states; p has the limits with which its part began, and so has q, since no call changes them.
abbrev pub Goes : List Parts → (ℕ → Option ℕ) → ℕ → List Parts → List Parts → (Parts → Parts → Type 0) → Type 0
Goes firsts names place old new P = (p q : Parts) × (slice_get (limits_in firsts) place ≡ Some p.limits) × Moves (names place) old new p q × P p q

-- A call that left the part as it was, in a state p, of which P holds. p has the limits of the part, or is one that was seen before.
abbrev pub Sees : List Parts → (ℕ → Option ℕ) → ℕ → List Parts → List Parts → (Parts → Type 0) → Type 0
Sees firsts names place old new P = (p : Parts) × ((slice_get (limits_in firsts) place ≡ Some p.limits) ⊎ (new ≡ old)) × Looks (names place) old new p × P p

-- the keepers of these names, one for each place, are those that a mark names
abbrev pub AreNamed : (ℕ → Option ℕ) → List ℕ → Type 0
AreNamed names keepers = (place name : ℕ) → slice_get keepers place ≡ Some name → IsNamed (names place) name

-- each part is at its place
abbrev pub ArePlaced : List Begun → Type 0
ArePlaced parts = (place : ℕ) (p : Begun) → slice_get parts place ≡ Some p → p.place ≡ place
