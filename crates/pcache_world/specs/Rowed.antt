-- What calls make of what is open under a number, where requests are a list (own).
use Rattle.std.specs.Prelude.{ℕ, Option, None, Some, List}
use Rattle.pcache_evict.specs.Tracked.{Tracked, Limits}
use Rattle.pcache_lock.specs.Locks.{Locks}
use Rattle.pcache_lock.specs.declared.lock.status.LockStatus.TheVariants.{Done}
use Rattle.pcache_put.specs.Puts.{Says}
use Rattle.pcache_store.specs.Store.{Store}
use Rattle.pcache_history.specs.declared.call.Act.{Act}
use Rattle.pcache_history.specs.declared.call.Reply.{Reply}
use Rattle.pcache_history.specs.declared.entry.Event.{Event}
use Rattle.pcache_history.specs.Deeds.{deeds_by, held_in}
use Rattle.pcache_history.specs.Due.{IsOfWorld, IsOfWorldIn}
use Rattle.pcache_history.specs.Facts.{request_in}
use Rattle.pcache_history.specs.Ongoing.{Ongoing, row}
use Rattle.pcache_history.specs.Rules.{Closes, Feeds, Replies}
use Rattle.pcache_world.specs.Handing.{open_at}
use Rattle.pcache_world.specs.LockMoves.{MovesLocks}
use Rattle.pcache_world.specs.Moved.{Moves, MovesParts, MovesStore}
use Rattle.pcache_world.specs.PartFacts.{facts_in, facts_of}
use Rattle.pcache_world.specs.PutsSound.{HasSome, PutTurn}
use Rattle.pcache_world.specs.State.{State}
use Rattle.pcache_world.specs.Step.{Turns}

-- what is open under a number, as the row of a call leaves it
abbrev pub row_at : ℕ → Act → Reply → List Event → List (ℕ × Ongoing) → Option Ongoing
row_at n act reply events all = row act reply events (open_at n all)

-- how such a call moves the store, and at an end the locks
abbrev pub MovesStoreAt : ℕ → Act → Reply → List Event → List (ℕ × Ongoing) → Store → Store → Type 0
MovesStoreAt n act reply events all s s' = MovesStore (open_at n all) s events (row_at n act reply events all) s'

abbrev pub MovesLocksAt : ℕ → Act → Reply → List Event → List (ℕ × Ongoing) → Locks → Locks → Type 0
MovesLocksAt n act reply events all t u = (r : ℕ) → MovesLocks r (deeds_by r 0 Done events) (held_in (open_at n all)) t (held_in (row_at n act reply events all)) u

-- what it says of a put: by its row, and by what is open under the number after it
abbrev pub PutRowAt : Says → ℕ → Act → Reply → List Event → List (ℕ × Ongoing) → Type 0
PutRowAt says n act reply events all = PutTurn says act reply events (open_at n all) (row_at n act reply events all)

abbrev pub PutTurnAt : Says → ℕ → Act → Reply → List Event → List (ℕ × Ongoing) → List (ℕ × Ongoing) → Type 0
PutTurnAt says n act reply events all all' = PutTurn says act reply events (open_at n all) (open_at n all')

-- Of a put that has taken in some pieces.

-- a piece, and a close, follow their rules
abbrev pub FeedsSome : Says → Store → Ongoing → Reply → List Event → Type 0
FeedsSome says s x reply events = (t : Locks) → HasSome says s (Some x) → Feeds (facts_in s t x.request) x.put reply events

abbrev pub ClosesSome : Says → Store → Ongoing → Reply → List Event → Type 0
ClosesSome says s x reply events = (t : Locks) → HasSome says s (Some x) → Closes (facts_in s t x.request) x.put reply events

-- the same of the parts as one value
abbrev pub ClosesOf : Says → State → Ongoing → Reply → List Event → Type 0
ClosesOf says p x reply events = HasSome says p.store (Some x) → Closes (facts_of p x.request) x.put reply events

-- how a close moves the store and the tracked entries
abbrev pub MovesClosed : Says → Limits → Ongoing → Store → Tracked → List Event → Store → Tracked → Type 0
MovesClosed says limits x s m events s' m' = IsOfWorld x.request → HasSome says s (Some x) → Moves limits (Some x) s m events None s' m'

-- the reply and the events of a call of what is open, by the parts
abbrev pub AnswersIfSome : Says → Act → Option Ongoing → State → Reply → List Event → Type 0
AnswersIfSome says act q p reply events = HasSome says p.store q → Replies (facts_of p (request_in q)) act q reply events

-- how the call moves the parts, if what is open is of this world; and by its row
abbrev pub MovesIfSome : Says → Option Ongoing → State → List Event → Option Ongoing → State → Type 0
MovesIfSome says q p events q' p' = IsOfWorldIn q → HasSome says p.store q → MovesParts q p events q' p'

abbrev pub MovesPartsAt : Says → ℕ → Act → Reply → List Event → List (ℕ × Ongoing) → State → State → Type 0
MovesPartsAt says n act reply events all p p' = MovesIfSome says (open_at n all) p events (row_at n act reply events all) p'

-- the call is one turn of what is open under a number, under the same conditions
abbrev pub TurnsAt : Says → ℕ → Act → List (ℕ × Ongoing) → State → Reply → List Event → List (ℕ × Ongoing) → State → Type 0
TurnsAt says n act all p reply events all' p' = IsOfWorldIn (open_at n all) → HasSome says p.store (open_at n all) → Turns n act (open_at n all) p reply events (open_at n all') p'
