-- What the entries of a history do to locks, as deeds of the lock table with who did them, and what a list of deeds says
-- (own). Deeds are listed newest first, those of one call oldest first. What concerns a lock alone is said by the table's
-- own words, of the deeds that the table's past has too (`done`).
use Rattle.std.specs.Prelude.{ℕ, ◌==◌, Bool, false, cond, if◌then◌else◌, Option, None, Some, List, [], ◌∷◌, ◌++◌, reverse}
use Rattle.std.specs.List.{list_any}
use Rattle.std.specs.Option.{option_map}
use Rattle.pcache_base.specs.declared.poll.Poll.TheVariants.{Pending}
use Rattle.pcache_lock.specs.Deeds as table
use Rattle.pcache_lock.specs.declared.lock.permit.Locked.{Locked}
use Rattle.pcache_lock.specs.declared.lock.permit.Locked.TheVariants.{Write, Read}
use Rattle.pcache_lock.specs.declared.lock.status.LockStatus.{LockStatus}
use Rattle.pcache_lock.specs.declared.lock.status.LockStatus.TheVariants.{Done, TransientError, GiveUp}
use Rattle.pcache_request.specs.Releasing.{status_for}
use Rattle.pcache_history.specs.declared.call.Act.{Act}
use Rattle.pcache_history.specs.declared.call.Act.TheVariants as C
use Rattle.pcache_history.specs.declared.call.RequestAct.TheVariants as Q
use Rattle.pcache_history.specs.declared.entry.Entry.{Entry}
use Rattle.pcache_history.specs.declared.entry.Event.{Event}
use Rattle.pcache_history.specs.declared.entry.Event.TheVariants as E
use Rattle.pcache_history.specs.Ongoing.{Ongoing, ReplyKind, was_done, was_waited, kind_of_reply, request_of}

-- what an entry does to locks
pub data Deed : Type 0 where
  -- a request does this to the lock table. Whether a permit is to replace a stale entry no event tells, and no word here asks
  Did : (by : ℕ) (deed : table.Deed) → Deed
  -- a held permit is handed to a request; a request polls its read lock, and has to wait
  Handed : (lock by : ℕ) → Deed
  Polled : (by : ℕ) → Deed

-- The deeds of an entry.

-- the moment that a call brings
abbrev pub moment_of : Act → ℕ
moment_of (C.Request (Q.Look t d)) = t
moment_of (C.Request (Q.Found s t)) = t
moment_of (C.Wait t) = t
moment_of _ = 0

-- whether an event stores a body
abbrev pub keeps : Event → Bool
keeps (E.Finish w kept) = kept
keeps _ = false

-- the status that a permit is released with: that of the reason that a call brings; after the end of a write, by whether it
-- was stored; after a deferred look-up one that leaves the key to others
abbrev pub status_left : Act → List Event → LockStatus
status_left (C.Request (Q.Disable why)) events = status_for (λ text. GiveUp) why
status_left (C.Request (Q.Look t d)) events = TransientError
status_left (C.Request Q.Finish) events = cond (list_any keeps events) Done TransientError
status_left (C.Request (Q.Release why)) events = status_for (λ text. GiveUp) why
status_left (C.Request (Q.Uncacheable h why)) events = status_for (λ text. GiveUp) why
status_left _ events = Done

-- the deed of one event, of a call of the request r at a moment, which releases with this status
abbrev pub deed_of : ℕ → ℕ → LockStatus → Event → List Deed
deed_of r at s (E.Ask k n is_permit) = Did r (table.asked k false at n is_permit) ∷ []
deed_of r at s (E.Release n) = Did r (table.Released n s) ∷ []
deed_of r at s (E.LetGo n) = Did r (table.LetGo n) ∷ []
deed_of r at s (E.Aged n) = Did r (table.Aged n at) ∷ []
deed_of r at s _ = []

-- the deeds of these events, of a call of the request r at a moment, which releases with this status
abbrev pub deeds_by : ℕ → ℕ → LockStatus → List Event → List Deed
deeds_by r at s [] = []
deeds_by r at s (e ∷ events) = deed_of r at s e ++ deeds_by r at s events

-- the lock that is held
abbrev pub held_in : Option Ongoing → Option Locked
held_in None = None
held_in (Some x) = x.request.held

-- tokens are published if a permit is held; a permit that is held is handed over
abbrev pub published_on : ℕ → List ℕ → Option Locked → List Deed
published_on r tokens None = []
published_on r tokens (Some (Write p)) = Did r (table.Published p.number tokens) ∷ []
published_on r tokens (Some (Read rd)) = []

abbrev pub handed_on : ℕ → Option Locked → List Deed
handed_on to None = []
handed_on to (Some (Write p)) = Handed p.number to ∷ []
handed_on to (Some (Read rd)) = []

-- what a call does to locks that no event shows: tokens are published, if a permit is held; a wait has to go on; a permit is
-- handed over
abbrev pub said_by : ℕ → Act → ReplyKind → Option Locked → List Deed
said_by r (C.Request (Q.Publish tokens)) was_done held = published_on r tokens held
said_by r (C.Wait t) (was_waited Pending) held = Polled r ∷ []
said_by r (C.Give to) was_done held = handed_on to held
said_by r _ _ held = []

-- the deeds of a call of the request r
abbrev pub deeds_in : ℕ → Act → ReplyKind → List Event → Option Ongoing → List Deed
deeds_in r act o events q = said_by r act o (held_in q) ++ deeds_by r (moment_of act) (status_left act events) events

-- the deeds of a history
abbrev pub deeds_of : List Entry → List Deed
deeds_of [] = []
deeds_of (e ∷ h) = reverse (deeds_in e.call.request e.call.act (kind_of_reply e.reply) e.events (request_of e.call.request h)) ++ deeds_of h

-- the deeds that the past of the lock table has too
abbrev pub done : List Deed → List table.Deed
done [] = []
done (Did r deed ∷ ds) = deed ∷ done ds
done (_ ∷ ds) = done ds

-- What one deed says.

-- the request that holds a permit
abbrev pub holds_at : ℕ → Deed → Option ℕ → Option ℕ
holds_at l (Did r (table.Granted k n stale t)) before = if n == l then Some r else before
holds_at l (Did r (table.Made n age stale t)) before = if n == l then Some r else before
holds_at l (Did r (table.Released n s)) before = if n == l then None else before
holds_at l (Did r (table.LetGo n)) before = if n == l then None else before
holds_at l (Handed n r) before = if n == l then option_map (λ _. r) before else before
holds_at l _ before = before

-- the current publication
abbrev pub publication_at : ℕ → Deed → List ℕ → List ℕ
publication_at l (Did r (table.Granted k n stale t)) before = if n == l then [] else before
publication_at l (Did r (table.Made n age stale t)) before = if n == l then [] else before
publication_at l (Did r (table.Published n tokens)) before = if n == l then tokens else before
publication_at l _ before = before

-- one more publication for a reader that has some; for one that has none, the current one
abbrev pub shown_more : List ℕ → List (List ℕ) → List (List ℕ)
shown_more p [] = []
shown_more p (q ∷ qs) = (q ∷ qs) ++ p ∷ []

-- the first publication that a reader has to look at is the one that was current at its first poll
abbrev pub shown_first : List ℕ → List (List ℕ) → List (List ℕ)
shown_first p [] = p ∷ []
shown_first p (q ∷ qs) = q ∷ qs

-- the publications of the lock l that the request r, which waits for it, has to look at: the one that is current at its
-- first poll, and the later ones
abbrev pub shown_at : ℕ → ℕ → List ℕ → Deed → List (List ℕ) → List (List ℕ)
shown_at r l publication (Did q (table.Granted k n stale t)) before = if q == r then [] else before
shown_at r l publication (Did q (table.Joined k n t)) before = if q == r then [] else before
shown_at r l publication (Did q (table.Published n tokens)) before = if n == l then shown_more tokens before else before
shown_at r l publication (Polled q) before = if q == r then shown_first publication before else before
shown_at r l publication _ before = before

-- What a list of deeds says.

-- the request that holds a permit
abbrev pub who_holds : ℕ → List Deed → Option ℕ
who_holds l [] = None
who_holds l (d ∷ ds) = holds_at l d (who_holds l ds)

-- the current publication of a permit
abbrev pub publication : ℕ → List Deed → List ℕ
publication l [] = []
publication l (d ∷ ds) = publication_at l d (publication l ds)

-- the publications of the lock l that the request r has to look at
abbrev pub shown : ℕ → ℕ → List Deed → List (List ℕ)
shown r l [] = []
shown r l (d ∷ ds) = shown_at r l (publication l ds) d (shown r l ds)
