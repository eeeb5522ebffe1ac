-- The replies and the events of calls, by facts (own): the condition of each call, and its clause. If the condition fails,
-- the reply is WrongCall and nothing is done. Which lock a request is given is in `Waiting`; when its other events may come
-- is in `Due`.
use Rattle.std.specs.Prelude.{◌≡◌, ℕ, ◌^◌, ◌≤◌, ◌⊎◌, ◌&&◌, Bool, true, false, not, if◌then◌else◌, Option, Some, None, IsSome, is_some, List, [], ◌∷◌, ◌++◌, length}
use Rattle.pcache_base.specs.Key.{Key, slot}
use Rattle.pcache_meta.specs.Meta.{Meta}
use Rattle.pcache_base.specs.declared.error.ErrorType.{ErrorType}
use Rattle.pcache_base.specs.declared.error.ErrorType.TheVariants.{IncompleteHttpBody, InternalError, InvalidHttpHeader, Io, OutOfMemory, ResponseTooLarge, WriteRemoved, NumbersExhausted}
use Rattle.pcache_base.specs.declared.reason.NoCacheReason.{NoCacheReason}
use Rattle.pcache_put.specs.State.{Stage, InHead, InBody, HasDeclined, IsOver, write_in}
use Rattle.pcache_put.specs.Steps.{IsBegunBefore, stage_begun}
use Rattle.pcache_put.specs.declared.report.Written.{Written}
use Rattle.pcache_base.specs.declared.poll.Poll.{Poll}
use Rattle.pcache_base.specs.declared.poll.Poll.TheVariants.{Ready, Pending}
use Rattle.pcache_evict.specs.declared.eviction.entry_key.CacheEntryKey.{CacheEntryKey}
use Rattle.pcache_lock.specs.Permits.{Permit}
use Rattle.pcache_lock.specs.declared.lock.permit.Locked.{Locked}
use Rattle.pcache_lock.specs.declared.lock.permit.Locked.TheVariants.{Write, Read}
use Rattle.pcache_store.specs.Store.{Reader, gives_piece, reader_weight, write_read}
use Rattle.pcache_request.specs.declared.phase.HitStatus.{HitStatus}
use Rattle.pcache_lock.specs.declared.lock.outcome.LockWaitOutcome.{LockWaitOutcome}
use Rattle.pcache_request.specs.LockUse.{MaySetLock, gone_for, permit_in, read_in}
use Rattle.pcache_request.specs.LockWaits.{unusable_in}
use Rattle.pcache_request.specs.Phases.{IsDisabled, MayTakeKey, MayBypass, MayLookUp, MayMiss, IsFilling, IsStale, MayFinishHit, MayPurge, IsOn, is_fresh}
use Rattle.pcache_request.specs.Releasing.{MayDisable, MayRelease}
use Rattle.pcache_request.specs.Admissions.{is_deferral}
use Rattle.pcache_request.specs.Renewals.{renewed_by}
use Rattle.pcache_request.specs.Stale.{MayRevalidate}
use Rattle.pcache_request.specs.Variants.{is_unseen, leaves_variant, same_variance}
use Rattle.pcache_request.specs.Requests.{Request, MayTakeMeta, MayWrite, entry_of, counts_found, phase_found}
use Rattle.pcache_history.specs.declared.call.Act.{Act}
use Rattle.pcache_history.specs.declared.call.Act.TheVariants as C
use Rattle.pcache_history.specs.declared.call.RequestAct.TheVariants as Q
use Rattle.pcache_history.specs.declared.call.FilesAct.{FilesAct}
use Rattle.pcache_history.specs.declared.call.FilesAct.TheVariants as F
use Rattle.pcache_history.specs.declared.call.LockKind.{LockKind}
use Rattle.pcache_history.specs.declared.call.LockKind.TheVariants as kind
use Rattle.pcache_history.specs.declared.call.Reply.{Reply}
use Rattle.pcache_history.specs.declared.call.Reply.TheVariants as R
use Rattle.pcache_history.specs.declared.entry.Answer.{Answer}
use Rattle.pcache_history.specs.declared.entry.Answer.TheVariants as A
use Rattle.pcache_history.specs.declared.entry.Event.{Event}
use Rattle.pcache_history.specs.declared.entry.Event.TheVariants as E
use Rattle.pcache_history.specs.Facts.{Facts}
use Rattle.pcache_history.specs.Ongoing.{Ongoing, carrying, decides, pair_of, sought_in}
use Rattle.pcache_history.specs.Taking.{Taking, filling}

-- a permit may be handed to a request that is open, with caching on; not to a put
abbrev pub MayTake : Option Ongoing → Type 0
MayTake None = ⊥
MayTake (Some y) = IsOn y.request.phase × (y.put ≡ None)

-- files may be loaded if only loads came before
abbrev pub MayFile : Facts → FilesAct → Type 0
MayFile f F.Save = Unit {0}
MayFile f F.Load = f.early ≡ true

-- The condition of a call.
abbrev pub MayBe : Facts → Act → Option Ongoing → Type 0
MayBe f (C.Files a) q = MayFile f a
MayBe f (C.Open options) None = Unit {0}
MayBe f (C.Open options) (Some x) = ⊥
MayBe f (C.Put k limit) None = Unit {0}
MayBe f (C.Put k limit) (Some x) = ⊥
MayBe f act None = ⊥
MayBe f (C.Request (Q.Enable options)) (Some x) = IsDisabled x.request.phase
MayBe f (C.Request (Q.Disable why)) (Some x) = MayDisable why x.request
MayBe f (C.Request (Q.Key k)) (Some x) = MayTakeKey x.request.phase
MayBe f (C.Request (Q.Look t d)) (Some x) = MayLookUp x.request.phase
MayBe f (C.Request (Q.Vary v)) (Some x) = MayLookUp x.request.phase × IsSome x.pair
MayBe f (C.Request (Q.Found s t)) (Some x) = MayLookUp x.request.phase × IsSome x.pair
MayBe f (C.Request Q.Bypass) (Some x) = MayBypass x.request.phase
MayBe f (C.Request Q.Miss) (Some x) = MayMiss x.request.phase
MayBe f (C.Request (Q.Meta m)) (Some x) = MayTakeMeta x.request
MayBe f (C.Request Q.Begin) (Some x) = MayWrite x.request
MayBe f (C.Request (Q.Write bytes eof)) (Some x) = IsFilling x.request.phase × IsSome x.request.write × (f.told ≡ false)
MayBe f (C.Request Q.Finish) (Some x) = IsFilling x.request.phase
MayBe f (C.Request Q.Read) (Some x) = IsSome x.request.reader
MayBe f (C.Request (Q.Seek start end)) (Some x) = IsSome x.request.reader
MayBe f (C.Request Q.Done) (Some x) = MayFinishHit x.request.phase
MayBe f (C.Request Q.Purge) (Some x) = MayPurge x.request.phase
MayBe f (C.Request (Q.Expire t)) (Some x) = MayPurge x.request.phase
MayBe f (C.Request (Q.Lock is_used)) (Some x) = MaySetLock x.request
MayBe f (C.Wait t) (Some x) = IsSome (read_in x.request.held)
MayBe f (C.Request (Q.Publish tokens)) (Some x) = Unit {0}
MayBe f (C.Request (Q.Release why)) (Some x) = MayRelease why x.request.held
MayBe f (C.Give to) (Some x) = IsSome (permit_in x.request.held) × MayTake f.taker
MayBe f (C.Request Q.Updating) (Some x) = IsStale x.request.phase
MayBe f (C.Request (Q.Uncacheable h why)) (Some x) = MayRevalidate x.request × MayRelease why x.request.held
MayBe f (C.Request (Q.Variance v)) (Some x) = MayWrite x.request
MayBe f (C.Request (Q.Revalidate m)) (Some x) = MayRevalidate x.request
MayBe f (C.Request Q.Phase) (Some x) = Unit {0}
MayBe f C.End (Some x) = Unit {0}
MayBe f (C.Feed bytes t) (Some x) = Unit {0}
MayBe f C.Drop (Some x) = Unit {0}
MayBe f C.Close (Some x) = Unit {0}

-- what is open under the number that a call names is of its kind: a put for a call of puts, a request for other calls; a call on
-- files names none
abbrev pub IsOfKind : Act → Ongoing → Type 0
IsOfKind (C.Feed bytes t) x = IsSome x.put
IsOfKind C.Drop x = IsSome x.put
IsOfKind C.Close x = IsSome x.put
IsOfKind (C.Files a) x = Unit {0}
IsOfKind act x = x.put ≡ None

-- what is open under a number, if anything, is of the kind of the call
abbrev pub FindsKind : Act → Option Ongoing → Type 0
FindsKind act None = Unit {0}
FindsKind act (Some x) = IsOfKind act x

-- The terms of the clauses.

-- the call has this reply and makes no event
abbrev pub IsIdle : Reply → Reply → List Event → Type 0
IsIdle answer reply events = (reply ≡ answer) × (events ≡ [])

-- the call failed for memory and makes no event
abbrev pub IsStarved : Reply → List Event → Type 0
IsStarved reply events = IsIdle (R.Refused OutOfMemory) reply events

-- the number of the permit that is held, if one is
abbrev pub permit_of : Option Locked → Option ℕ
permit_of None = None
permit_of (Some (Write p)) = Some p.number
permit_of (Some (Read r)) = None

-- the event of a number, if there is one
abbrev pub each : (ℕ → Event) → Option ℕ → List Event
each f None = []
each f (Some n) = f n ∷ []

-- a held permit is let go, or released
abbrev pub let_go_of : Option Locked → List Event
let_go_of held = each E.LetGo (permit_of held)

-- a held permit is released
abbrev pub release_of : Option Locked → List Event
release_of held = each E.Release (permit_of held)

-- a write is dropped
abbrev pub drop_of : Option ℕ → List Event
drop_of w = each E.Dropped w

-- the kind of a lock that was given
abbrev pub kind_of : Bool → LockKind
kind_of true = kind.Write
kind_of false = kind.Read

-- a call may fail when memory runs out, or if it asks for the lock and all 64-bit numbers are used
abbrev pub IsLockRefusal : Facts → Bool → ErrorType → Type 0
IsLockRefusal f asks e = (e ≡ OutOfMemory) ⊎ ((e ≡ NumbersExhausted) × (asks ≡ true) × (2 ^ 64 ≤ f.asked))

-- the reply to a look-up that hands this on, or nothing
abbrev pub look_reply : Answer → Option LockKind → Reply
look_reply A.Nothing l = R.NotFound l
look_reply (A.Complete m body) l = R.Hit (length body)
look_reply (A.Streaming m w) l = R.Part

-- the lock of a slot is asked for, and a permit held before is let go; which lock is given is not said here
abbrev pub Asks : ℕ → Option Locked → List Event → Option LockKind → Type 0
Asks k held events l = (n : ℕ) × (is_permit : Bool) × (events ≡ E.Ask k n is_permit ∷ let_go_of held) × (l ≡ Some (kind_of is_permit))

-- the lock is asked for under a condition
abbrev pub AsksIf : Bool → ℕ → Option Locked → List Event → Option LockKind → Type 0
AsksIf true k held events l = Asks k held events l
AsksIf false k held events l = (events ≡ []) × (l ≡ None)

-- an access is recorded for a hit that counts, with the entry of its write and its weight
abbrev pub accesses : HitStatus → Key → Reader → Request → List Event
accesses s k h x = if counts_found s h x then E.Access (entry_of k (write_read h)) (reader_weight h) ∷ [] else []

-- a begin may fail when memory runs out, or if all numbers are used
abbrev pub IsBeginRefusal : ℕ → ErrorType → Type 0
IsBeginRefusal next e = (e ≡ OutOfMemory) ⊎ ((e ≡ NumbersExhausted) × (2 ^ 64 ≤ next))

-- bytes are added to the request's write
abbrev pub Writes : List ℕ → Bool → Request → Reply → List Event → Type 0
Writes bytes eof x reply events = IsStarved reply events ⊎ ((w : ℕ) × (x.write ≡ Some w) × (reply ≡ R.Done) × (events ≡ E.Wrote w bytes eof ∷ []))

-- the reply to a read that gave this
abbrev pub read_reply : Poll (Option (List ℕ)) → Reply
read_reply Pending = R.Pending
read_reply (Ready None) = R.Finished
read_reply (Ready (Some bs)) = R.Data bs

-- the request gives back all that it holds: its write is dropped, its permit let go
abbrev pub Ends : Request → Reply → List Event → Type 0
Ends x reply events = (reply ≡ R.Done) × (events ≡ drop_of x.write ++ let_go_of x.held)

-- The clauses.

-- the call is done without an event, or failed for memory
abbrev pub IsDone : Reply → List Event → Type 0
IsDone reply events = IsIdle R.Done reply events ⊎ IsStarved reply events

-- if nothing is handed on, the lock is asked for if one is in use
abbrev pub Misses : Facts → ℕ → Answer → Request → Reply → List Event → Type 0
Misses f k a x reply events =
    ((e : ErrorType) × (x.uses.lock ≡ true) × IsLockRefusal f true e × (events ≡ E.Look k a ∷ []) × (reply ≡ R.Refused e))
    ⊎ ((more : List Event) × (l : Option LockKind) × AsksIf x.uses.lock k x.held more l × (events ≡ E.Look k a ∷ more) × (reply ≡ R.NotFound l))

-- what is found is handed on, unless it is hidden
abbrev pub HandsOn : Bool → Facts → ℕ → Answer → Request → Reply → List Event → Type 0
HandsOn true f k a x reply events = Misses f k a x reply events
HandsOn false f k a x reply events = (events ≡ E.Look k a ∷ []) × (reply ≡ look_reply a None)

-- a deferred look-up turns caching off, and asks for no lock
abbrev pub LooksOn : Bool → Facts → ℕ → Answer → Request → Reply → List Event → Type 0
LooksOn true f k a x reply events = (events ≡ E.Look k a ∷ (release_of x.held ++ drop_of x.write)) × (reply ≡ R.NotFound None)
LooksOn false f k a x reply events = HandsOn (is_unseen x.valid_after (pair_of a)) f k a x reply events

-- a look-up reports what the store finds; if that is nothing, the policy in use decides, if it is asked; the look-up fails
-- for memory before it does anything only if the store finds something
abbrev pub Looks : Facts → Ongoing → Reply → List Event → Type 0
Looks f x reply events =
    (IsSome f.found × IsStarved reply events)
    ⊎ ((k : Key) × (a : Answer) × (x.request.key ≡ Some k) × (pair_of a ≡ f.found) × LooksOn (is_deferral (decides a x)) f (slot k) a x.request reply events)

-- a wait fails for memory only at the first poll of its read lock, and only if the key names fills that cannot be used
abbrev pub wait_reply : Poll LockWaitOutcome → Reply
wait_reply Pending = R.Waiting
wait_reply (Ready o) = R.Waited o

-- a read lock is held, and was polled
abbrev pub was_polled : Option Locked → Bool
was_polled None = false
was_polled (Some (Write p)) = false
was_polled (Some (Read rd)) = is_some rd.watch

-- the number of the read lock that is held
abbrev pub number_read : Option Locked → Option ℕ
number_read None = None
number_read (Some (Write p)) = None
number_read (Some (Read rd)) = Some rd.number

-- a wait: it fails for memory, or returns what the history says; a permit found too old is an event
abbrev pub Waits : Facts → ℕ → Request → Reply → List Event → Type 0
Waits f t x reply events =
    ((was_polled x.held ≡ false) × IsSome (unusable_in x.key) × IsIdle (R.Refused OutOfMemory) reply events)
    ⊎ ((reply ≡ wait_reply (f.wait t)) × (events ≡ (if f.too_old t then each E.Aged (number_read x.held) else [])))

-- whether the found response is of a variance
abbrev pub variance_reply : List ℕ → Option (Meta × Reader) → Reply
variance_reply v None = R.WrongCall
variance_reply v (Some p) = if same_variance p.0.variance (Some v) then R.Same else R.Other

-- a permit is released if the key loses its variance
abbrev pub release_by_variance : Option (List ℕ) → Request → List Event
release_by_variance v x = if leaves_variant v x.key then release_of x.held else []

-- the found pair is taken: the lock is asked for if the body is not served as it is
abbrev pub Takes : Facts → HitStatus → Request → Option (Meta × Reader) → Reply → List Event → Type 0
Takes f s x None reply events = ⊥
Takes f s x (Some p) reply events =
    IsStarved reply events
    ⊎ ((k : Key) × (x.key ≡ Some k) × (((e : ErrorType) × IsLockRefusal f (x.uses.lock && not (is_fresh s)) e × (reply ≡ R.Refused e) × (events ≡ accesses s k p.1 x))
    ⊎ ((more : List Event) × (l : Option LockKind) × AsksIf (x.uses.lock && not (is_fresh s)) (slot k) x.held more l
    × (events ≡ accesses s k p.1 x ++ more) × (reply ≡ R.Taken (phase_found s x.phase) l))))

-- a write begins with the next number, the request's slot and its meta
abbrev pub Begins : Facts → Request → Reply → List Event → Type 0
Begins f x reply events =
    ((e : ErrorType) × IsBeginRefusal f.next e × IsIdle (R.Refused e) reply events)
    ⊎ ((k : Key) × (m : Meta) × (x.key ≡ Some k) × (x.meta ≡ Some m) × (events ≡ E.Begin f.next (slot k) m ∷ release_of x.held)
    × ((reply ≡ R.Done) ⊎ (reply ≡ R.Refused OutOfMemory)))

-- the end of a write: an untouched one is stored and its entry, which has its number, admitted; if the manager fails, the key is
-- purged; the end of one that was removed fails; if memory runs out, the write is dropped
abbrev pub EndsFilling : Facts → Request → Key → ℕ → Reply → List Event → Type 0
EndsFilling f x k w reply events =
    ((out : List CacheEntryKey) × (f.untouched ≡ true)
    × (events ≡ E.Finish w true ∷ release_of x.held ++ E.Admit (entry_of k (Some w)) f.size out ∷ []) × (reply ≡ R.Stored f.size (length out)))
    ⊎ (((f.untouched ≡ true) × (events ≡ E.Finish w true ∷ release_of x.held ++ E.Purge (slot k) ∷ []) × (reply ≡ R.Refused OutOfMemory))
    ⊎ (((f.untouched ≡ false) × (events ≡ E.Finish w false ∷ release_of x.held) × (reply ≡ R.Refused WriteRemoved))
    ⊎ ((events ≡ E.Dropped w ∷ release_of x.held) × (reply ≡ R.Refused OutOfMemory))))

-- the end of a request's write, if it has one
abbrev pub Finishes : Facts → Request → Option ℕ → Reply → List Event → Type 0
Finishes f x None reply events = IsIdle R.Nothing reply events
Finishes f x (Some w) reply events = (k : Key) × (x.key ≡ Some k) × EndsFilling f x k w reply events

-- only a read that gives a piece may fail for memory, never the end; the bytes that a reader gave count as read even if
-- copying them fails
abbrev pub Reads : Facts → Reply → List Event → Type 0
Reads f reply events =
    ((gives_piece f.given ≡ true) × IsStarved reply events)
    ⊎ ((events ≡ E.Read f.given ∷ []) × ((reply ≡ read_reply f.given) ⊎ ((gives_piece f.given ≡ true) × (reply ≡ R.Refused OutOfMemory))))

-- the reply to a purge, and the entry that is untracked with it: the entry of the complete body, or of the key alone
abbrev pub purge_reply : Bool → Reply
purge_reply there = if there then R.Purged else R.Absent

-- the entry of a key is removed from the manager, under a condition
abbrev pub untrack_of : Bool → Key → Option ℕ → List Event
untrack_of goes k n = if goes then E.Untrack (entry_of k n) ∷ [] else []

-- a purge: what is stored for the key is removed, and its entry untracked
abbrev pub Purges : Facts → Request → Reply → List Event → Type 0
Purges f x reply events =
    IsStarved reply events
    ⊎ ((k : Key) × (x.key ≡ Some k) × (events ≡ E.Purge (slot k) ∷ untrack_of (f.there && x.uses.eviction) k f.number) × (reply ≡ purge_reply f.there))

-- the freshness of the complete body of the key ends, if there is one
abbrev pub expire_reply : Bool → Reply
expire_reply there = if there then R.Expired else R.Absent

-- an expiry: the freshness of the key's complete body ends
abbrev pub Expires : Facts → ℕ → Request → Reply → List Event → Type 0
Expires f now x reply events = IsStarved reply events ⊎ ((k : Key) × (x.key ≡ Some k) × (events ≡ E.Expire (slot k) now ∷ []) × (reply ≡ expire_reply f.complete))

-- the complete body of the key has the new meta from then on, if there is one; the permit is released, even if the store
-- fails
abbrev pub update_reply : Bool → Reply
update_reply there = if there then R.Updated else R.NotUpdated

-- the event of a renewed meta, if there is a complete body
abbrev pub renew_of : Bool → ℕ → Meta → List Event
renew_of there k m = if there then E.Renew k m ∷ [] else []

-- a revalidation: the complete body gets the renewed meta, and the permit is released
abbrev pub Renews : Facts → Meta → Request → Reply → List Event → Type 0
Renews f m x reply events =
    ((k : Key) × (x.key ≡ Some k) × (reply ≡ update_reply f.complete) × (events ≡ renew_of f.complete (slot k) (renewed_by m x.meta) ++ release_of x.held))
    ⊎ ((f.complete ≡ true) × (reply ≡ R.Refused OutOfMemory) × (events ≡ release_of x.held))

-- a reader is moved to another range, if its body has that range
abbrev pub seek_reply : Option Reader → Reply
seek_reply None = R.Refused InternalError
seek_reply (Some rd) = R.Done

-- a permit is handed over: a lock that the taker held is let go; if no lock is in use, the permit itself is
abbrev pub given_up : Option Permit → Option Ongoing → List Event
given_up None taker = []
given_up (Some p) None = []
given_up (Some p) (Some y) = let_go_of (gone_for p y.request)

-- ---- puts

-- the events of a piece, if this write is in flight then: that it began, if it did, and the bytes that were added, if any
-- were
abbrev pub began_noted : ℕ → Option ℕ → Option Meta → List Event
began_noted k None m = []
began_noted k (Some w) None = []
began_noted k (Some w) (Some m) = E.Begin w k m ∷ []

-- the event of bytes added to a write, if any were
abbrev pub wrote_noted : Option ℕ → Option Written → List Event
wrote_noted None b = []
wrote_noted (Some w) None = []
wrote_noted (Some w) (Some b) = E.Wrote w b.bytes b.eof ∷ []

abbrev pub piece_noted : ℕ → Option ℕ → Option Meta → Option Written → List Event
piece_noted k w m b = began_noted k w m ++ wrote_noted w b

-- a piece may fail when memory runs out, for the head or the length of the body, or if all numbers of writes are used:
-- never after the end of its write was announced, which only the put itself does
abbrev pub IsFeedRefusal : Facts → Stage → ErrorType → Type 0
IsFeedRefusal f stage OutOfMemory = Unit {0}
IsFeedRefusal f stage InvalidHttpHeader = Unit {0}
IsFeedRefusal f stage ResponseTooLarge = Unit {0}
IsFeedRefusal f InHead NumbersExhausted = 2 ^ 64 ≤ f.next
IsFeedRefusal f stage e = ⊥

-- the put goes on, nothing is stored, or the piece fails: then nothing of it was written, though its write may have begun, and
-- the write that is in flight is dropped
abbrev pub TakesPiece : Facts → ℕ → Stage → Option ℕ → Option Meta → Option Written → Reply → List Event → Type 0
TakesPiece f k stage w m b reply events =
    ((reply ≡ R.Done) × (events ≡ piece_noted k w m b))
    ⊎ (((reason : NoCacheReason) × (w ≡ None) × IsIdle (R.NotCached reason) reply events)
    ⊎ ((e : ErrorType) × IsFeedRefusal f stage e × IsBegunBefore stage e m × (reply ≡ R.Refused e) × (events ≡ piece_noted k w m None ++ drop_of w)))

-- a reason and an error are returned again; a write begins only if the head ends, with the next number
abbrev pub FeedsAt : Facts → ℕ → Stage → Reply → List Event → Type 0
FeedsAt f k InHead reply events = (m : Option Meta) × (b : Option Written) × TakesPiece f k InHead (write_in (stage_begun InHead m f.next (Some f.next))) m b reply events
FeedsAt f k (InBody w id until) reply events = (b : Option Written) × TakesPiece f k (InBody w id until) (Some w) None b reply events
FeedsAt f k (HasDeclined reason) reply events = IsIdle (R.NotCached reason) reply events
FeedsAt f k (IsOver kind) reply events = IsIdle (R.Refused kind) reply events

-- a piece of a put
abbrev pub Feeds : Facts → Option Taking → Reply → List Event → Type 0
Feeds f None reply events = ⊥
Feeds f (Some p) reply events = FeedsAt f (slot p.key) p.stage reply events

-- the write of a put ends too early and is dropped, or ends as any write does
abbrev pub ClosesAt : Facts → Key → Stage → Reply → List Event → Type 0
ClosesAt f k InHead reply events = IsIdle (R.Refused IncompleteHttpBody) reply events
ClosesAt f k (InBody w id until) reply events = ((events ≡ E.Dropped w ∷ []) × (reply ≡ R.Refused IncompleteHttpBody)) ⊎ EndsFilling f (filling k (Some w) id) k w reply events
ClosesAt f k (HasDeclined reason) reply events = IsIdle (R.NotCached reason) reply events
ClosesAt f k (IsOver kind) reply events = IsIdle (R.Refused kind) reply events

-- the end of a put
abbrev pub Closes : Facts → Option Taking → Reply → List Event → Type 0
Closes f None reply events = ⊥
Closes f (Some p) reply events = ClosesAt f p.key p.stage reply events

-- the replies to a save and a load are those of the manager: it is done, and a load says how many files were skipped; or it
-- fails when memory runs out, if a file is no file of a manager, or if the device failed
abbrev pub IsFilesRefusal : ErrorType → Type 0
IsFilesRefusal OutOfMemory = Unit {0}
IsFilesRefusal InternalError = Unit {0}
IsFilesRefusal Io = Unit {0}
IsFilesRefusal e = ⊥

abbrev pub IsFilesReply : FilesAct → Reply → Type 0
IsFilesReply F.Save R.Done = Unit {0}
IsFilesReply F.Load (R.Loaded skipped) = Unit {0}
IsFilesReply a (R.Refused e) = IsFilesRefusal e
IsFilesReply a reply = ⊥

-- the clause of each call: its reply and its events, if its condition holds
abbrev pub Does : Facts → Act → Option Ongoing → Reply → List Event → Type 0
Does f (C.Files a) q reply events = IsFilesReply a reply × (events ≡ [])
Does f (C.Open options) q reply events = IsDone reply events
Does f (C.Put k limit) q reply events = IsDone reply events
Does f act None reply events = ⊥
Does f (C.Request (Q.Enable options)) (Some x) reply events = IsIdle R.Done reply events
Does f (C.Request (Q.Disable why)) (Some x) reply events = (reply ≡ R.Done) × (events ≡ release_of x.request.held ++ drop_of x.request.write)
Does f (C.Request (Q.Key k)) (Some x) reply events = IsDone reply events
Does f (C.Request (Q.Look t d)) (Some x) reply events = Looks f (carrying d x) reply events
Does f (C.Request (Q.Vary v)) (Some x) reply events = IsIdle (variance_reply v x.pair) reply events
Does f (C.Request (Q.Found s t)) (Some x) reply events = Takes f s x.request x.pair reply events
Does f (C.Request Q.Bypass) (Some x) reply events = IsIdle R.Done reply events
Does f (C.Request Q.Miss) (Some x) reply events = IsIdle R.Done reply events
Does f (C.Request (Q.Meta m)) (Some x) reply events = IsDone reply events
Does f (C.Request Q.Begin) (Some x) reply events = Begins f x.request reply events
Does f (C.Request (Q.Write bytes eof)) (Some x) reply events = Writes bytes eof x.request reply events
Does f (C.Request Q.Finish) (Some x) reply events = Finishes f x.request x.request.write reply events
Does f (C.Request Q.Read) (Some x) reply events = Reads f reply events
Does f (C.Request (Q.Seek start end)) (Some x) reply events = IsIdle (seek_reply (sought_in start end x.request.reader)) reply events
Does f (C.Request Q.Done) (Some x) reply events = IsDone reply events
Does f (C.Request Q.Purge) (Some x) reply events = Purges f x.request reply events
Does f (C.Request (Q.Expire t)) (Some x) reply events = Expires f t x.request reply events
Does f (C.Request (Q.Lock is_used)) (Some x) reply events = IsIdle R.Done reply events
Does f (C.Wait t) (Some x) reply events = Waits f t x.request reply events
Does f (C.Request (Q.Publish tokens)) (Some x) reply events = IsDone reply events
Does f (C.Request (Q.Release why)) (Some x) reply events = (reply ≡ R.Done) × (events ≡ release_of x.request.held)
Does f (C.Give to) (Some x) reply events = (reply ≡ R.Done) × (events ≡ given_up (permit_in x.request.held) f.taker)
Does f (C.Request Q.Updating) (Some x) reply events = IsIdle R.Done reply events
Does f (C.Request (Q.Uncacheable h why)) (Some x) reply events = IsStarved reply events ⊎ ((reply ≡ R.Done) × (events ≡ release_of x.request.held))
Does f (C.Request (Q.Variance v)) (Some x) reply events = (reply ≡ R.Done) × (events ≡ release_by_variance v x.request)
Does f (C.Request (Q.Revalidate m)) (Some x) reply events = Renews f m x.request reply events
Does f (C.Request Q.Phase) (Some x) reply events = IsIdle (R.Phase x.request.phase) reply events
Does f C.End (Some x) reply events = Ends x.request reply events
Does f (C.Feed bytes t) (Some x) reply events = Feeds f x.put reply events
Does f C.Drop (Some x) reply events = (reply ≡ R.Done) × (events ≡ drop_of x.request.write)
Does f C.Close (Some x) reply events = Closes f x.put reply events

-- a reply other than WrongCall
abbrev pub IsOther : Reply → Type 0
IsOther R.WrongCall = ⊥
IsOther _ = Unit {0}

-- the reply and the events of a call
abbrev pub FollowsRule : Facts → Act → Option Ongoing → Reply → List Event → Type 0
FollowsRule f act q reply events = (MayBe f act q × IsOther reply × Does f act q reply events) ⊎ ((MayBe f act q → ⊥) × IsIdle R.WrongCall reply events)

-- the same, for a number under which a request or a put may be open: the reply to a call of the other kind is
-- WrongCall
abbrev pub Replies : Facts → Act → Option Ongoing → Reply → List Event → Type 0
Replies f act q reply events = (FindsKind act q × FollowsRule f act q reply events) ⊎ ((FindsKind act q → ⊥) × IsIdle R.WrongCall reply events)

-- a reply and its copy: they are equal, or copying its bytes failed
abbrev pub IsCopy : Reply → Reply → Type 0
IsCopy reply told = (told ≡ reply) ⊎ ((told ≡ R.Refused OutOfMemory) × ((bytes : List ℕ) × (reply ≡ R.Data bytes)))
