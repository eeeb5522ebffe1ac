-- For the prover: one call over the parts of a world, as the code makes it (own).
use Rattle.std.specs.Prelude.{◌≡◌, ℕ, ◌++◌, Bool, false, cond, Option, Some, None, IsSome, List, [], ◌∷◌, Result, Ok, Err}
use Rattle.std.specs.Ordering.{nat_cmp}
use Rattle.std.specs.Map.{lookup}
use Rattle.std.specs.Option.{option_map}
use Rattle.std.specs.BTreeMap.{is_at}
use Rattle.pcache_meta.specs.Meta.{Meta}
use Rattle.pcache_predict.specs.declared.admission.Decision.{Decision}
use Rattle.pcache_base.specs.declared.error.ErrorType.{ErrorType}
use Rattle.pcache_base.specs.declared.error.ErrorType.TheVariants.{WriteRemoved}
use Rattle.pcache_evict.specs.Tracked.{Tracked, Limits}
use Rattle.pcache_evict.specs.declared.eviction.entry_key.CacheEntryKey.{CacheEntryKey}
use Rattle.pcache_lock.specs.Locks.{Locks}
use Rattle.pcache_request.specs.declared.cache.report.Access.{Access}
use Rattle.pcache_request.specs.declared.cache.report.AskedLock.{AskedLock}
use Rattle.pcache_request.specs.declared.cache.report.LockName.{LockName}
use Rattle.pcache_request.specs.declared.cache.report.LookUp.{LookUp}
use Rattle.pcache_request.specs.declared.cache.report.LookUp.TheVariants.{Found, NotFound, Deferred}
use Rattle.pcache_request.specs.declared.cache.report.ReleasedLock.{ReleasedLock}
use Rattle.pcache_request.specs.Requests.{Request, left_by, dropped_by}
use Rattle.pcache_store.specs.Readers.{reader_of}
use Rattle.pcache_store.specs.Store.{Store, Reader}
use Rattle.pcache_history.specs.declared.call.Act.{Act}
use Rattle.pcache_history.specs.declared.call.Act.TheVariants as C
use Rattle.pcache_history.specs.declared.call.RequestAct.TheVariants as Q
use Rattle.pcache_store.specs.declared.memory.hit.MemHitHandler.{MemHitHandler}
use Rattle.pcache_history.specs.declared.call.LockKind.{LockKind}
use Rattle.pcache_history.specs.declared.call.Reply.{Reply}
use Rattle.pcache_history.specs.declared.call.Reply.TheVariants as R
use Rattle.pcache_history.specs.declared.entry.Answer.{Answer}
use Rattle.pcache_history.specs.declared.entry.Event.{Event}
use Rattle.pcache_history.specs.declared.entry.Event.TheVariants as E
use Rattle.pcache_history.specs.Due.{KeepsKey}
use Rattle.pcache_history.specs.Facts.{request_in}
use Rattle.pcache_history.specs.Deeds.{deeds_in, held_in}
use Rattle.pcache_history.specs.Ongoing.{Ongoing, kind_of_reply, row, pair_of, pair_reader}
use Rattle.pcache_world.specs.LockMoves.{MovesLocks}
use Rattle.pcache_world.specs.Moved.{Moves}
use Rattle.pcache_world.specs.Opens.{open_with, pair_read}
use Rattle.pcache_world.specs.PartFacts.{facts_in, facts_of}
use Rattle.pcache_world.specs.State.{State}
use Rattle.pcache_world.specs.Untold.{untold}
use Rattle.pcache_history.specs.Rules.{FollowsRule, Replies, drop_of, each, kind_of, look_reply, renew_of, update_reply}

-- a pair that a look-up may give
abbrev pub IsAnswered : Meta → Reader → Type 0
IsAnswered m reader = (a : Answer) × (pair_of a ≡ Some (m, reader))

-- the number of a lock, if it is a permit
abbrev pub permit_in : Option LockName → Option ℕ
permit_in None = None
permit_in (Some l) = cond l.is_permit (Some l.number) None

-- the number of a permit that was released
abbrev pub permit_released : Option ReleasedLock → Option ℕ
permit_released None = None
permit_released (Some r) = permit_in (Some r.lock)

-- the events of the lock that was asked for, if one was, with the permit that it replaced; and the reply
abbrev pub asking : ℕ → Option AskedLock → List Event
asking k None = []
asking k (Some a) = E.Ask k a.given.number a.given.is_permit ∷ each E.LetGo (permit_in a.replaced)

-- the kind of the lock that was asked for
abbrev pub kind_asked : Option AskedLock → Option LockKind
kind_asked None = None
kind_asked (Some a) = Some (kind_of a.given.is_permit)

-- the events of an access, if one was recorded
abbrev pub noting : Option Access → List Event
noting None = []
noting (Some a) = E.Access a.entry a.weight ∷ []

-- the events of the entry that was removed with a purge, if one was
abbrev pub untracking : Option CacheEntryKey → List Event
untracking None = []
untracking (Some e) = E.Untrack e ∷ []

-- the event of a write whose end failed: its key was removed since it began, or it was dropped
abbrev pub refused_end : ℕ → ErrorType → Event
refused_end w WriteRemoved = E.Finish w false
refused_end w _ = E.Dropped w

-- the store after all that a request holds is given back: its pair, its write, its reader
abbrev pub store_ended : Ongoing → Store → Store
store_ended x s = left_by x.request.reader (dropped_by x.request.write (left_by (pair_reader x.pair) s))

-- the request before and after a call agrees with the row of the call, except for what its read lock was told
abbrev pub IsRow : Act → Reply → List Event → Option Ongoing → Option Ongoing → Type 0
IsRow act reply events q q' = option_map untold q' ≡ option_map untold (row act reply events q)

-- the same of a call that takes this pair, whichever decision the request carries; nothing is left out
abbrev pub RowTaking : Meta × MemHitHandler → Act → Reply → List Event → Request → Request → Type 0
RowTaking pair act reply events x y = (d : Option Decision) → open_with d None y ≡ row act reply events (open_with d (pair_read pair) x)

-- one call of the request r over the parts: its reply and its events are those that the parts give, and the parts change
-- by its events
pub record Turn (limits : Limits) (r : ℕ) (act : Act) (q : Option Ongoing) (s : Store) (m : Tracked) (t : Locks) (reply : Reply) (events : List Event) (q' : Option Ongoing) (s' : Store) (m' : Tracked) (t' : Locks) : Type 0 where
  pub answers : Replies (facts_in s t (request_in q)) act q reply events
  pub moves : Moves limits q s m events q' s' m'
  pub keeps : KeepsKey q q'
  pub now : IsRow act reply events q q'
  pub locks : MovesLocks r (deeds_in r act (kind_of_reply reply) events q) (held_in q) t (held_in q') t'

-- the same of the parts as one value
abbrev pub Turns : ℕ → Act → Option Ongoing → State → Reply → List Event → Option Ongoing → State → Type 0
Turns r act q p reply events q' p' = Turn p.limits r act q p.store p.tracked p.locks reply events q' p'.store p'.tracked p'.locks

-- a call of an open request follows its rule, by what a store and a lock table say; and by what the parts say
abbrev pub Answers : Store → Locks → Act → Ongoing → Reply → List Event → Type 0
Answers s t act x reply events = FollowsRule (facts_in s t x.request) act (Some x) reply events

abbrev pub AnswersOf : State → Act → Ongoing → Reply → List Event → Type 0
AnswersOf p act x reply events = FollowsRule (facts_of p x.request) act (Some x) reply events

-- only what is open under this number changes
abbrev pub IsMoved : ℕ → List (ℕ × Ongoing) → List (ℕ × Ongoing) → Type 0
IsMoved n all all' = (q : ℕ) → lookup (is_at (nat_cmp q)) all' ≡ cond (is_at (nat_cmp n) q) (lookup (is_at (nat_cmp n)) all') (lookup (is_at (nat_cmp q)) all)

-- the same, by its row
abbrev pub IsRowed : ℕ → Act → Reply → List Event → List (ℕ × Ongoing) → List (ℕ × Ongoing) → Type 0
IsRowed n act reply events all all' = (q : ℕ) → lookup (is_at (nat_cmp q)) all' ≡ cond (is_at (nat_cmp n) q) (row act reply events (lookup (is_at (nat_cmp n)) all)) (lookup (is_at (nat_cmp q)) all)

-- the events and the reply of the lock that a look-up asked for, if that did not fail
abbrev pub asking_if : ℕ → Result (Option AskedLock) ErrorType → List Event
asking_if k (Ok a) = asking k a
asking_if k (Err e) = []

-- the reply of a look-up that found nothing
abbrev pub asked_answer : Result (Option AskedLock) ErrorType → Reply
asked_answer (Ok a) = R.NotFound (kind_asked a)
asked_answer (Err e) = R.Refused e

-- the events and the reply of a look-up of a slot, given what the store has there, the write that the request had before,
-- and what the look-up reported
abbrev pub noted_after_look : ℕ → Option ℕ → LookUp MemHitHandler → List Event
noted_after_look k w (Found m h) = []
noted_after_look k w (NotFound asked) = asking_if k asked
noted_after_look k w (Deferred released) = each E.Release (permit_in released) ++ drop_of w

-- the events of a look-up
abbrev pub noted_look : ℕ → Answer → Option ℕ → LookUp MemHitHandler → List Event
noted_look k a w l = E.Look k a ∷ noted_after_look k w l

-- the reply of a look-up
abbrev pub look_answer : Answer → LookUp MemHitHandler → Reply
look_answer a (Found m h) = look_reply a None
look_answer a (NotFound asked) = asked_answer asked
look_answer a (Deferred released) = R.NotFound None

-- what is held after it: the pair that is handed on; a request that is turned off carries no decision
abbrev pub held_after_look : LookUp MemHitHandler → Ongoing → Ongoing
held_after_look (Found m h) x = record { request = x.request; pair = Some (m, reader_of h); carried = x.carried; put = x.put }
held_after_look (NotFound asked) x = record { request = x.request; pair = None; carried = x.carried; put = x.put }
held_after_look (Deferred released) x = record { request = x.request; pair = None; carried = None; put = x.put }

-- the events and the reply of a stale body that is still valid: its new meta, if the store set it
abbrev pub renewing : ℕ → Meta → Result Bool ErrorType → List Event
renewing k m (Ok there) = renew_of there k m
renewing k m (Err e) = []

-- the reply to a revalidation
abbrev pub renewal_reply : Result Bool ErrorType → Reply
renewal_reply (Ok there) = update_reply there
renewal_reply (Err e) = R.Refused e

-- the copies that a call needs of its arguments
abbrev pub spare_of : Act → Option (Meta × Meta)
spare_of (C.Request (Q.Revalidate m)) = Some (m, m)
spare_of _ = None

-- a request, or a put, is open under a number
abbrev pub IsRequestIn : Option Ongoing → Type 0
IsRequestIn None = ⊥
IsRequestIn (Some x) = x.put ≡ None

-- a put is open under a number
abbrev pub IsPutIn : Option Ongoing → Type 0
IsPutIn None = ⊥
IsPutIn (Some x) = IsSome x.put

-- what was open under a number is removed, and the rest is unchanged
abbrev pub IsTakenOut : ℕ → List (ℕ × Ongoing) → List (ℕ × Ongoing) → Type 0
IsTakenOut n all all' = (q : ℕ) → lookup (is_at (nat_cmp q)) all' ≡ cond (is_at (nat_cmp n) q) None (lookup (is_at (nat_cmp q)) all)
