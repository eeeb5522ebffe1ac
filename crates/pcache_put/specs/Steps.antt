-- What the calls of a put do (own).
use Rattle.std.specs.Prelude.{◌≡◌, ℕ, ◌+◌, ◌-◌, ◌≤◌, ◌^◌, ◌⊎◌, Bool, true, false, ◌==◌, List, [], ◌∷◌, ◌++◌, length, min, Option, Some, None, Result, Ok, Err, IfSome, option_map}
use Rattle.std.specs.FinMap.{get}
use Rattle.pcache_base.specs.Key.{Key, slot}
use Rattle.pcache_base.specs.declared.error.ErrorType.{ErrorType}
use Rattle.pcache_base.specs.declared.error.ErrorType.TheVariants.{OutOfMemory, InternalError, InvalidHttpHeader, ResponseTooLarge, IncompleteHttpBody, NumbersExhausted, WriteRemoved, Io, Superseded}
use Rattle.pcache_base.specs.declared.reason.NoCacheReason.{NoCacheReason}
use Rattle.pcache_evict.specs.Tracked.{Tracked as Entries, Limits, Evicted}
use Rattle.pcache_evict.specs.declared.eviction.entry_key.CacheEntryKey.{CacheEntryKey}
use Rattle.pcache_meta.specs.Meta.{Meta}
use Rattle.pcache_response.specs.Progress.{Parsed, AtHead, AtBody, AtEnd, HasFailed}
use Rattle.pcache_response.specs.Counted.{Counted}
use Rattle.pcache_request.specs.Replacing.{tracked_before}
use Rattle.pcache_request.specs.Reports.{entry_stored}
use Rattle.pcache_request.specs.Requests.{dropped_by}
use Rattle.pcache_request.specs.WriteEnds.{EndsBody, HoldsNoLock, evicted_by}
use Rattle.pcache_request.specs.declared.cache.finish.WriteEnd.{WriteEnd}
use Rattle.pcache_request.specs.declared.cache.finish.WriteEnd.TheVariants as writes
use Rattle.pcache_store.specs.Purge.{entry_given}
use Rattle.pcache_store.specs.Store.{Store, Guarantees, begun, wrote, dropped, is_told}
use Rattle.pcache_store.specs.declared.storage.MissFinishType.{MissFinishType}
use Rattle.pcache_put.specs.Puts.{Piece, Says, Outcome, Stores, Declines, Refuses}
use Rattle.pcache_put.specs.State.{Stage, InHead, InBody, HasDeclined, IsOver, Put, Filled, HasTaken, write_in, limit_of}
use Rattle.pcache_put.specs.declared.reading.BodyPart.{BodyPart}
use Rattle.pcache_put.specs.declared.report.Written.{Written}
use Rattle.pcache_put.specs.declared.report.PieceEnd.{PieceEnd}
use Rattle.pcache_put.specs.declared.report.PieceEnd.TheVariants as piece
use Rattle.pcache_put.specs.declared.report.PutEnd.{PutEnd}
use Rattle.pcache_put.specs.declared.report.PutEnd.TheVariants as end
use Rattle.pcache_put.specs.declared.report.PutOutcome.{PutOutcome}
use Rattle.pcache_put.specs.declared.report.PutOutcome.TheVariants as answer

-- ---- counting

-- so many more bytes
abbrev pub counted_on : Option Counted → ℕ → Option Counted
counted_on None n = None
counted_on (Some c) n = Some (record c { bytes = min (c.bytes + n) (2 ^ 64 - 1) })

-- the counted bytes are within the limit
abbrev pub IsAllowed : Option Counted → Type 0
IsAllowed None = Unit {0}
IsAllowed (Some c) = c.bytes ≤ c.limit

-- the bytes of a part, if there is one
abbrev pub part_bytes : Option BodyPart → List ℕ
part_bytes None = []
part_bytes (Some b) = b.bytes

-- the same by the bytes of a part, if there is one
abbrev pub counted_part : Option Counted → Option BodyPart → Option Counted
counted_part size None = size
counted_part size (Some b) = counted_on size (length b.bytes)

-- ---- a piece

-- a part, after it was written
abbrev pub written : BodyPart → Written
written b = record { bytes = b.bytes; eof = b.is_last }

-- the store after a write of a key began, if one did
abbrev pub store_begun : ℕ → Option Meta → Store → Store
store_begun k None s = s
store_begun k (Some m) s = begun s k m

-- the store after bytes were added to the write, if any were
abbrev pub store_wrote : Option ℕ → Option Written → Store → Store
store_wrote None b s = s
store_wrote (Some w) None s = s
store_wrote (Some w) (Some b) s = wrote s w b.bytes b.eof

-- the stage after a write began, if one did: with the next number, for the next entry
abbrev pub stage_begun : Stage → Option Meta → ℕ → Option ℕ → Stage
stage_begun stage None next entry = stage
stage_begun stage (Some m) next entry = InBody next entry m.fresh_until

-- the same in a store where entries may have numbers
abbrev pub stage_at : Bool → Store → Stage → Option Meta → Stage
stage_at numbers s stage began = stage_begun stage began s.next (entry_given numbers s.next)

-- the store after a piece
abbrev pub store_after : Key → Stage → Option Meta → Option Written → Option ℕ → Store → Store
store_after k stage began b entry s = store_wrote (write_in (stage_begun stage began s.next entry)) b (store_begun (slot k) began s)

-- the same in a store where entries may have numbers
abbrev pub store_at : Bool → Key → Stage → Option Meta → Option Written → Store → Store
store_at numbers k stage began b s = store_after k stage began b (entry_given numbers s.next) s

-- the stage after a piece: unchanged, or with the write that began; nothing is stored, and there was no write; or
-- every call fails, and the write is returned
abbrev pub EndsPiece : {M : Type 0} → (M → ℕ) → PieceEnd M → Stage → Stage → Type 0
EndsPiece write piece.GoesOn stage now = now ≡ stage
EndsPiece write (piece.NotCached reason) stage now = (now ≡ HasDeclined reason) × (write_in stage ≡ None)
EndsPiece write (piece.Refused e w) stage now = (now ≡ IsOver e) × (option_map write w ≡ write_in stage)

-- a call after nothing is stored, or after a failure, returns the same again
abbrev pub ReturnsAgain : {M : Type 0} → Stage → PieceEnd M → Type 0
ReturnsAgain InHead end = Unit {0}
ReturnsAgain (InBody w id fresh_until) end = Unit {0}
ReturnsAgain (HasDeclined reason) end = end ≡ piece.NotCached reason
ReturnsAgain (IsOver kind) end = end ≡ piece.Refused kind None

-- a write begins only if the head ends
abbrev pub BeginsAtHead : Stage → Option Meta → Type 0
BeginsAtHead InHead began = Unit {0}
BeginsAtHead stage began = began ≡ None

-- what the put's write was given, after a piece
abbrev pub filled_begun : Option Meta → Option Filled → Option Filled
filled_begun None f = f
filled_begun (Some m) f = Some (record { meta = m; body = [] })

abbrev pub filled_wrote : Option Written → Option Filled → Option Filled
filled_wrote None f = f
filled_wrote (Some b) None = None
filled_wrote (Some b) (Some f) = Some (record f { body = f.body ++ b.bytes })

abbrev pub filled_on : Option Meta → Option Written → Option Filled → Option Filled
filled_on began b f = filled_wrote b (filled_begun began f)

-- the body is whole
abbrev pub is_done : Parsed → Bool
is_done (AtHead kept) = false
is_done (AtBody None) = false
is_done (AtBody (Some n)) = n == 0
is_done AtEnd = false
is_done (HasFailed e) = false

-- P holds of the kind of the error, if there was one
abbrev pub IfRefused : {M : Type 0} → PieceEnd M → (ErrorType → Type 0) → Type 0
IfRefused piece.GoesOn P = Unit {0}
IfRefused (piece.NotCached reason) P = Unit {0}
IfRefused (piece.Refused e w) P = P e

-- whether a write began before a piece failed with this kind: it did if the body is too long, and it may have if memory ran
-- out; otherwise it did not
abbrev pub IsBegunBefore : Stage → ErrorType → Option Meta → Type 0
IsBegunBefore InHead ResponseTooLarge began = (m : Meta) × (began ≡ Some m)
IsBegunBefore InHead OutOfMemory began = Unit {0}
IsBegunBefore stage e began = began ≡ None

-- the body that is written is whole: later bytes do not belong to it
abbrev pub HasWholeBody : Stage → Parsed → Type 0
HasWholeBody InHead parser = ⊥
HasWholeBody (InBody w id fresh_until) parser = is_done parser ≡ true
HasWholeBody (HasDeclined reason) parser = ⊥
HasWholeBody (IsOver kind) parser = ⊥

-- why adding bytes to a write may fail
abbrev pub MayFailFill : Store → ℕ → ErrorType → Type 0
MayFailFill s w OutOfMemory = Unit {0}
MayFailFill s w ResponseTooLarge = Unit {0}
MayFailFill s w InternalError = is_told (get s.writes w) ≡ true
MayFailFill s w _ = ⊥

-- why a piece may fail: memory ran out; the head can't be read; the body is too long; all numbers of writes are used;
-- the end of the write was announced, in a storage that is not the put's own; or every call fails
abbrev pub MayFailPiece : Stage → Store → ErrorType → Type 0
MayFailPiece (IsOver kind) s e = e ≡ kind
MayFailPiece (HasDeclined reason) s e = ⊥
MayFailPiece InHead s OutOfMemory = Unit {0}
MayFailPiece InHead s InvalidHttpHeader = Unit {0}
MayFailPiece InHead s ResponseTooLarge = Unit {0}
MayFailPiece InHead s NumbersExhausted = 2 ^ 64 ≤ s.next
MayFailPiece InHead s _ = ⊥
MayFailPiece (InBody w id fresh_until) s OutOfMemory = Unit {0}
MayFailPiece (InBody w id fresh_until) s ResponseTooLarge = Unit {0}
MayFailPiece (InBody w id fresh_until) s InvalidHttpHeader = Unit {0}
MayFailPiece (InBody w id fresh_until) s InternalError = is_told (get s.writes w) ≡ true
MayFailPiece (InBody w id fresh_until) s _ = ⊥

-- what a piece did: the meta of the write that began, if one did, and the bytes that were written, if any were
pub record Done : Type 0 where
  pub began : Option Meta
  pub wrote : Option Written

-- a piece was taken in: policy, key and limit are unchanged, and the put has taken in one more piece; the end is
-- announced for the bytes that complete a body, and for no others
pub record TakesPiece {C : Type 0} (says : Says) (old new : Put C) (p : Piece) (d : Done) : Type 0 where
  pub policy : new.policy ≡ old.policy
  pub key : new.key ≡ old.key
  pub limit : limit_of new.size ≡ limit_of old.size
  pub taken : (pieces : List Piece) (f : Option Filled) → HasTaken says old pieces f → HasTaken says new (pieces ++ p ∷ []) (filled_on d.began d.wrote f)
  pub last : (pieces : List Piece) (f : Option Filled) → HasTaken says old pieces f → IfSome d.wrote (λ (w : Written). w.eof ≡ is_done new.parser)

-- the head has not ended, or the body is written
abbrev pub GoesOn : Stage → Type 0
GoesOn InHead = Unit {0}
GoesOn (InBody w id fresh_until) = Unit {0}
GoesOn (HasDeclined reason) = ⊥
GoesOn (IsOver kind) = ⊥

-- the stage after the call returned this: the put goes on, nothing is stored, or every call fails
abbrev pub IsStageAfter : Result (Option NoCacheReason) ErrorType → Stage → Type 0
IsStageAfter (Ok None) stage = GoesOn stage
IsStageAfter (Ok (Some reason)) stage = stage ≡ HasDeclined reason
IsStageAfter (Err e) stage = stage ≡ IsOver e

-- a call after nothing is stored, or after a failure, returns the same again
abbrev pub RepeatsResult : Stage → Result (Option NoCacheReason) ErrorType → Type 0
RepeatsResult InHead answered = Unit {0}
RepeatsResult (InBody w id fresh_until) answered = Unit {0}
RepeatsResult (HasDeclined reason) answered = answered ≡ Ok (Some reason)
RepeatsResult (IsOver kind) answered = answered ≡ Err kind

-- the store after the write was dropped, if the piece failed
abbrev pub store_left : Result (Option NoCacheReason) ErrorType → Stage → Store → Store
store_left (Ok answered) stage s = s
store_left (Err e) stage s = dropped_by (write_in stage) s

-- ---- the end

-- the end of a put's write, as that of any write
abbrev pub write_end : PutEnd → WriteEnd
write_end (end.NotCached reason) = writes.Nothing
write_end (end.Refused e) = writes.Nothing
write_end (end.Dropped e) = writes.Dropped e
write_end (end.Stored f) = writes.Stored f
write_end (end.Withdrawn e) = writes.Withdrawn e

-- nothing changed
abbrev pub IsStill : Store → Store → Entries → Entries → Type 0
IsStill s s' m m' = (s' ≡ s) × (m' ≡ m)

-- the response ended before its body did, and the write was dropped
abbrev pub EndsEarly : Parsed → ℕ → PutEnd → Store → Store → Entries → Entries → Type 0
EndsEarly parser w how s s' m m' = (e : ErrorType) × ((e ≡ IncompleteHttpBody) ⊎ (parser ≡ HasFailed e)) × (how ≡ end.Dropped e) × (s' ≡ dropped s w) × (m' ≡ m)

-- a put ends by its stage: it fails if its head has not ended; it returns its reason, or fails as every call does;
-- otherwise its write ends, too early or as any write does, with a manager in use
abbrev pub EndsPut : Guarantees → Key → Parsed → (ℕ → MissFinishType) → Limits → Stage → PutEnd → Store → Store → Entries → Entries → Type 0
EndsPut g k parser kinds limits InHead how s s' m m' = (how ≡ end.Refused IncompleteHttpBody) × IsStill s s' m m'
EndsPut g k parser kinds limits (HasDeclined reason) how s s' m m' = (how ≡ end.NotCached reason) × IsStill s s' m m'
EndsPut g k parser kinds limits (IsOver kind) how s s' m m' = (how ≡ end.Refused kind) × IsStill s s' m m'
EndsPut g k parser kinds limits (InBody w id fresh_until) how s s' m m' =
    EndsEarly parser w how s s' m m' ⊎ EndsBody g true id HoldsNoLock k w (kinds w) limits (write_end how) s s' m m'

-- the stage of the put at its end: after a body was stored, another call is a mistake of the caller
abbrev pub stage_ended : PutEnd → Stage
stage_ended (end.NotCached reason) = HasDeclined reason
stage_ended (end.Refused e) = IsOver e
stage_ended (end.Dropped e) = IsOver e
stage_ended (end.Stored f) = IsOver InternalError
stage_ended (end.Withdrawn e) = IsOver e

-- the entry of a body that was stored and not withdrawn
abbrev pub entry_reported : Key → Stage → PutEnd → Option CacheEntryKey
entry_reported k InHead how = None
entry_reported k (HasDeclined reason) how = None
entry_reported k (IsOver kind) how = None
entry_reported k (InBody w id fresh_until) how = entry_stored (Some k) id (write_end how)

-- the manager's totals
abbrev pub evicted_ended : Key → (ℕ → MissFinishType) → Stage → Entries → Evicted → PutEnd → Evicted
evicted_ended k kinds InHead m before how = before
evicted_ended k kinds (HasDeclined reason) m before how = before
evicted_ended k kinds (IsOver kind) m before how = before
evicted_ended k kinds (InBody w id fresh_until) m before how = evicted_by true id k (kinds w) m before (write_end how)

-- what is tracked when a put that ended so has its entry admitted, if it was told the number of the body that it replaces: a
-- body that was stored has replaced it
abbrev pub tracked_before_put : Key → Option ℕ → PutEnd → Entries → Entries
tracked_before_put k replaced how m = tracked_before true k replaced (write_end how) m

-- the result at the end is the outcome of the pieces, unless memory ran out, the write was removed or superseded, all numbers
-- are used or the caller made a mistake; a stored body is the one that the write was given
abbrev pub IsRefusal : (Outcome → Type 0) → ErrorType → Type 0
IsRefusal comes OutOfMemory = Unit {0}
IsRefusal comes NumbersExhausted = Unit {0}
IsRefusal comes WriteRemoved = Unit {0}
IsRefusal comes InternalError = Unit {0}
IsRefusal comes Io = Unit {0}
IsRefusal comes Superseded = Unit {0}
IsRefusal comes InvalidHttpHeader = comes (Refuses InvalidHttpHeader)
IsRefusal comes ResponseTooLarge = comes (Refuses ResponseTooLarge)
IsRefusal comes IncompleteHttpBody = comes (Refuses IncompleteHttpBody)

abbrev pub StoresFilled : (Outcome → Type 0) → Option Filled → Type 0
StoresFilled comes None = ⊥
StoresFilled comes (Some f) = comes (Stores f.meta f.body)

abbrev pub TellsResult : (Outcome → Type 0) → Option Filled → PutEnd → Type 0
TellsResult comes f (end.NotCached reason) = comes (Declines reason)
TellsResult comes f (end.Refused e) = IsRefusal comes e
TellsResult comes f (end.Dropped e) = IsRefusal comes e
TellsResult comes f (end.Stored report) = StoresFilled comes f
TellsResult comes f (end.Withdrawn e) = StoresFilled comes f

-- the same, for the result of the call: an error does not say how far it came
abbrev pub EndsAs : Result PutOutcome ErrorType → (PutEnd → Type 0) → Type 0
EndsAs (Ok (answer.NotCached reason)) P = P (end.NotCached reason)
EndsAs (Ok (answer.Stored report)) P = P (end.Stored report)
EndsAs (Err e) P = P (end.Refused e) ⊎ P (end.Dropped e) ⊎ P (end.Withdrawn e)

-- P holds if the admission failed
abbrev pub IfWithdrawn : PutEnd → Type 0 → Type 0
IfWithdrawn (end.Withdrawn e) P = P
IfWithdrawn how P = Unit {0}
