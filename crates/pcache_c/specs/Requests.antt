-- What the calls on a request do: c is the cache before and d after, o the request before and p after (own).
use Rattle.std.specs.Prelude.{◌≡◌, ◌⊎◌, ◌/◌, ◌%◌, ℕ, List, [], ◌∷◌, ◌++◌, ◌↔◌, Bool, true, false, Option, None, Some, Result, Ok, Err, IfSome, IsSome, ⊤, cond, drop, is_some, length, min, option_map, take}
use Rattle.std.specs.Int.{from_bool}
use Rattle.std.specs.Option.{option_and_then}
use Rattle.pcache_base.specs.declared.error.ErrorType.{ErrorType}
use Rattle.pcache_base.specs.declared.error.ErrorType.TheVariants.{OutOfMemory}
use Rattle.pcache_base.specs.declared.poll.Poll.{Poll}
use Rattle.pcache_base.specs.declared.poll.Poll.TheVariants.{Pending, Ready}
use Rattle.pcache_base.specs.declared.reason.NoCacheReason.{NoCacheReason}
use Rattle.pcache_cache.specs.Ending as ending
use Rattle.pcache_cache.specs.Fetching.{fetch_begun}
use Rattle.pcache_cache.specs.Filling as filling
use Rattle.pcache_cache.specs.Locking as locking
use Rattle.pcache_cache.specs.Looking as looking
use Rattle.pcache_cache.specs.Removing as removing
use Rattle.pcache_cache.specs.Revalidating as revalidating
use Rattle.pcache_lock.specs.declared.lock.outcome.LockWaitOutcome.{LockWaitOutcome}
use Rattle.pcache_request.specs.declared.cache.report.LockName.{LockName}
use Rattle.pcache_request.specs.declared.cache.report.ReleasedLock.{ReleasedLock}
use Rattle.pcache_cache.specs.Parts.{MayEnd, Parts, takes_bytes}
use Rattle.pcache_meta.specs.Header.{Header}
use Rattle.pcache_meta.specs.Meta.{Meta}
use Rattle.pcache_request.specs.LockUse.{MaySetLock, lock_used, read_in}
use Rattle.pcache_request.specs.Phases.{IsFilling, IsOn, IsStale, MayFinishHit, MayLookUp, MayMiss, MayPurge}
use Rattle.pcache_request.specs.Releasing.{MayDisable, MayRelease}
use Rattle.pcache_request.specs.Requests.{MayTakeMeta, MayWrite, Request, length_by, missed, whole_by, with_meta}
use Rattle.pcache_request.specs.Stale.{MayRevalidate, updating}
use Rattle.pcache_request.specs.Variants.{looks_for_variance, same_variance}
use Rattle.pcache_request.specs.declared.cache.finish.FinishReport.{FinishReport}
use Rattle.pcache_request.specs.declared.phase.HitStatus.{HitStatus}
use Rattle.pcache_store.specs.Readers.{reader_of}
use Rattle.pcache_store.specs.Store.{Reader, Store, gives_piece, left, read_of, reader_after, sought}
use Rattle.pcache_c.specs.Codes.{Outcome, bad_value, code_of, no_memory, nothing, ok, wrong_call}
use Rattle.pcache_c.specs.Numbers.{held_number, outcome_number, phase_number}
use Rattle.pcache_c.specs.declared.object.Object.{Object}
use Rattle.pcache_c.specs.declared.object.Object.TheVariants as object
use Rattle.pcache_c.specs.declared.served.Open.{Open}

-- neither the cache nor the request changed
pub record IsUnchanged (c d : Parts) (o p : Open) : Type 0 where
  pub parts : d ≡ c
  pub request : p ≡ o

-- the number of where a request stands, or of what it holds of its lock, is said

abbrev pub SaysPhase : Parts → Parts → Open → Open → ℕ → ℕ → Type 0
SaysPhase c d o p out code = IsUnchanged c d o p × (code ≡ ok) × (out ≡ phase_number o.request.cache.phase)

abbrev pub SaysHeld : Parts → Parts → Open → Open → ℕ → ℕ → Type 0
SaysHeld c d o p out code = IsUnchanged c d o p × (code ≡ ok) × (out ≡ held_number o.request.cache.held)

-- of the request, all but the cache's own part of it, and when its fetch began, is as it was
abbrev pub KeepsPieces : Open → Open → Type 0
KeepsPieces o p = (p.found ≡ o.found) × (p.piece ≡ o.piece) × (p.next_byte ≡ o.next_byte)

-- of the request, all but the cache's own part of it is as it was
abbrev pub KeepsFound : Open → Open → Type 0
KeepsFound o p = KeepsPieces o p × (p.request.fetch ≡ o.request.fetch)

-- the pair that a look-up found
abbrev pub pair_found : Open → Option (Meta × Reader)
pair_found o = option_map (λ q. (q.0, reader_of q.1)) o.found

-- a look-up: nothing that another one found waits, and the phase allows it

abbrev pub MayLook : Open → Type 0
MayLook o = (o.found ≡ None) × MayLookUp o.request.cache.phase

pub record Looked (now : ℕ) (c d : Parts) (o p : Open) (found : ℕ) : Type 0 where
  pub says : found ≡ from_bool (is_some p.found)
  pub takes : looking.LooksUp (Ok p.found) now o.request.cache p.request.cache c d
  pub fetch : p.request.fetch ≡ fetch_begun o.request.cache.key c.purges
  pub rest : (p.piece ≡ o.piece) × (p.next_byte ≡ o.next_byte)

pub record RefusesLook (now : ℕ) (c d : Parts) (o p : Open) (e : ErrorType) : Type 0 where
  pub takes : looking.LooksUp (Err e) now o.request.cache p.request.cache c d
  pub fetch : p.request.fetch ≡ fetch_begun o.request.cache.key c.purges
  pub rest : KeepsPieces o p

abbrev pub Looks : ℕ → Parts → Parts → Open → Open → ℕ → ℕ → Type 0
Looks now c d o p found code = Outcome (MayLook o) (Looked now c d o p found) ⊥ (RefusesLook now c d o p) (IsUnchanged c d o p) code

-- the request's fetch begins, which is noted

abbrev pub BeginsFetch : Parts → Parts → Open → Open → ℕ → Type 0
BeginsFetch c d o p code = (code ≡ ok) × (d ≡ c) × (p.request.fetch ≡ fetch_begun o.request.cache.key c.purges) × (p.request.cache ≡ o.request.cache)
    × KeepsPieces o p

-- what a look-up found is taken; of what was read before, nothing is handed over any more

pub record TakesPair (status : HitStatus) (now : ℕ) (m : Meta) (h : Reader) (c d : Parts) (o p : Open) : Type 0 where
  pub takes : looking.TakesFound (Ok tt) status m h now o.request.cache p.request.cache c d
  pub none : p.found ≡ None
  pub piece : p.piece ≡ []
  pub fetch : p.request.fetch ≡ o.request.fetch

pub record RefusesPair (status : HitStatus) (now : ℕ) (m : Meta) (h : Reader) (c d : Parts) (o p : Open) (e : ErrorType) : Type 0 where
  pub takes : looking.TakesFound (Err e) status m h now o.request.cache p.request.cache c d
  pub none : p.found ≡ None
  pub piece : (p.piece ≡ o.piece) × (p.next_byte ≡ o.next_byte)
  pub fetch : p.request.fetch ≡ o.request.fetch

-- what follows of a pair that is there
abbrev pub OnPair : Option (Meta × Reader) → (Meta → Reader → Type 0) → Type 0
OnPair None does = ⊥
OnPair (Some q) does = does q.0 q.1

abbrev pub Takes : HitStatus → ℕ → Parts → Parts → Open → Open → ℕ → Type 0
Takes status now c d o p code = Outcome (MayLookUp o.request.cache.phase) (OnPair (pair_found o) (λ m h. TakesPair status now m h c d o p))
    ((o.found ≡ None) × IsUnchanged c d o p) (λ e. OnPair (pair_found o) (λ m h. RefusesPair status now m h c d o p e)) (IsUnchanged c d o p) code

-- what a look-up found is let go

pub record LetsGo (h : Reader) (c d : Parts) (o p : Open) : Type 0 where
  pub takes : looking.LetsGo h c d
  pub request : p ≡ record o { found = None }

abbrev pub Passes : Parts → Parts → Open → Open → ℕ → Type 0
Passes c d o p code = Outcome ⊤ (OnPair (pair_found o) (λ m h. LetsGo h c d o p)) ((o.found ≡ None) × IsUnchanged c d o p) (λ e. ⊥) ⊥ code

-- the variant that a request wants is looked for, given what was found under its key: if that has another variance it is let
-- go, and the next look-up is for the variant

pub record LooksFor (variance : List ℕ) (m : Meta) (h : Reader) (c d : Parts) (o p : Open) (same : ℕ) : Type 0 where
  pub says : same ≡ from_bool (same_variance m.variance (Some variance))
  pub request : p.request.cache ≡ looks_for_variance variance m o.request.cache
  pub found : p.found ≡ cond (same_variance m.variance (Some variance)) o.found None
  pub stays : same_variance m.variance (Some variance) ≡ true → d ≡ c
  pub goes : same_variance m.variance (Some variance) ≡ false → looking.LetsGo h c d
  pub rest : (p.piece ≡ o.piece) × (p.next_byte ≡ o.next_byte)
  pub fetch : p.request.fetch ≡ o.request.fetch

abbrev pub LooksForVariant : List ℕ → Parts → Parts → Open → Open → ℕ → ℕ → Type 0
LooksForVariant variance c d o p same code = Outcome (MayLookUp o.request.cache.phase) (OnPair (pair_found o) (λ m h. LooksFor variance m h c d o p same))
    ((o.found ≡ None) × IsUnchanged c d o p) (λ e. ⊥) (IsUnchanged c d o p) code

-- the request goes on as a miss

abbrev pub MayGoOn : Open → Type 0
MayGoOn o = (o.found ≡ None) × MayMiss o.request.cache.phase

abbrev pub Misses : Open → Open → ℕ → Type 0
Misses o p code = Outcome (MayGoOn o) ((p.request.cache ≡ missed o.request.cache) × KeepsFound o p) ⊥ (λ e. ⊥) (p ≡ o) code

-- a copy of a meta is taken for what is to be stored

abbrev pub SetsMeta : Meta → Open → Open → ℕ → Type 0
SetsMeta m o p code = Outcome (MayTakeMeta o.request.cache) ((p.request.cache ≡ with_meta m o.request.cache) × KeepsFound o p) ⊥
    (λ e. (e ≡ OutOfMemory) × (p ≡ o)) (p ≡ o) code

-- the meta of what a look-up found, else the request's own
abbrev pub meta_in : Option (Meta × Reader) → Option Meta → Option Meta
meta_in None m = m
meta_in (Some q) m = Some q.0

abbrev pub meta_shown : Open → Option Meta
meta_shown o = meta_in (pair_found o) o.request.cache.meta

-- a copy of a meta, if there is one, and memory for it
abbrev pub CopyOf : Option Meta → Result Meta ℕ → Type 0
CopyOf m (Ok copy) = m ≡ Some copy
CopyOf m (Err code) = ((code ≡ nothing) × (m ≡ None)) ⊎ ((code ≡ no_memory) × IsSome m)

-- a stale body is renewed by the meta of an answer that says that it is good

pub record Renewed (result : Result Bool ErrorType) (m : Meta) (c d : Parts) (o p : Open) : Type 0 where
  pub takes : revalidating.Revalidates result m o.request.cache p.request.cache c d
  pub rest : KeepsFound o p

-- whether the meta was set, for the body that the request found; if it fails, there was no memory for a copy of the meta, or for what
-- the cache does
abbrev pub Renews : Meta → ℕ → Parts → Parts → Open → Open → ℕ → Type 0
Renews m set c d o p code = Outcome (MayRevalidate o.request.cache) ((there : Bool) × (set ≡ from_bool there) × Renewed (Ok there) m c d o p) ⊥
    (λ e. (e ≡ OutOfMemory) × (IsUnchanged c d o p ⊎ Renewed (Err e) m c d o p)) (IsUnchanged c d o p) code

-- a stale body is served while another request renews it

abbrev pub ServesUpdating : Open → Open → ℕ → Type 0
ServesUpdating o p code = Outcome (IsStale o.request.cache.phase) ((p.request.cache ≡ updating o.request.cache) × KeepsFound o p) ⊥ (λ e. ⊥) (p ≡ o) code

-- a stale body is served with the head of an answer that says that it is good, and the answer is not stored, for a reason

abbrev pub MayServeOn : NoCacheReason → Open → Type 0
MayServeOn why o = MayRevalidate o.request.cache × MayRelease why o.request.cache.held

pub record ServedOn (h : Header) (why : NoCacheReason) (c d : Parts) (o p : Open) : Type 0 where
  pub released : Option LockName
  pub takes : revalidating.ServesUncacheable released h why o.request.cache p.request.cache c d
  pub rest : KeepsFound o p

abbrev pub ServesOn : Header → NoCacheReason → Parts → Parts → Open → Open → ℕ → Type 0
ServesOn h why c d o p code = Outcome (MayServeOn why o) (ServedOn h why c d o p) ⊥
    (λ e. (e ≡ OutOfMemory) × IsUnchanged c d o p) (IsUnchanged c d o p) code

-- what the response varies on is set

pub record Varied (variance : Option (List ℕ)) (c d : Parts) (o p : Open) : Type 0 where
  pub released : Option LockName
  pub takes : revalidating.Varies released variance o.request.cache p.request.cache c d
  pub rest : KeepsFound o p

abbrev pub Varies : Option (List ℕ) → Parts → Parts → Open → Open → ℕ → Type 0
Varies variance c d o p code = Outcome (MayWrite o.request.cache) (Varied variance c d o p) ⊥ (λ e. ⊥) (IsUnchanged c d o p) code

-- the write begins, and the request reads it

pub record Begun (c d : Parts) (o p : Open) : Type 0 where
  pub takes : filling.BeginsWrite o.request.fetch (Ok tt) o.request.cache p.request.cache c d
  pub found : p.found ≡ o.found
  pub piece : p.piece ≡ []
  pub fetch : p.request.fetch ≡ o.request.fetch

-- it did not begin, or began and there was no memory for a reader of it
pub record NotBegun (c d : Parts) (o p : Open) (e : ErrorType) : Type 0 where
  pub takes : filling.BeginsWrite o.request.fetch (Err e) o.request.cache p.request.cache c d
  pub rest : KeepsFound o p

abbrev pub Begins : Parts → Parts → Open → Open → ℕ → Type 0
Begins c d o p code = Outcome (MayWrite o.request.cache) (Begun c d o p) ⊥ (NotBegun c d o p) (IsUnchanged c d o p) code

-- bytes are added to the write: the wrong call where there is no write, or its last bytes were said

abbrev pub MayAdd : Parts → Open → Type 0
MayAdd c o = IsFilling o.request.cache.phase × (takes_bytes c.store o.request.cache.write ≡ true)

pub record Adds (bytes : List ℕ) (eof : Bool) (c d : Parts) (o p : Open) (code : ℕ) : Type 0 where
  pub request : p.request.cache ≡ o.request.cache
  pub rest : KeepsFound o p
  pub takes : code ≡ ok → filling.Writes (Ok true) bytes eof o.request.cache p.request.cache c d
  pub may : code ≡ ok → MayAdd c o
  pub phase : (¬ IsFilling o.request.cache.phase) → code ≡ wrong_call
  pub wrong : code ≡ wrong_call → ¬ MayAdd c o
  pub refused : (code ≡ ok) ⊎ ((code ≡ wrong_call) × (d ≡ c)) ⊎ ((code ≡ code_of OutOfMemory) × (d ≡ c))

-- the write ends, and the body is stored

abbrev pub MayEndWrite : Parts → Open → Type 0
MayEndWrite c o = IsFilling o.request.cache.phase × MayEnd c.store o.request.cache

-- what the call of the cache answered, and what that leaves
pub record EndsSo (result : Result (Option FinishReport) ErrorType) (c d : Parts) (o p : Open) : Type 0 where
  pub takes : filling.EndsWrite result o.request.cache p.request.cache c d
  pub rest : KeepsFound o p

-- its entry weighs so much, and so many entries were evicted for it
abbrev pub Stored : ℕ → ℕ → Parts → Parts → Open → Open → Type 0
Stored size evicted c d o p = (f : FinishReport) × (size ≡ f.size) × (evicted ≡ length f.evicted.items) × EndsSo (Ok (Some f)) c d o p

abbrev pub Finishes : ℕ → ℕ → Parts → Parts → Open → Open → ℕ → Type 0
Finishes size evicted c d o p code = Outcome (MayEndWrite c o) (Stored size evicted c d o p) (EndsSo (Ok None) c d o p)
    (λ e. EndsSo (Err e) c d o p) (IsUnchanged c d o p) code

-- the body is read on: what was read and found no room comes first, and then what the reader gives

-- what was read, and is to be handed over
abbrev pub rest_of : Open → List ℕ
rest_of o = drop o.next_byte o.piece

-- what is handed over next, if there is something to read from
abbrev pub next_from : Store → Option Reader → List ℕ → Option (Poll (Option (List ℕ)))
next_from s None [] = None
next_from s (Some r) [] = Some (read_of s r)
next_from s reader (b ∷ bytes) = Some (Ready (Some (b ∷ bytes)))

abbrev pub comes_next : Parts → Open → Option (Poll (Option (List ℕ)))
comes_next c o = next_from c.store o.request.cache.reader (rest_of o)

-- as many bytes of a piece as find room are at the start of the buffer, in order, and what is left is the rest of the piece
pub record HandsOver (piece old new left : List ℕ) (count : ℕ) : Type 0 where
  pub count_is : count ≡ min (length piece) (length old)
  pub buffer : new ≡ take count piece ++ drop count old
  pub left_is : left ≡ drop count piece

abbrev pub HandsNothing : List ℕ → List ℕ → List ℕ → ℕ → Type 0
HandsNothing old new left count = (count ≡ 0) × (new ≡ old) × (left ≡ [])

-- what is said at the end: 0 if all was given that was to be read, 3 if the body was cut off
abbrev pub end_number : Bool → ℕ
end_number whole = cond whole 0 3

-- what is said of a read: 1 for some bytes, 0 or 3 at the end, 2 if nothing is there yet
abbrev pub Tells : Bool → Poll (Option (List ℕ)) → List ℕ → List ℕ → List ℕ → ℕ → ℕ → Type 0
Tells whole (Ready (Some piece)) old new left count more = (more ≡ 1) × HandsOver piece old new left count
Tells whole (Ready None) old new left count more = (more ≡ end_number whole) × HandsNothing old new left count
Tells whole Pending old new left count more = (more ≡ 2) × HandsNothing old new left count

-- whether the request's reader has given all that it was to give
abbrev pub is_read_whole : Parts → Open → Bool
is_read_whole c o = whole_by o.request.cache.reader c.store

-- the request once more was read, which it is only if nothing is left
abbrev pub read_on : Store → List ℕ → Request → Request
read_on s [] r = record r { reader = option_map (reader_after s) r.reader }
read_on s (b ∷ bytes) r = r

pub record ReadOn (c d : Parts) (o p : Open) (old new : List ℕ) (count more : ℕ) : Type 0 where
  pub told : IfSome (comes_next c o) (λ next. Tells (is_read_whole d p) next old new (rest_of p) count more)
  pub request : p.request.cache ≡ read_on c.store (rest_of o) o.request.cache
  pub found : p.found ≡ o.found
  pub parts : d ≡ c
  pub fetch : p.request.fetch ≡ o.request.fetch

-- there was no memory for a piece that is there
pub record RefusesRead (c d : Parts) (o p : Open) (old new : List ℕ) (e : ErrorType) : Type 0 where
  pub kind : e ≡ OutOfMemory
  pub piece : IfSome o.request.cache.reader (λ r. gives_piece (read_of c.store r) ≡ true)
  pub request : p.request.cache ≡ o.request.cache
  pub rest : KeepsFound o p
  pub parts : d ≡ c
  pub buffer : new ≡ old

abbrev pub Reads : List ℕ → List ℕ → ℕ → ℕ → Parts → Parts → Open → Open → ℕ → Type 0
Reads old new count more c d o p code = Outcome (IsSome (comes_next c o)) (ReadOn c d o p old new count more) ⊥
    (RefusesRead c d o p old new) (IsUnchanged c d o p × (new ≡ old)) code

-- the body is read on without a copy: the bytes that come next, all of them, are the object of the handle of a view

-- what is said of a view, and what is in its handle
abbrev pub TellsView : Bool → Poll (Option (List ℕ)) → Option Object → List ℕ → ℕ → ℕ → Type 0
TellsView whole (Ready (Some piece)) view left count more = (more ≡ 1) × (view ≡ Some (object.View piece)) × (count ≡ length piece) × (left ≡ [])
TellsView whole (Ready None) view left count more = (more ≡ end_number whole) × (view ≡ None) × (count ≡ 0) × (left ≡ [])
TellsView whole Pending view left count more = (more ≡ 2) × (view ≡ None) × (count ≡ 0) × (left ≡ [])

pub record Viewed (c d : Parts) (o p : Open) (view : Option Object) (count more : ℕ) : Type 0 where
  pub told : IfSome (comes_next c o) (λ next. TellsView (is_read_whole d p) next view (rest_of p) count more)
  pub request : p.request.cache ≡ read_on c.store (rest_of o) o.request.cache
  pub found : p.found ≡ o.found
  pub parts : d ≡ c
  pub fetch : p.request.fetch ≡ o.request.fetch

-- there was no memory for a piece that is there; or for the handle of the view: then the piece stays with the request, and
-- comes next
pub record RefusesView (c d : Parts) (o p : Open) (view : Option Object) (e : ErrorType) : Type 0 where
  pub kind : e ≡ OutOfMemory
  pub none : view ≡ None
  pub piece : ((p.request.cache ≡ o.request.cache) × (p.piece ≡ o.piece) × (p.next_byte ≡ o.next_byte))
      ⊎ ((p.request.cache ≡ read_on c.store (rest_of o) o.request.cache) × IfSome (comes_next c o) (λ next. next ≡ Ready (Some (rest_of p))))
  pub found : p.found ≡ o.found
  pub parts : d ≡ c
  pub fetch : p.request.fetch ≡ o.request.fetch

abbrev pub Views : Option Object → ℕ → ℕ → Parts → Parts → Open → Open → ℕ → Type 0
Views view count more c d o p code = Outcome (IsSome (comes_next c o)) (Viewed c d o p view count more) ⊥
    (RefusesView c d o p view) (IsUnchanged c d o p × (view ≡ None)) code

-- a piece is read, and stays with the request
abbrev pub TellsFetch : Bool → Poll (Option (List ℕ)) → List ℕ → ℕ → Type 0
TellsFetch whole (Ready (Some piece)) left more = (more ≡ 1) × (left ≡ piece)
TellsFetch whole (Ready None) left more = (more ≡ end_number whole) × (left ≡ [])
TellsFetch whole Pending left more = (more ≡ 2) × (left ≡ [])

pub record Fetched (c d : Parts) (o p : Open) (more : ℕ) : Type 0 where
  pub told : IfSome o.request.cache.reader (λ r. TellsFetch (is_read_whole d p) (read_of c.store r) (rest_of p) more)
  pub request : p.request.cache ≡ read_on c.store [] o.request.cache
  pub found : p.found ≡ o.found
  pub parts : d ≡ c
  pub fetch : p.request.fetch ≡ o.request.fetch

abbrev pub Fetches : ℕ → Parts → Parts → Open → Open → ℕ → Type 0
Fetches more c d o p code = Outcome (IsSome o.request.cache.reader) (Fetched c d o p more) ⊥
    (λ e. (e ≡ OutOfMemory) × IsUnchanged c d o p) (IsUnchanged c d o p) code

-- what is left of the piece is the object of a handle that had none, or there was no memory for that, and it stays
abbrev pub HandsOut : Option Object → ℕ → Open → Open → ℕ → Type 0
HandsOut view count o p code = ((code ≡ ok) × (view ≡ Some (object.View (rest_of o))) × (count ≡ length (rest_of o)) × (p.piece ≡ []) × (p.request ≡ o.request) × (p.found ≡ o.found))
    ⊎ ((code ≡ no_memory) × (view ≡ None) × (p ≡ o))

-- the length of the body that the request reads is said, if it is known
abbrev pub SaysKnown : Option ℕ → ℕ → ℕ → Type 0
SaysKnown None out code = code ≡ nothing
SaysKnown (Some n) out code = (code ≡ ok) × (out ≡ n)

abbrev pub SaysLength : Parts → Parts → Open → Open → ℕ → ℕ → Type 0
SaysLength c d o p out code = IsUnchanged c d o p × SaysKnown (length_by o.request.cache.reader c.store) out code

-- the reader is moved to a range, which it reads again: of what was read before, nothing is handed over any more. A range that
-- is not the body's, and a reader of a write, are refused as a bad value

abbrev pub reader_sought : Open → ℕ → ℕ → Option Reader
reader_sought o start end = option_and_then (λ r. sought r start (Some end)) o.request.cache.reader

pub record Sought (start end : ℕ) (o p : Open) : Type 0 where
  pub request : p.request.cache ≡ record o.request.cache { reader = reader_sought o start end }
  pub there : IsSome (reader_sought o start end)
  pub found : p.found ≡ o.found
  pub piece : p.piece ≡ []
  pub fetch : p.request.fetch ≡ o.request.fetch

pub record Seeks (start end : ℕ) (o p : Open) (code : ℕ) : Type 0 where
  pub wrong : (code ≡ wrong_call) ↔ (¬ IsSome o.request.cache.reader)
  pub how : ((code ≡ ok) × Sought start end o p) ⊎ ((code ≡ wrong_call) × (p ≡ o)) ⊎ ((code ≡ bad_value) × (reader_sought o start end ≡ None) × (p ≡ o))

-- the reader is ended

pub record HitEnded (c d : Parts) (o p : Open) : Type 0 where
  pub takes : looking.EndsHit (Ok tt) o.request.cache p.request.cache c d
  pub found : p.found ≡ o.found
  pub piece : p.piece ≡ []
  pub fetch : p.request.fetch ≡ o.request.fetch

abbrev pub EndsHit : Parts → Parts → Open → Open → ℕ → Type 0
EndsHit c d o p code = Outcome (MayFinishHit o.request.cache.phase) (HitEnded c d o p) ⊥
    (λ e. ⊥) (IsUnchanged c d o p) code

-- the request waits on its read lock

abbrev pub MayWait : Open → Type 0
MayWait o = IsOn o.request.cache.phase × IsSome (read_in o.request.cache.held)

pub record Waited (now : ℕ) (c d : Parts) (o p : Open) (outcome : ℕ) : Type 0 where
  pub answer : Poll LockWaitOutcome
  pub says : outcome ≡ outcome_number answer
  pub takes : locking.Waits (Ok answer) now o.request.cache p.request.cache c d
  pub rest : KeepsFound o p

pub record RefusesWait (now : ℕ) (c d : Parts) (o p : Open) (e : ErrorType) : Type 0 where
  pub takes : locking.Waits (Err e) now o.request.cache p.request.cache c d
  pub rest : KeepsFound o p

abbrev pub Waits : ℕ → ℕ → Parts → Parts → Open → Open → ℕ → Type 0
Waits now outcome c d o p code = Outcome (MayWait o) (Waited now c d o p outcome) ⊥ (RefusesWait now c d o p) (IsUnchanged c d o p) code

-- how long a request waits at most, over all its waits, is set before it asks for a lock

abbrev pub waits_at_most : ℕ → Request → Request
waits_at_most nanos r = record r { uses = lock_used true r.uses; wait_timeout = Some nanos; max_retries = None }

abbrev pub LimitsWaits : ℕ → Open → Open → ℕ → Type 0
LimitsWaits nanos o p code = Outcome (MaySetLock o.request.cache) ((p.request.cache ≡ waits_at_most nanos o.request.cache) × KeepsFound o p) ⊥ (λ e. ⊥) (p ≡ o) code

-- how long the request waited for locks, over all its waits that ended, is said in seconds and nanoseconds, if one ended

abbrev pub SaysTime : Option ℕ → ℕ → ℕ → ℕ → Type 0
SaysTime None secs nanos code = code ≡ nothing
SaysTime (Some n) secs nanos code = (code ≡ ok) × (secs ≡ n / 1000000000) × (nanos ≡ n % 1000000000)

abbrev pub SaysWaited : Parts → Parts → Open → Open → ℕ → ℕ → ℕ → Type 0
SaysWaited c d o p secs nanos code = IsUnchanged c d o p × SaysTime o.request.cache.digest.waits secs nanos code

-- what is held is released

pub record Released (why : NoCacheReason) (c d : Parts) (o p : Open) : Type 0 where
  pub released : Option ReleasedLock
  pub takes : locking.Releases released why o.request.cache p.request.cache c d
  pub rest : KeepsFound o p

abbrev pub Releases : NoCacheReason → Parts → Parts → Open → Open → ℕ → Type 0
Releases why c d o p code = Outcome (MayRelease why o.request.cache.held) (IsSome o.request.cache.held × Released why c d o p)
    ((o.request.cache.held ≡ None) × Released why c d o p) (λ e. ⊥) (IsUnchanged c d o p) code

-- caching is turned off, and all that is held is given back

-- what a look-up found is let go, if it found something
abbrev pub LetsGoFound : Option (Meta × Reader) → Parts → Parts → Type 0
LetsGoFound None c d = d ≡ c
LetsGoFound (Some q) c d = looking.LetsGo q.1 c d

pub record TurnedOff (why : NoCacheReason) (c d : Parts) (o p : Open) : Type 0 where
  pub between : Parts
  pub lets_go : LetsGoFound (pair_found o) c between
  pub released : Option LockName
  pub takes : ending.Disables released why o.request.cache p.request.cache between d
  pub none : p.found ≡ None
  pub piece : p.piece ≡ []
  pub fetch : p.request.fetch ≡ o.request.fetch

abbrev pub TurnsOff : NoCacheReason → Parts → Parts → Open → Open → ℕ → Type 0
TurnsOff why c d o p code = Outcome (MayDisable why o.request.cache) (TurnedOff why c d o p) ⊥ (λ e. ⊥) (IsUnchanged c d o p) code

-- what stands under the key is removed, or expires

pub record Purged (c d : Parts) (o p : Open) (was : ℕ) : Type 0 where
  pub there : Bool
  pub says : was ≡ from_bool there
  pub takes : removing.Purges (Ok there) o.request.cache p.request.cache c d
  pub found : KeepsFound o p

pub record Expired (now : ℕ) (c d : Parts) (o p : Open) (was : ℕ) : Type 0 where
  pub there : Bool
  pub says : was ≡ from_bool there
  pub takes : removing.Expires (Ok there) now o.request.cache p.request.cache c d
  pub found : KeepsFound o p

abbrev pub Purges : ℕ → Parts → Parts → Open → Open → ℕ → Type 0
Purges was c d o p code = Outcome (MayPurge o.request.cache.phase) (Purged c d o p was) ⊥
    (λ e. removing.Purges (Err e) o.request.cache p.request.cache c d × KeepsFound o p) (IsUnchanged c d o p) code

abbrev pub Expires : ℕ → ℕ → Parts → Parts → Open → Open → ℕ → Type 0
Expires now was c d o p code = Outcome (MayPurge o.request.cache.phase) (Expired now c d o p was) ⊥
    (λ e. removing.Expires (Err e) now o.request.cache p.request.cache c d × KeepsFound o p) (IsUnchanged c d o p) code
