-- What is promised of every legal history (own).
use Rattle.std.specs.Prelude.{◌≡◌, ℕ, ◌≤◌, ◌==◌, ◌&&◌, Bool, true, false, Option, Some, None, IsSome, IfSome, List, ◌∷◌, ◌⊎◌, ◌↔◌, [], ◌++◌, reverse}
use Rattle.std.specs.List.{list_any}
use Rattle.std.specs.FinMap as map
use Rattle.pcache_evict.specs.declared.eviction.entry_key.CacheEntryKey.{CacheEntryKey}
use Rattle.pcache_base.specs.Key.{Key, slot}
use Rattle.pcache_base.specs.declared.poll.Poll.{Poll}
use Rattle.pcache_base.specs.declared.poll.Poll.TheVariants.{Ready}
use Rattle.pcache_base.specs.declared.error.ErrorType.TheVariants.{OutOfMemory}
use Rattle.pcache_lock.specs.Permits as lock
use Rattle.pcache_lock.specs.declared.lock.permit.Locked.TheVariants as locked
use Rattle.pcache_meta.specs.Meta.{Meta, numbered}
use Rattle.pcache_evict.specs.Entry.{id_of}
use Rattle.pcache_evict.specs.Tracked.{Tracked, Limits, IsWithin, IsFair}
use Rattle.pcache_predict.specs.declared.admission.Decision.{Decision}
use Rattle.pcache_request.specs.LockWaits.{unusable_in}
use Rattle.pcache_request.specs.Variants.{hides_pair}
use Rattle.pcache_store.specs.Store.{Reader, Whole, Part, Stored}
use Rattle.pcache_history.specs.declared.call.Act.{Act}
use Rattle.pcache_history.specs.declared.call.Act.TheVariants as C
use Rattle.pcache_history.specs.declared.call.FilesAct.{FilesAct}
use Rattle.pcache_history.specs.declared.call.FilesAct.TheVariants as F
use Rattle.pcache_history.specs.declared.call.RequestAct.TheVariants as Q
use Rattle.pcache_history.specs.declared.call.Reply.{Reply}
use Rattle.pcache_history.specs.declared.call.Reply.TheVariants as R
use Rattle.pcache_history.specs.declared.call.Reply.TheVariants.{WrongCall}
use Rattle.pcache_history.specs.declared.entry.Answer.{Answer}
use Rattle.pcache_history.specs.declared.entry.Answer.TheVariants as A
use Rattle.pcache_history.specs.declared.entry.Entry.{Entry}
use Rattle.pcache_history.specs.declared.entry.Event.{Event}
use Rattle.pcache_history.specs.declared.entry.Event.TheVariants.{Look, Ask, Finish, Admit, Read}
use Rattle.pcache_history.specs.Deeds.{deeds_of}
use Rattle.pcache_history.specs.Events.{is_of, begin_of, in_flight, was_stored, is_removed, last_finished, body_of, complete, names_slot, stored_size, tracked, stored, slots}
use Rattle.pcache_history.specs.Ongoing.{Ongoing, is_done, kind_of_reply, pair_of, request_of, taker_in}
use Rattle.pcache_history.specs.Facts.{Facts, Says, request_in}
use Rattle.pcache_history.specs.Files.{IsEarly, only_loads}
use Rattle.pcache_history.specs.History.{events_of, Finds, reads}
use Rattle.pcache_history.specs.Kept.{standing_entry}
use Rattle.pcache_history.specs.Legal.{IsLegal}
use Rattle.pcache_history.specs.Log.{Log, events_in}
use Rattle.pcache_history.specs.Rules.{FindsKind, MayBe, wait_reply}
use Rattle.pcache_history.specs.Waiting.{NoneWaits, waiting_in}
use Rattle.pcache_history.specs.Waits.{wait_of}
use Rattle.pcache_history.specs.ReadSoFar.{read_by, HasRead}
use Rattle.pcache_put.specs.State.{Filled}
use Rattle.pcache_history.specs.PutHistory.{filled_of}
use Rattle.pcache_history.specs.Taking.{Taking}

-- the reply to a call is WrongCall exactly when what is open under its number is of the other kind, or its condition fails, by
-- the facts that the history before it gives
abbrev pub IsWrongExactly : Type 0
IsWrongExactly = (age : ℕ) (limits : Limits) (start : Tracked) (before : List Entry) (entry : Entry) (f : Facts) → IsLegal age limits start (entry ∷ before) → Says age (events_of before) (deeds_of before) entry.call.request (request_in (request_of entry.call.request before)) f
    → f.taker ≡ taker_in entry.call.request entry.call.act before → IsEarly entry.call.act f before → (entry.reply ≡ WrongCall) ↔ (FindsKind entry.call.act (request_of entry.call.request before) × MayBe f entry.call.act (request_of entry.call.request before) → ⊥)

-- the reply to a load is WrongCall exactly when a call other than a load came before it; that to a save never is, and neither
-- makes an event
abbrev pub LoadsComeFirst : Type 0
LoadsComeFirst = (age : ℕ) (limits : Limits) (start : Tracked) (before : List Entry) (entry : Entry) (a : FilesAct) → IsLegal age limits start (entry ∷ before) → entry.call.act ≡ C.Files a
    → ((entry.reply ≡ WrongCall) ↔ ((a ≡ F.Load) × (only_loads before ≡ false))) × (entry.events ≡ [])

-- a look-up finds what the events before it say of its key: the earliest begun write that is in flight and untouched, or else
-- the complete body, or else nothing; with its write's meta, to which for a complete body each expiry and revalidation of the
-- key after the write's finish is applied
abbrev pub LooksAreTrue : Type 0
LooksAreTrue = (age : ℕ) (limits : Limits) (start : Tracked) (before : List Entry) (entry : Entry) (k : ℕ) (answer : Answer) (rest : List Event) → IsLegal age limits start (entry ∷ before) → entry.events ≡ Look k answer ∷ rest
    → Finds (events_of before) k answer

-- the meta that is found has the number of the write that is found, or that stored the body
abbrev pub IsOfItsWrite : List Event → ℕ → Answer → Type 0
IsOfItsWrite es k A.Nothing = Unit {0}
IsOfItsWrite es k (A.Streaming m w) = m.entry_id ≡ Some w
IsOfItsWrite es k (A.Complete m body) = (w : ℕ) × (last_finished k es ≡ Some w) × (m.entry_id ≡ Some w)

-- a found meta has the number of its write, whatever number the given metas had
abbrev pub FoundIsNumbered : Type 0
FoundIsNumbered =
    (age : ℕ) (limits : Limits) (start : Tracked) (before : List Entry) (entry : Entry) (k : ℕ) (answer : Answer) (rest : List Event)
    → IsLegal age limits start (entry ∷ before) → entry.events ≡ Look k answer ∷ rest → IsOfItsWrite (events_of before) k answer

-- a read gives what the events before it say of its reader: of a write all unread bytes, pending if there are none but
-- more may come, otherwise the end; of a complete body its range once, then the end
abbrev pub ReadsAreTrue : Type 0
ReadsAreTrue = (age : ℕ) (limits : Limits) (start : Tracked) (before : List Entry) (entry : Entry) (answer : Poll (Option (List ℕ))) (rest : List Event) → IsLegal age limits start (entry ∷ before) → entry.events ≡ Read answer ∷ rest
    → (x : Ongoing) × (reader : Reader) × (request_of entry.call.request before ≡ Some x) × (x.request.reader ≡ Some reader) × (answer ≡ reads (events_of before) reader)

-- a write of the key, in flight or finished, met no removal since it began
abbrev pub HasUntouched : ℕ → List Event → Type 0
HasUntouched k es = (w : ℕ) × (is_of k w es ≡ true) × ((in_flight w es ≡ true) ⊎ (was_stored w es ≡ true)) × (is_removed w es ≡ false)

-- a look-up found something
abbrev pub is_found : Answer → Bool
is_found A.Nothing = false
is_found (A.Complete m body) = true
is_found (A.Streaming m w) = true

-- whatever was done before, the store finds a key exactly when it has such a write
abbrev pub FindsExactly : Type 0
FindsExactly = (age : ℕ) (limits : Limits) (start : Tracked) (before : List Entry) (k : ℕ) (answer : Answer) → IsLegal age limits start before → Finds (events_of before) k answer
    → (is_found answer ≡ true) ↔ HasUntouched k (events_of before)

-- a write's finish succeeds exactly when it met no removal since it began: for each entry that finishes a write
abbrev pub FinishesExactly : Type 0
FinishesExactly = (age : ℕ) (limits : Limits) (start : Tracked) (before : List Entry) (entry : Entry) (w : ℕ) (is_stored : Bool) (rest : List Event) → IsLegal age limits start (entry ∷ before) → entry.events ≡ Finish w is_stored ∷ rest
    → (is_stored ≡ true) ↔ (is_removed w (events_of before) ≡ false)

-- a complete hit reads the last finished body of its key
abbrev pub ReadsTheLast : Type 0
ReadsTheLast = (age : ℕ) (limits : Limits) (start : Tracked) (before : List Entry) (k : ℕ) (m : _) (body : List ℕ) → IsLegal age limits start before → Finds (events_of before) k (A.Complete m body)
    → (w : ℕ) × (last_finished k (events_of before) ≡ Some w) × (is_removed w (events_of before) ≡ false) × (body ≡ body_of w (events_of before))

-- the complete bodies sum to at most the limit on weight, and their number is at most the watermark
abbrev pub IsWithinLimits : Type 0
IsWithinLimits = (age : ℕ) (limits : Limits) (start : Tracked) (before : List Entry) → IsLegal age limits start before
    → (stored (events_of before) ≤ limits.weight) × IfSome limits.watermark (λ most. slots (events_of before) ≤ most)

-- what a reader has given is a prefix of the body of the write that it reads, or the range of a complete body, once
abbrev pub ReadsABeginning : Type 0
ReadsABeginning = (age : ℕ) (limits : Limits) (start : Tracked) (before : List Entry) (r : ℕ) (x : Ongoing) (reader : Reader) → IsLegal age limits start before → request_of r before ≡ Some x → x.request.reader ≡ Some reader
    → HasRead (events_of before) reader (read_by r before)

-- what an admission evicts is a fair eviction from what is tracked then, with the entry that is admitted: nothing is
-- evicted if the limits hold, and no more than they require
abbrev pub EvictsFairly : Type 0
EvictsFairly = (age : ℕ) (limits : Limits) (start : Tracked) (before : List Entry) (entry : Entry) (earlier rest : List Event) (e : CacheEntryKey) (n : ℕ) (out : List CacheEntryKey) → IsLegal age limits start (entry ∷ before)
    → entry.events ≡ earlier ++ Admit e n out ∷ rest
    → IsFair limits (map.insert (tracked start (reverse earlier ++ events_of before)) e n) out × (IsWithin limits (map.insert (tracked start (reverse earlier ++ events_of before)) e n) → out ≡ [])

-- each key that stands has an entry of its own: the one that was admitted last for it, which has the number of its last finished
-- write and is tracked with exactly the length of its body
abbrev pub TracksExactly : Type 0
TracksExactly = (age : ℕ) (limits : Limits) (start : Tracked) (before : List Entry) (k : ℕ) (b : Stored) → IsLegal age limits start before → complete k (events_of before) ≡ Some b
    → (e : CacheEntryKey) × (standing_entry k (events_of before) ≡ Some e) × (names_slot k e ≡ true) × (id_of e ≡ last_finished k (events_of before)) × (map.get (tracked start (events_of before)) e ≡ Some (stored_size b)) × ((q : ℕ) → names_slot q e ≡ true → k ≡ q)

-- a request for the lock of a key is given the permit exactly when no permit waits for its key
abbrev pub GivesThePermitExactly : Type 0
GivesThePermitExactly = (age : ℕ) (limits : Limits) (start : Tracked) (before : List Entry) (entry : Entry) (earlier rest : List Event) (k n : ℕ) (is_permit : Bool) → IsLegal age limits start (entry ∷ before) → entry.events ≡ earlier ++ Ask k n is_permit ∷ rest
    → (is_permit ≡ true) ↔ NoneWaits (waiting_in (reverse earlier ++ events_of before)) k

-- of the permits that were given for one key at most one waits
abbrev pub OnePermitWaits : Type 0
OnePermitWaits = (age : ℕ) (limits : Limits) (start : Tracked) (before : List Entry) (k l m : ℕ) → IsLegal age limits start before → (waiting_in (events_of before)).under l ≡ Some k → (waiting_in (events_of before)).under m ≡ Some k → l ≡ m

-- the reply to a wait on a read lock is decided by what the deeds before it say of the lock: the first of released, too old,
-- told of a fill that cannot be used, and waited for long enough; otherwise it goes on. Only a first poll with fills may fail
-- because memory runs out
abbrev pub WaitsAreTrue : Type 0
WaitsAreTrue = (age : ℕ) (limits : Limits) (start : Tracked) (before : List Entry) (entry : Entry) (t : ℕ) (x : Ongoing) (rd : lock.Reader) → IsLegal age limits start (entry ∷ before) → entry.call.act ≡ C.Wait t → request_of entry.call.request before ≡ Some x → x.request.held ≡ Some (locked.Read rd)
    → (entry.reply ≡ wait_reply (wait_of age t entry.call.request rd x.request (deeds_of before))) ⊎ ((entry.reply ≡ R.Refused OutOfMemory) × (rd.watch ≡ None) × IsSome (unusable_in x.request.key))

-- whether a reply says that something was found, if it is that of a look-up
abbrev pub says_found : Reply → Option Bool
says_found (R.Hit n) = Some true
says_found R.Part = Some true
says_found (R.NotFound l) = Some false
says_found _ = None

-- the reply to a look-up says that something was found exactly when the key has an untouched write, for a request that
-- hides nothing since it looks for no variant
abbrev pub TellsExactly : Type 0
TellsExactly = (age : ℕ) (limits : Limits) (start : Tracked) (before : List Entry) (entry : Entry) (t : ℕ) (d : Option Decision) (x : Ongoing) (k : Key) (b : Bool) → IsLegal age limits start (entry ∷ before) → entry.call.act ≡ C.Request (Q.Look t d) → request_of entry.call.request before ≡ Some x → x.request.key ≡ Some k → x.request.valid_after ≡ None → says_found entry.reply ≡ Some b
    → (b ≡ true) ↔ HasUntouched (slot k) (events_of before)

-- the reply to a look-up hands on what the store finds, unless it was created before the moment from which variants of the
-- key count
abbrev pub HandsOnExactly : Type 0
HandsOnExactly = (age : ℕ) (limits : Limits) (start : Tracked) (before : List Entry) (entry : Entry) (t : ℕ) (d : Option Decision) (x : Ongoing) (k : ℕ) (answer : Answer) (rest : List Event) (b : Bool) → IsLegal age limits start (entry ∷ before) → entry.call.act ≡ C.Request (Q.Look t d) → request_of entry.call.request before ≡ Some x → entry.events ≡ Look k answer ∷ rest → says_found entry.reply ≡ Some b
    → (b ≡ true) ↔ ((is_found answer ≡ true) × (hides_pair x.request.valid_after (pair_of answer) ≡ false))

-- the write that a request's reader follows was begun
abbrev pub FollowsAWrite : Type 0
FollowsAWrite = (age : ℕ) (limits : Limits) (start : Tracked) (h : List Entry) (r : ℕ) (x : Ongoing) (w place : ℕ) → IsLegal age limits start h → request_of r h ≡ Some x → x.request.reader ≡ Some (Part w place)
    → IsSome (begin_of w (events_of h))

-- what a reader of a write has given when it returns the end is the whole body of the write
abbrev pub ReadsTheWhole : Type 0
ReadsTheWhole = (age : ℕ) (limits : Limits) (start : Tracked) (before : List Entry) (entry : Entry) (rest : List Event) (x : Ongoing) (w place : ℕ) → IsLegal age limits start (entry ∷ before) → entry.events ≡ Read (Ready None) ∷ rest → request_of entry.call.request before ≡ Some x
    → x.request.reader ≡ Some (Part w place) → read_by entry.call.request before ≡ body_of w (events_of before)

-- whether a request was opened under this number by an entry
abbrev pub is_opening : Act → Bool
is_opening (C.Open options) = true
is_opening _ = false

abbrev pub opens_under : ℕ → Entry → Bool
opens_under r e = (e.call.request == r) && (is_opening e.call.act && is_done (kind_of_reply e.reply))

-- a look-up of the request that is open under the number found this complete body: its entry is in the history, older than these,
-- and no request was opened under the number since
abbrev pub IsFoundBy : List Entry → ℕ → List ℕ → Type 0
IsFoundBy h r body =
    (later : List Entry) × (entry : Entry) × (before : List Entry) × (k : ℕ) × (m : Meta) × (rest : List Event)
    × (h ≡ later ++ entry ∷ before) × (list_any (opens_under r) later ≡ false) × (entry.call.request ≡ r) × (entry.events ≡ Look k (A.Complete m body) ∷ rest)

-- what a request reads through a hit is the body that a look-up of it found: that of the last write of the key finished by
-- then
abbrev pub ReadsWhatWasFound : Type 0
ReadsWhatWasFound = (age : ℕ) (limits : Limits) (start : Tracked) (h : List Entry) (r : ℕ) (x : Ongoing) (id : Option ℕ) (body : List ℕ) (from to : ℕ) (done : Bool) → IsLegal age limits start h → request_of r h ≡ Some x → x.request.reader ≡ Some (Whole id body from to done)
    → (f : IsFoundBy h r body) × (w : ℕ) × (last_finished f.3 (events_of f.2) ≡ Some w) × (is_removed w (events_of f.2) ≡ false) × (body ≡ body_of w (events_of f.2))

-- the bytes that, by the history, an open put has written are the body of its write, with the meta (but for its number) that
-- the write began with
abbrev pub PutsAreWritten : Type 0
PutsAreWritten = (age : ℕ) (limits : Limits) (start : Tracked) (before : List Entry) (r w : ℕ) (x : Ongoing) (p : Taking) → IsLegal age limits start before → request_of r before ≡ Some x → x.put ≡ Some p → x.request.write ≡ Some w
    → (f : Filled) × (filled_of r before ≡ Some f) × (f.body ≡ body_of w (events_of before)) × ((k : ℕ) × (begin_of w (events_of before) ≡ Some (k, numbered w f.meta)))

-- The same for the history of a world: for each entry, with the entries before it, newest first.

abbrev pub IsEntryOf : Log → Entry → List Entry → Type 0
IsEntryOf log entry before = (later : List Entry) × (reverse log.history ≡ later ++ entry ∷ before)

-- the store finds a key exactly when a write of it, in flight or finished, met no removal since it began
abbrev pub FindsUntouched : Log → Type 0
FindsUntouched log = (before : List Entry) (entry : Entry) (k : ℕ) (answer : Answer) (rest : List Event) → IsEntryOf log entry before → entry.events ≡ Look k answer ∷ rest
    → (is_found answer ≡ true) ↔ HasUntouched k (events_of before)

-- a look-up hands on exactly what the store finds and is not hidden
abbrev pub HandsOnUnhidden : Log → Type 0
HandsOnUnhidden log = (before : List Entry) (entry : Entry) (t : ℕ) (d : Option Decision) (x : Ongoing) (k : ℕ) (answer : Answer) (rest : List Event) (b : Bool) → IsEntryOf log entry before → entry.call.act ≡ C.Request (Q.Look t d) → request_of entry.call.request before ≡ Some x → entry.events ≡ Look k answer ∷ rest → says_found entry.reply ≡ Some b
    → (b ≡ true) ↔ ((is_found answer ≡ true) × (hides_pair x.request.valid_after (pair_of answer) ≡ false))

-- a write's finish succeeds exactly when it met no removal since it began
abbrev pub FinishesUntouched : Log → Type 0
FinishesUntouched log = (before : List Entry) (entry : Entry) (w : ℕ) (is_stored : Bool) (rest : List Event) → IsEntryOf log entry before → entry.events ≡ Finish w is_stored ∷ rest
    → (is_stored ≡ true) ↔ (is_removed w (events_of before) ≡ false)

-- a complete hit reads the last finished body of its key
abbrev pub HitsTheLast : Log → Type 0
HitsTheLast log = (before : List Entry) (entry : Entry) (k : ℕ) (m : _) (body : List ℕ) (rest : List Event) → IsEntryOf log entry before → entry.events ≡ Look k (A.Complete m body) ∷ rest
    → (w : ℕ) × (last_finished k (events_of before) ≡ Some w) × (is_removed w (events_of before) ≡ false) × (body ≡ body_of w (events_of before))

-- the complete bodies sum to at most the limit on weight, and their number is at most the watermark
abbrev pub IsWithinAlways : Log → Type 0
IsWithinAlways log = (stored (events_in log) ≤ log.limits.weight) × IfSome log.limits.watermark (λ most. slots (events_in log) ≤ most)

-- nothing is evicted within the limits
abbrev pub EvictsNothingWithin : Log → Type 0
EvictsNothingWithin log = (before : List Entry) (entry : Entry) (earlier rest : List Event) (e : CacheEntryKey) (n : ℕ) (out : List CacheEntryKey) → IsEntryOf log entry before → entry.events ≡ earlier ++ Admit e n out ∷ rest
    → IsWithin log.limits (map.insert (tracked log.start (reverse earlier ++ events_of before)) e n) → out ≡ []

-- a request for a lock is given the permit exactly when no permit waits for its key
abbrev pub GivesWhereNoneWaits : Log → Type 0
GivesWhereNoneWaits log = (before : List Entry) (entry : Entry) (earlier rest : List Event) (k n : ℕ) (is_permit : Bool) → IsEntryOf log entry before → entry.events ≡ earlier ++ Ask k n is_permit ∷ rest
    → (is_permit ≡ true) ↔ NoneWaits (waiting_in (reverse earlier ++ events_of before)) k
