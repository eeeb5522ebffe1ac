-- An open request with the pair that its last look-up gave, or an open put, and its state after the entries of a history (own). A
-- call that does one thing changes a request by its reply; a call that can fail half way changes it by its events.
use Rattle.std.specs.Prelude.{◌≡◌, ℕ, ◌+◌, ◌==◌, ◌&&◌, ◌||◌, Bool, true, false, is_none, is_some, Option, Some, None, cond, if◌then◌else◌, List, [], ◌∷◌, length, unwrap_or}
use Rattle.std.specs.Option.{option_map, option_and_then}
use Rattle.pcache_meta.specs.Header.{shown}
use Rattle.pcache_meta.specs.Meta.{Meta}
use Rattle.pcache_base.specs.declared.poll.Poll.{Poll}
use Rattle.pcache_base.specs.declared.poll.Poll.TheVariants.{Ready, Pending}
use Rattle.pcache_lock.specs.declared.lock.outcome.LockWaitOutcome.{LockWaitOutcome}
use Rattle.pcache_lock.specs.Permits.{Permit}
use Rattle.pcache_lock.specs.declared.lock.permit.Locked.{Locked}
use Rattle.pcache_lock.specs.declared.lock.permit.Locked.TheVariants.{Write, Read}
use Rattle.pcache_store.specs.Store.{Reader, Whole, Part, sought}
use Rattle.pcache_base.specs.Key.{Key}
use Rattle.pcache_base.specs.declared.error.ErrorType.{ErrorType}
use Rattle.pcache_base.specs.declared.error.ErrorType.TheVariants.{OutOfMemory}
use Rattle.pcache_base.specs.declared.reason.NoCacheReason.{NoCacheReason}
use Rattle.pcache_base.specs.declared.reason.NoCacheReason.TheVariants.{Deferred}
use Rattle.pcache_put.specs.State.{Stage, InBody, HasDeclined, IsOver, entry_in, write_in}
use Rattle.pcache_predict.specs.declared.admission.Decision.{Decision}
use Rattle.pcache_predict.specs.declared.admission.Decision.TheVariants as decision
use Rattle.pcache_request.specs.Admissions.{is_deferral, kept_if, observes, with_decision}
use Rattle.pcache_request.specs.LockUse.{enabled_waiting, handed, permit_in, unheld, with_cache_lock, with_options}
use Rattle.pcache_request.specs.Phases.{is_key_phase}
use Rattle.pcache_request.specs.Renewals.{renewed}
use Rattle.pcache_request.specs.Releasing.{bypassed, disabled_for}
use Rattle.pcache_request.specs.Stale.{updating, uncacheable}
use Rattle.pcache_request.specs.Variants.{looks_for_variance, varied, visible}
use Rattle.pcache_request.specs.declared.cache.lock_use.CacheOptionOverrides.{CacheOptionOverrides}
use Rattle.pcache_request.specs.Requests.{Request, enabled_request, with_key, missed, with_meta, without_reader, placed, asks_as_stale}
use Rattle.pcache_request.specs.declared.phase.HitStatus.{HitStatus}
use Rattle.pcache_request.specs.declared.phase.InUse.{InUse}
use Rattle.pcache_history.specs.declared.call.Act.{Act}
use Rattle.pcache_history.specs.declared.call.Act.TheVariants as C
use Rattle.pcache_history.specs.declared.call.RequestAct.TheVariants as Q
use Rattle.pcache_history.specs.declared.call.Reply.{Reply}
use Rattle.pcache_history.specs.declared.call.Reply.TheVariants as R
use Rattle.pcache_history.specs.declared.entry.Answer.{Answer}
use Rattle.pcache_history.specs.declared.entry.Answer.TheVariants as A
use Rattle.pcache_history.specs.declared.entry.Entry.{Entry}
use Rattle.pcache_history.specs.declared.entry.Event.{Event}
use Rattle.pcache_history.specs.declared.entry.Event.TheVariants as E
use Rattle.pcache_history.specs.Taking.{Taking, filling, new_put}
use Rattle.pcache_history.specs.Watching.{waited_with}

-- what is open under a number: a request with the pair that its last look-up gave, or a put
pub record Ongoing : Type 0 where
  pub request : Request
  pub pair : Option (Meta × Reader)
  -- the decision that a look-up carried last, which is that of the policy in use
  pub carried : Option Decision
  -- what it has taken in, if it is a put: then the request has only its key and its write
  pub put : Option Taking

-- a call that names one request alone
abbrev pub IsOfOne : Act → Type 0
IsOfOne (C.Give to) = ⊥
IsOfOne (C.Files a) = ⊥
IsOfOne _ = Unit {0}

-- the part of a reply by which a request or a put changes
pub data ReplyKind : Type 0 where
  was_wrong : ReplyKind
  was_done : ReplyKind
  was_taken : ReplyKind
  was_waited : (answer : Poll LockWaitOutcome) → ReplyKind
  was_declined : (reason : NoCacheReason) → ReplyKind
  was_refused : (kind : ErrorType) → ReplyKind
  was_other : ReplyKind

-- the part of a reply that counts
abbrev pub kind_of_reply : Reply → ReplyKind
kind_of_reply R.WrongCall = was_wrong
kind_of_reply R.Done = was_done
kind_of_reply R.Same = was_done
kind_of_reply R.Other = was_done
kind_of_reply (R.Taken p l) = was_taken
kind_of_reply R.Waiting = was_waited Pending
kind_of_reply (R.Waited o) = was_waited (Ready o)
kind_of_reply (R.NotCached reason) = was_declined reason
kind_of_reply (R.Refused e) = was_refused e
-- bytes that were read count as read even if copying them fails
kind_of_reply (R.Data bytes) = was_refused OutOfMemory
kind_of_reply _ = was_other

-- the call was a wrong one; it was done; a pair was taken
abbrev pub is_wrong : ReplyKind → Bool
is_wrong was_wrong = true
is_wrong _ = false

abbrev pub is_done : ReplyKind → Bool
is_done was_done = true
is_done _ = false

abbrev pub is_taken : ReplyKind → Bool
is_taken was_taken = true
is_taken _ = false

-- the requests of a world use the manager and the lock
abbrev pub world_use : InUse
world_use = record { eviction = true; predictor = false; lock = true }

-- a request that was just opened
abbrev pub opened : Option CacheOptionOverrides → Ongoing
opened options = record { request = with_options true options (enabled_request world_use); pair = None; carried = None; put = None }

-- the pair that a look-up found
abbrev pub pair_of : Answer → Option (Meta × Reader)
pair_of A.Nothing = None
pair_of (A.Complete m body) = Some (m, Whole m.entry_id body 0 (length body) false)
pair_of (A.Streaming m w) = Some (m, Part w 0)

-- the reader of a pair
abbrev pub pair_reader : Option (Meta × Reader) → Option Reader
pair_reader p = option_map (λ q. q.1) p

-- a lock that was given is held
abbrev pub lock_of : Bool → Bool → ℕ → Locked
lock_of stale true n = Write (record { number = n; stale_writer = stale })
lock_of stale false n = Read (record { number = n; watch = None })

-- the request with the lock that an event gave it
abbrev pub with_given : Bool → Event → Request → Request
with_given stale (E.Ask k n is_permit) x = record x { held = Some (lock_of stale is_permit n) }
with_given stale _ x = x

-- the request after the events of a call that asks for a lock
abbrev pub asked : Bool → List Event → Request → Request
asked stale [] x = x
asked stale (e ∷ es) x = asked stale es (with_given stale e x)

-- a decision that a look-up carries, if the request looks its key up for the first time, takes a policy into use that
-- decides so
abbrev pub carries : Option Decision → Ongoing → Bool
carries d x = is_some d && is_key_phase x.request.phase

-- the request with the policy that the carried decision takes into use
abbrev pub carrying : Option Decision → Ongoing → Ongoing
carrying d x = let r : Request = x.request in record { request = record r { has_policy = carries d x || r.has_policy }; pair = x.pair; carried = cond (carries d x) d x.carried; put = x.put }

-- the policy in use always makes the decision that was carried last; before one was carried, none is in use
abbrev pub policy_in : Option Decision → Decision
policy_in carried = unwrap_or carried (decision.Ready 0)

-- what the policy in use decides after this was found, if it is asked
abbrev pub decides : Answer → Ongoing → Option Decision
decides a x = kept_if (is_none (pair_of a) && observes x.request) (Some (policy_in x.carried))

-- the request after a look-up with a decision: if it defers, caching is turned off; otherwise the lock that was asked for
-- is held, and the found pair, unless it is hidden
abbrev pub after_look : Option Decision → Answer → List Event → Ongoing → Ongoing
after_look d a es x = cond (is_deferral d)
    (record { request = disabled_for Deferred (with_decision d x.request); pair = None; carried = None; put = x.put })
    (record { request = asked false es (with_decision d x.request); pair = visible x.request.valid_after (pair_of a); carried = x.carried; put = x.put })

-- the request after a look-up, by the events of the call
abbrev pub looked_by : List Event → Ongoing → Ongoing
looked_by [] x = x
looked_by (E.Look k a ∷ es) x = after_look (decides a x) a es x
looked_by (_ ∷ es) x = x

-- a look-up for a variance, given the found meta
abbrev pub looks_for : List ℕ → Option (Meta × Reader) → Request → Request
looks_for v None r = r
looks_for v (Some p) r = looks_for_variance v p.0 r

-- the found pair is taken, or let go if that fails
abbrev pub placed_by : HitStatus → List Event → Request → Option (Meta × Reader) → Request
placed_by s events x None = x
placed_by s events x (Some p) = placed s p.0 p.1 (asked (asks_as_stale s x.phase) events x)

-- the request after the found pair was taken
abbrev pub taken_by : HitStatus → List Event → Ongoing → Ongoing
taken_by s events x = record { request = placed_by s events x.request x.pair; pair = None; carried = x.carried; put = x.put }

-- the request without its pair
abbrev pub without_pair : Ongoing → Ongoing
without_pair x = record { request = x.request; pair = None; carried = x.carried; put = x.put }

-- a write that began is held, and the permit released; if the call did not fail, the reader follows it
abbrev pub began : Bool → List Event → Request → Request
began joined [] x = x
began joined (E.Begin w k m ∷ es) x = record x { write = Some w; entry = Some w; held = None; reader = cond joined (Some (Part w 0)) x.reader }
began joined (_ ∷ es) x = x

-- a write that ended is no longer held
abbrev pub ended : List Event → Request → Request
ended [] x = x
ended (e ∷ es) x = record x { write = None; entry = None; held = None }

-- a reader after it gave bytes
abbrev pub read_past : Poll (Option (List ℕ)) → Reader → Reader
read_past a (Whole id body start stop done) = Whole id body start stop true
read_past (Ready (Some bs)) (Part w place) = Part w (place + length bs)
read_past (Ready None) (Part w place) = Part w place
read_past Pending (Part w place) = Part w place

-- the request after a read, by its event
abbrev pub has_read : List Event → Request → Request
has_read [] x = x
has_read (E.Read a ∷ es) x = record x { reader = option_map (read_past a) x.reader }
has_read (_ ∷ es) x = x

-- a reader that is moved to another range
abbrev pub sought_in : ℕ → Option ℕ → Option Reader → Option Reader
sought_in start end r = option_and_then (λ x. sought x start end) r

-- the request after its reader was moved
abbrev pub with_sought : ℕ → Option ℕ → Request → Request
with_sought start end x = record x { reader = sought_in start end x.reader }

-- a change of the request alone
abbrev pub on_request : (Request → Request) → Ongoing → Ongoing
on_request f x = record { request = f x.request; pair = x.pair; carried = x.carried; put = x.put }

-- the request after the reply to a wait
abbrev pub waited_by : ReplyKind → ℕ → Request → Request
waited_by (was_waited answer) now x = waited_with answer now x
waited_by _ now x = x

-- a put, as a world keeps it
abbrev pub ongoing_put : Taking → Ongoing
ongoing_put p = record { request = filling p.key (write_in p.stage) (entry_in p.stage); pair = None; carried = None; put = Some p }

-- a put
abbrev pub IsOngoingPut : Ongoing → Type 0
IsOngoingPut x = (p : Taking) × (x ≡ ongoing_put p)

-- the stage of a put after its write began, if one did; and after a piece
abbrev pub stage_noted : List Event → Stage → Stage
stage_noted (E.Begin w k m ∷ es) stage = InBody w (Some w) m.fresh_until
stage_noted _ stage = stage

-- the stage of a put after a piece, by the reply
abbrev pub stage_fed : ReplyKind → List Event → Stage → Stage
stage_fed was_done events stage = stage_noted events stage
stage_fed (was_declined reason) events stage = HasDeclined reason
stage_fed (was_refused kind) events stage = IsOver kind
stage_fed _ events stage = stage

-- a put after it was fed
abbrev pub fed_in : ReplyKind → List Event → Ongoing → Option Taking → Ongoing
fed_in o events x None = x
fed_in o events x (Some p) = ongoing_put (record { key = p.key; size = p.size; parser = p.parser; stage = stage_fed o events p.stage })

-- a put after a piece
abbrev pub fed : ReplyKind → List Event → Ongoing → Ongoing
fed o events x = cond (is_wrong o) x (fed_in o events x x.put)

-- How a call changes the request or the put that it names: its row of the phase table.
pub data Change : Type 0 where
  -- a request is made, whose lock has these options
  opens : (options : Option CacheOptionOverrides) → Change
  -- it is ended
  closes : Change
  -- it is unchanged
  stays : Change
  -- if the call is done, all of it changes except its reader; its pair is let go, or kept
  turns : (f : Request → Request) (leaves_pair : Bool) → Change
  -- the same, depending on the pair that it holds, which is kept
  turns_by : (f : Option (Meta × Reader) → Request → Request) → Change
  -- if the call is done, all of it changes, and its reader and its pair are let go
  shuts : (f : Request → Request) → Change
  -- it looks up, with a decision that is carried; it takes the found pair
  looks : (d : Option Decision) → Change
  takes : (s : HitStatus) → Change
  -- its write begins; its write ends
  begins : Change
  ends : Change
  -- its reader reads on; is moved to another range; is ended
  reads_on : Change
  seeks : (start : ℕ) (end : Option ℕ) → Change
  reads_no_more : Change
  -- its stale meta is renewed, even if the store could not set it
  renews : (m : Meta) → Change
  -- it waits on the read lock that it holds
  waits : (now : ℕ) → Change
  -- a put is made; is fed; is ended, whatever the reply
  pushes : (k : Key) (limit : Option ℕ) → Change
  feeds : Change
  goes : Change

-- the change that each call makes
abbrev pub change_of : Act → Change
change_of (C.Open options) = opens options
change_of (C.Request (Q.Enable options)) = turns (enabled_waiting world_use options) false
change_of (C.Request (Q.Disable why)) = shuts (disabled_for why)
change_of (C.Request (Q.Key k)) = turns (with_key k) false
change_of (C.Request (Q.Look t d)) = looks d
change_of (C.Request (Q.Vary v)) = turns_by (looks_for v)
change_of (C.Request (Q.Found s t)) = takes s
change_of (C.Request Q.Bypass) = turns bypassed false
change_of (C.Request Q.Miss) = turns missed true
change_of (C.Request (Q.Meta m)) = turns (with_meta m) false
change_of (C.Request Q.Begin) = begins
change_of (C.Request (Q.Write bs eof)) = stays
change_of (C.Request Q.Finish) = ends
change_of (C.Request Q.Read) = reads_on
change_of (C.Request (Q.Seek start end)) = seeks start end
change_of (C.Request Q.Done) = reads_no_more
change_of (C.Request Q.Purge) = stays
change_of (C.Request (Q.Expire t)) = stays
change_of (C.Request (Q.Lock is_used)) = turns (with_cache_lock is_used None) false
change_of (C.Wait t) = waits t
change_of (C.Request (Q.Publish tokens)) = stays
change_of (C.Request (Q.Release why)) = turns unheld false
change_of (C.Give to) = turns unheld false
change_of (C.Request Q.Updating) = turns updating false
change_of (C.Request (Q.Uncacheable h why)) = turns (uncacheable (shown h) why) false
change_of (C.Request (Q.Variance v)) = turns (varied v) false
change_of (C.Request (Q.Revalidate m)) = renews m
change_of (C.Request Q.Phase) = stays
change_of C.End = closes
change_of (C.Put k limit) = pushes k limit
change_of (C.Feed bs t) = feeds
change_of C.Drop = closes
change_of C.Close = goes
change_of (C.Files a) = stays

-- all of it changes except its reader
abbrev pub turned_by : (Request → Request) → Bool → Ongoing → Ongoing
turned_by f leaves_pair x = record { request = record (f x.request) { reader = x.request.reader }; pair = cond leaves_pair None x.pair; carried = x.carried; put = x.put }

-- all of it changes, and its reader is let go; a policy is no longer in use
abbrev pub shut_by : (Request → Request) → Ongoing → Ongoing
shut_by f x = record { request = record (f x.request) { reader = None }; pair = None; carried = None; put = x.put }

-- what is open under the number after that change
abbrev pub changed : Change → ReplyKind → List Event → Option Ongoing → Option Ongoing
changed (opens options) o events q = cond (is_done o) (Some (opened options)) q
changed closes o events q = cond (is_done o) None q
changed stays o events q = q
changed (turns f leaves_pair) o events q = cond (is_done o) (option_map (turned_by f leaves_pair) q) q
changed (shuts f) o events q = cond (is_done o) (option_map (shut_by f) q) q
changed (turns_by f) o events q = cond (is_done o) (option_map (λ x. turned_by (f x.pair) false x) q) q
changed (looks d) o events q = cond (is_wrong o) q (option_map (λ x. looked_by events (carrying d x)) q)
changed (takes s) o events q = cond (is_taken o) (option_map (taken_by s events) q) (cond (is_wrong o) q (option_map without_pair q))
changed begins o events q = option_map (on_request (began (is_done o) events)) q
changed ends o events q = option_map (on_request (ended events)) q
changed reads_on o events q = option_map (on_request (has_read events)) q
changed (seeks start end) o events q = cond (is_done o) (option_map (on_request (with_sought start end)) q) q
changed reads_no_more o events q = cond (is_wrong o) q (option_map (on_request without_reader) q)
changed (renews m) o events q = cond (is_wrong o) q (option_map (on_request (renewed m)) q)
changed (waits now) o events q = option_map (on_request (waited_by o now)) q
changed (pushes k limit) o events q = cond (is_done o) (Some (ongoing_put (new_put k limit))) q
changed feeds o events q = option_map (fed o events) q
changed goes o events q = cond (is_wrong o) q None

-- the row of a call, by the part of its reply that counts
abbrev pub row_by : Act → ReplyKind → List Event → Option Ongoing → Option Ongoing
row_by act o events q = changed (change_of act) o events q

-- the row of a call: what is open under its number after it
abbrev pub row : Act → Reply → List Event → Option Ongoing → Option Ongoing
row act reply events q = row_by act (kind_of_reply reply) events q

-- a request after it was handed a permit
abbrev pub handed_by : Option Permit → Ongoing → Ongoing
handed_by None x = x
handed_by (Some p) x = on_request (handed p) x

-- the permit that is held, if one is
abbrev pub permit_held : Option Ongoing → Option Permit
permit_held None = None
permit_held (Some x) = permit_in x.request.held

-- the request r after a call that may hand it the permit of another request; `giver` is that one before the call, and
-- q is r after the call's own change
abbrev pub taken_over : Act → ReplyKind → ℕ → Option Ongoing → Option Ongoing → Option Ongoing
taken_over (C.Give to) was_done r giver q = cond (to == r) (option_map (handed_by (permit_held giver)) q) q
taken_over act o r giver q = q

-- a request or a put after all entries that name it
abbrev pub request_of : ℕ → List Entry → Option Ongoing
request_of r [] = None
request_of r (e ∷ h) = taken_over e.call.act (kind_of_reply e.reply) r (request_of e.call.request h) (if e.call.request == r then row e.call.act e.reply e.events (request_of r h) else request_of r h)

-- the request to which a call hands a permit, after the giver no longer holds it
abbrev pub taker_in : ℕ → Act → List Entry → Option Ongoing
taker_in from (C.Give to) h = cond (from == to) (option_map (on_request unheld) (request_of to h)) (request_of to h)
taker_in from act h = None
