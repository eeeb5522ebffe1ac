-- What a call may ask of the history before it, about the request that it names, and what the history says (own).
use Rattle.std.specs.Prelude.{◌≡◌, ℕ, Bool, not, Option, Some, None, is_some, List, length}
use Rattle.pcache_base.specs.Key.{Key, slot}
use Rattle.pcache_lock.specs.Permits as permits
use Rattle.pcache_lock.specs.declared.lock.outcome.LockWaitOutcome.{LockWaitOutcome}
use Rattle.pcache_lock.specs.declared.lock.permit.Locked.TheVariants.{Read}
use Rattle.pcache_meta.specs.Meta.{Meta}
use Rattle.pcache_base.specs.declared.poll.Poll.{Poll}
use Rattle.pcache_request.specs.Requests.{Request, new_request}
use Rattle.pcache_store.specs.Store.{Reader, number_of_body}
use Rattle.pcache_history.specs.declared.entry.Answer.{Answer}
use Rattle.pcache_history.specs.declared.entry.Event.{Event}
use Rattle.pcache_history.specs.Deeds.{Deed}
use Rattle.pcache_history.specs.Events as ev
use Rattle.pcache_history.specs.Events.{begun, is_removed, body_of, complete}
use Rattle.pcache_history.specs.Ongoing.{Ongoing, pair_of}
use Rattle.pcache_history.specs.History.{Finds, HasAny, reads}
use Rattle.pcache_history.specs.Waiting.{waiting_in}
use Rattle.pcache_history.specs.Waits.{finds_too_old, wait_of}

pub record Facts : Type 0 where
  -- the number of the next write
  pub next : ℕ
  -- what a look-up of the key finds, and whether anything is stored for it
  pub found : Option (Meta × Reader)
  pub there : Bool
  -- whether it has a complete body, and the number of the write that stored that
  pub complete : Bool
  pub number : Option ℕ
  -- what the reader gives
  pub given : Poll (Option (List ℕ))
  -- of the write: whether its end was announced, whether its key met no removal since it began, its size
  pub told : Bool
  pub untouched : Bool
  pub size : ℕ
  -- how many permits were given
  pub asked : ℕ
  -- what a wait returns at a moment, and whether it finds the permit too old
  pub wait : ℕ → Poll LockWaitOutcome
  pub too_old : ℕ → Bool
  -- the request to which the call hands a permit, after the giver no longer holds it
  pub taker : Option Ongoing
  -- of a load: whether only loads came before it
  pub early : Bool

-- the open request; a new one if none is open
abbrev pub request_in : Option Ongoing → Request
request_in None = new_request
request_in (Some x) = x.request

-- These facts about the request r are what a history with these events and deeds says, if permits are too old after the
-- time `age`.
pub record Says (age : ℕ) (es : List Event) (ds : List Deed) (r : ℕ) (x : Request) (f : Facts) : Type 0 where
  pub next : f.next ≡ begun es
  pub found : (k : Key) (a : Answer) → x.key ≡ Some k → pair_of a ≡ f.found → Finds es (slot k) a
  pub there : (k : Key) → x.key ≡ Some k → HasAny es (slot k) f.there
  pub complete : (k : Key) → x.key ≡ Some k → f.complete ≡ is_some (complete (slot k) es)
  pub number : (k : Key) → x.key ≡ Some k → f.number ≡ number_of_body (ev.complete (slot k) es)
  pub given : (rd : Reader) → x.reader ≡ Some rd → f.given ≡ reads es rd
  pub told : (w : ℕ) → x.write ≡ Some w → f.told ≡ ev.is_told w es
  pub untouched : (w : ℕ) → x.write ≡ Some w → f.untouched ≡ not (is_removed w es)
  pub size : (w : ℕ) → x.write ≡ Some w → f.size ≡ length (body_of w es)
  pub asked : f.asked ≡ (waiting_in es).asked
  pub wait : (rd : permits.Reader) (now : ℕ) → x.held ≡ Some (Read rd) → f.wait now ≡ wait_of age now r rd x ds
  pub too_old : (rd : permits.Reader) (now : ℕ) → x.held ≡ Some (Read rd) → f.too_old now ≡ finds_too_old age now r rd x ds
