-- For the prover: the facts that a call may ask of the history before it, by the parts of a world (own).
use Rattle.std.specs.Prelude.{ℕ, Bool, false, Option, Some, None, is_some, List}
use Rattle.std.specs.FinMap as map
use Rattle.pcache_base.specs.Key.{Key, slot}
use Rattle.pcache_base.specs.declared.poll.Poll.{Poll}
use Rattle.pcache_base.specs.declared.poll.Poll.TheVariants.{Ready}
use Rattle.pcache_lock.specs.Locks.{Locks, no_locks}
use Rattle.pcache_request.specs.LockWaits.{too_old_for, unusable_in, wait_result}
use Rattle.pcache_request.specs.Requests.{Request, found_for, new_request}
use Rattle.pcache_store.specs.Store as store
use Rattle.pcache_store.specs.Store.{Store, Reader, read_of, is_told, is_untouched, written_size}
use Rattle.pcache_history.specs.Facts.{Facts}
use Rattle.pcache_history.specs.Ongoing.{Ongoing}
use Rattle.pcache_world.specs.State.{State}

-- something is stored for the key
abbrev pub there_for : Store → Option Key → Bool
there_for s None = false
there_for s (Some k) = is_some (map.get s.slots (slot k))

-- a complete body is stored for the key
abbrev pub complete_for : Store → Option Key → Bool
complete_for s None = false
complete_for s (Some k) = is_some (store.complete_body (map.get s.slots (slot k)))

-- the number of the key's complete body, if entries have numbers
abbrev pub number_for : Store → Option Key → Option ℕ
number_for s None = None
number_for s (Some k) = store.number_of_body (store.complete_body (map.get s.slots (slot k)))

-- what a read returns
abbrev pub given_by : Store → Option Reader → Poll (Option (List ℕ))
given_by s None = Ready None
given_by s (Some rd) = read_of s rd

-- whether the end of the write was announced
abbrev pub told_of : Store → Option ℕ → Bool
told_of s None = false
told_of s (Some w) = is_told (map.get s.writes w)

-- whether the write met no removal
abbrev pub untouched_for : Store → Option ℕ → Bool
untouched_for s None = false
untouched_for s (Some w) = is_untouched s w

-- the number of bytes of the write
abbrev pub size_for : Store → Option ℕ → ℕ
size_for s None = 0
size_for s (Some w) = written_size (map.get s.writes w)

-- the facts, given what is open under the number that a permit is handed to
abbrev pub facts_for : Store → Locks → Request → Option Ongoing → Facts
facts_for s t x taker = record {
  next = s.next;
  found = found_for s x.key;
  there = there_for s x.key;
  complete = complete_for s x.key;
  number = number_for s x.key;
  given = given_by s x.reader;
  told = told_of s x.write;
  untouched = untouched_for s x.write;
  size = size_for s x.write;
  asked = t.next;
  wait = λ now. wait_result t now x.held x;
  too_old = λ now. too_old_for t now x.held (unusable_in x.key);
  taker = taker;
  early = false;
}

-- the facts for a call that hands nothing over
abbrev pub facts_in : Store → Locks → Request → Facts
facts_in s t x = facts_for s t x None

-- the same, by the parts as one value
abbrev pub facts_of : State → Request → Facts
facts_of p x = facts_in p.store p.locks x

-- the facts for a call that asks for none
abbrev pub no_facts : Facts
no_facts = facts_in (record { slots = map.empty; writes = map.empty; next = 0; newest = false }) (no_locks 0) new_request
