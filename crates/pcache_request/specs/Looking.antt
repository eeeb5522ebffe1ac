-- Look-ups, and the hits that come of them: what a call makes of the request, from r to s, of a storage, from a to b, and of a
-- lock table, from l to k, with this result (own). A pair that is found is a meta and a reader, whatever the storage's readers are.
use Rattle.std.specs.Prelude.{◌≡◌, ◌⊎◌, ℕ, List, Option, Err, Ok, IfErr, IfOk, IfSome, IsSome, IsTrue, OnErr, OnOk, Result, false, true, option_map}
use Rattle.pcache_base.specs.declared.error.ErrorType.{ErrorType}
use Rattle.pcache_base.specs.declared.error.ErrorType.TheVariants.{NumbersExhausted, OutOfMemory}
use Rattle.pcache_base.specs.declared.poll.Poll.{Poll}
use Rattle.pcache_lock.specs.Locks.{MayFailLock}
use Rattle.pcache_meta.specs.Meta.{Meta}
use Rattle.pcache_predict.specs.declared.admission.Decision.{Decision}
use Rattle.pcache_request.specs.Admissions.{looked_with, store_looked_with, table_looked_with, with_decision}
use Rattle.pcache_request.specs.Failures.{FailsToLook}
use Rattle.pcache_request.specs.LockPasts.{found_deeds, looked_with_deeds}
use Rattle.pcache_request.specs.LookUps.{OnLooked, OnUnlocked, Tells, handed_on}
use Rattle.pcache_request.specs.Requests.{Request, asks_for_hit, found_for, found_row, left_by, store_found, table_found, without_reader}
use Rattle.pcache_request.specs.Sides.{LockSide, StoreSide}
use Rattle.pcache_request.specs.StorePasts.{left_past, looked_past, taken_past}
use Rattle.pcache_request.specs.Variants.{asks_unseen, hides_for, seen_for}
use Rattle.pcache_request.specs.declared.cache.report.AskedLock.{AskedLock}
use Rattle.pcache_request.specs.declared.cache.report.FoundReport.{FoundReport}
use Rattle.pcache_request.specs.declared.cache.report.LookUp.{LookUp}
use Rattle.pcache_request.specs.declared.phase.HitStatus.{HitStatus}
use Rattle.pcache_store.specs.Notes.{leave_noted, noted}
use Rattle.pcache_store.specs.Store.{Reader, Store, gives_piece, left, read_of, reader_after}

-- the key is looked up, and a policy decided this, or none was asked
pub record LooksUp {H : Type 0} (reader : H → Reader) (result : Result (Option (Meta × H)) ErrorType) (d : Option Decision) (now : ℕ) (r s : Request) (a b : StoreSide) (l k : LockSide) : Type 0 where
  pub found : IfOk result (λ f. option_map (λ x. (x.0, reader x.1)) f ≡ seen_for a.store r)
  pub request : OnOk result (s ≡ looked_with d a.store l.locks r)
  pub store : OnOk result (b.store ≡ store_looked_with d r a.store)
  pub past : OnOk result (b.past ≡ looked_past d a.store r a.past)
  pub table : OnOk result (k.locks ≡ table_looked_with d a.store now r l.locks)
  pub deeds : OnOk result (k.deeds ≡ looked_with_deeds d a.store now l.locks r l.deeds)
  pub decided : OnErr result (s ≡ with_decision d r)
  pub left : OnErr result (FailsToLook a.store r a.past b.store b.past)
  pub same_store : OnErr result (hides_for a.store r ≡ false → b.store ≡ a.store)
  pub same_table : OnErr result (k.locks ≡ l.locks)
  pub same_deeds : OnErr result (k.deeds ≡ l.deeds)
  pub kind : IfErr result (λ e. MayFailLock l.locks e)
  pub numbers : IfErr result (λ e. e ≡ NumbersExhausted → IsTrue (asks_unseen a.store r))
  pub something : OnErr result (IsSome (found_for a.store r.key) ⊎ IsTrue r.uses.lock)

-- the same, and the result says how far the call came: it fails only before it did anything but look
pub record TellsLookUp {H : Type 0} (reader : H → Reader) (result : Result (LookUp H) ErrorType) (d : Option Decision) (now : ℕ) (r s : Request) (a b : StoreSide) (l k : LockSide) : Type 0 where
  pub found : IfOk result (λ x. option_map (λ p. (p.0, reader p.1)) (handed_on x) ≡ seen_for a.store r)
  pub told : IfOk result (λ x. Tells d a.store l.locks r x)
  pub request : IfOk result (λ x. OnLooked x (s ≡ looked_with d a.store l.locks r))
  pub table : IfOk result (λ x. OnLooked x (k.locks ≡ table_looked_with d a.store now r l.locks))
  pub deeds : IfOk result (λ x. OnLooked x (k.deeds ≡ looked_with_deeds d a.store now l.locks r l.deeds))
  pub store : OnOk result (b.store ≡ store_looked_with d r a.store)
  pub past : OnOk result (b.past ≡ looked_past d a.store r a.past)
  -- the lock failed
  pub unlocked_request : IfOk result (λ x. OnUnlocked x (s ≡ with_decision d r))
  pub unlocked_table : IfOk result (λ x. OnUnlocked x (k.locks ≡ l.locks))
  pub unlocked_deeds : IfOk result (λ x. OnUnlocked x (k.deeds ≡ l.deeds))
  pub unlocked_store : IfOk result (λ x. OnUnlocked x (hides_for a.store r ≡ false → b.store ≡ a.store))
  -- the call failed
  pub same_request : OnErr result (s ≡ r)
  pub same_table : OnErr result (k.locks ≡ l.locks)
  pub same_deeds : OnErr result (k.deeds ≡ l.deeds)
  pub something : OnErr result (IsSome (found_for a.store r.key))

-- how the lock was asked for in a call with such a report, or why the call failed
abbrev pub asked_in : Result FoundReport ErrorType → Result (Option AskedLock) ErrorType
asked_in (Ok f) = f.asked
asked_in (Err e) = Err e

-- the pair that a look-up found, with this status, becomes the request's, and the lock is asked for if it is not served as it is; if
-- that fails, the reader is let go
pub record TakesFound {A : Type 0} (result : Result A ErrorType) (status : HitStatus) (m : Meta) (h : Reader) (now : ℕ) (r s : Request) (a b : StoreSide) (l k : LockSide) : Type 0 where
  pub request : OnOk result (s ≡ found_row status m h l.locks r)
  pub store : OnOk result (b.store ≡ store_found status h r a.store)
  pub past : OnOk result (b.past ≡ taken_past status h r a.past)
  pub table : OnOk result (k.locks ≡ table_found status now r l.locks)
  pub deeds : OnOk result (k.deeds ≡ found_deeds status now l.locks r l.deeds)
  pub same_request : OnErr result (s ≡ r)
  pub left_store : OnErr result (b.store ≡ left a.store h)
  pub left_past : OnErr result (b.past ≡ noted (leave_noted h) a.past)
  pub same_table : OnErr result (k.locks ≡ l.locks)
  pub same_deeds : OnErr result (k.deeds ≡ l.deeds)
  pub kind : IfErr result (λ e. MayFailLock l.locks e)
  pub numbers : IfErr result (λ e. e ≡ NumbersExhausted → IsTrue (asks_for_hit status r))

-- the body is read on
pub record Reads (result : Result (Poll (Option (List ℕ))) ErrorType) (r s : Request) (a : Store) : Type 0 where
  pub read : IfOk result (λ b. IfSome r.reader (λ h. b ≡ read_of a h))
  pub request : OnOk result (s ≡ record r { reader = option_map (reader_after a) r.reader })
  pub same_request : OnErr result (s ≡ r)
  pub something : OnErr result (IfSome r.reader (λ h. gives_piece (read_of a h) ≡ true))
  pub kind : IfErr result (λ e. e ≡ OutOfMemory)

-- the reader ends
pub record EndsHit (r s : Request) (a b : StoreSide) : Type 0 where
  pub request : s ≡ without_reader r
  pub store : b.store ≡ left_by r.reader a.store
  pub past : b.past ≡ left_past r.reader a.past
