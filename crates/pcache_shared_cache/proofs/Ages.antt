-- No call changes the age at which the permits of a table are too old.
use Rattle.std.specs.FinMap.{get}
use Rattle.pcache_base.specs.Key.{Key}
use Rattle.pcache_base.specs.declared.poll.Poll.TheVariants.{Ready}
use Rattle.pcache_lock.proofs.PastWaits.{age_dropped, age_polled, age_read, age_released, age_unread}
use Rattle.pcache_lock.specs.Locks.{Locks, after_request, holder, let_go}
use Rattle.pcache_lock.specs.Permits.{Permit}
use Rattle.pcache_lock.specs.Waiting.{after_poll}
use Rattle.pcache_lock.specs.declared.lock.permit.Locked.{Locked}
use Rattle.pcache_lock.specs.declared.lock.permit.Locked.TheVariants.{Read, Write}
use Rattle.pcache_lock.specs.declared.lock.status.LockStatus.TheVariants.{TransientError}
use Rattle.pcache_request.specs.LockWaits.{let_go_after, wait_result}
use Rattle.pcache_request.specs.Requests.{asks_as_stale, asks_for_hit, table_asked}
use Rattle.pcache_request.specs.Variants.{leaves_variant}
use Rattle.pcache_request.specs.WriteEnds.{Ends, EndsIdle}
use Rattle.pcache_store.specs.Store.{Guarantees}
use Rattle.pcache_store.specs.declared.storage.MissFinishType.{MissFinishType}
use Rattle.pcache_shared_cache.proofs.Words.{◌≡◌, ℕ, Bool, true, false, List, Option, None, Some, Result, Ok, Err, OnErr, OnOk, cond, refl, ◌∙◌, ap, slot, ErrorType, Poll, Pending, Limits, Tracked, LockWaitOutcome, LockStatus, Done, published_by, table_handed, table_waited, Request, let_go_by, settled, table_found, is_unseen_for, table_key_locked, table_looked_for, table_varied, WriteEnd, HitStatus, Store}
use Rattle.pcache_request.specs.declared.cache.finish.WriteEnd.TheVariants as end

-- the table t has the age of s
abbrev pub HasAgeOf : Locks → Locks → Type 0
HasAgeOf s t = t.age_timeout ≡ s.age_timeout

-- a table that is as it was, or another one
pub age_as : (s t u : Locks) → u ≡ t → HasAgeOf s t → HasAgeOf s u
age_as s t u is age = ap (λ (x : Locks). x.age_timeout) is ∙ age

pub age_if : {A : Type 0} (result : Result A ErrorType) (s t u : Locks) → OnOk result (u ≡ t) → HasAgeOf s t → OnErr result (u ≡ s) → HasAgeOf s u
age_if (Ok a) s t u is age same = age_as s t u is age
age_if (Err e) s t u is age same = age_as s s u same refl

either : (b : Bool) (s t : Locks) → HasAgeOf s t → HasAgeOf s (cond b t s)
either true s t age = age
either false s t age = refl

pub age_settled : (status : LockStatus) (held : Option Locked) (s : Locks) → HasAgeOf s (settled status held s)
age_settled status None s = refl
age_settled status (Some (Write p)) s = age_released s p.number status (get s.cores p.number)
age_settled status (Some (Read r)) s = age_unread s r.number (get s.cores r.number)

pub age_let_go : (held : Option Locked) (s : Locks) → HasAgeOf s (let_go_by held s)
age_let_go None s = refl
age_let_go (Some (Write p)) s = age_dropped s p.number (get s.cores p.number)
age_let_go (Some (Read r)) s = age_unread s r.number (get s.cores r.number)

requested : (s : Locks) (k : ℕ) (stale : Bool) (now : ℕ) (o : Option ℕ) → HasAgeOf s (after_request s k stale now o)
requested s k stale now None = refl
requested s k stale now (Some n) = age_read s n (get s.cores n)

asked : (stale : Bool) (now : ℕ) (key : Option Key) (held : Option Locked) (s : Locks) → HasAgeOf s (table_asked stale now key held s)
asked stale now None held s = refl
asked stale now (Some k) held s =
    let t : Locks = after_request s (slot k) stale now (holder s (slot k)) in
    age_let_go held t ∙ requested s (slot k) stale now (holder s (slot k))

pub age_found : (status : HitStatus) (now : ℕ) (r : Request) (s : Locks) → HasAgeOf s (table_found status now r s)
age_found status now r s = either (asks_for_hit status r) s (table_asked (asks_as_stale status r.phase) now r.key r.held s) (asked (asks_as_stale status r.phase) now r.key r.held s)

pub age_looked : (store : Store) (now : ℕ) (r : Request) (s : Locks) → HasAgeOf s (table_looked_for store now r s)
age_looked store now r s = either (is_unseen_for store r) s (table_key_locked now r s) (either r.uses.lock s (table_asked false now r.key r.held s) (asked false now r.key r.held s))

answered : (answer : Poll LockWaitOutcome) (n : ℕ) (s t : Locks) → HasAgeOf s t → HasAgeOf s (let_go_after answer n t)
answered (Ready o) n s t age = age_unread t n (get t.cores n) ∙ age
answered Pending n s t age = age

pub age_waited : (s : Locks) (now : ℕ) (held : Option Locked) (r : Request) → HasAgeOf s (table_waited s now held r)
age_waited s now None r = refl
age_waited s now (Some (Write p)) r = refl
age_waited s now (Some (Read rd)) r = answered (wait_result s now (Some (Read rd)) r) rd.number s (after_poll s now rd.number (get s.cores rd.number)) (age_polled s now rd.number (get s.cores rd.number))

handed_to : (used : Bool) (p : Permit) (held : Option Locked) (s : Locks) → HasAgeOf s (cond used (let_go_by held s) (let_go s (Write p)))
handed_to true p held s = age_let_go held s
handed_to false p held s = age_dropped s p.number (get s.cores p.number)

pub age_handed : (p : Permit) (r : Request) (s : Locks) → HasAgeOf s (table_handed p r s)
age_handed p r s = handed_to r.uses.lock p r.held s

pub age_published : (tokens : List ℕ) (held : Option Locked) (s : Locks) → HasAgeOf s (published_by tokens held s)
age_published tokens None s = refl
age_published tokens (Some (Write p)) s = refl
age_published tokens (Some (Read r)) s = refl

pub age_varied : (variance : Option (List ℕ)) (r : Request) (s : Locks) → HasAgeOf s (table_varied variance r s)
age_varied variance r s = either (leaves_variant variance r.key) s (settled Done r.held s) (age_settled Done r.held s)

-- the table after a held lock was released
pub settled_at : (status : LockStatus) (held : Option Locked) (s t : Locks) → t ≡ settled status held s → HasAgeOf s t
settled_at status held s t is = age_as s (settled status held s) t is (age_settled status held s)

idle : (how : WriteEnd) (s s' : Store) (m m' : Tracked) (t t' : Locks) → EndsIdle how s s' m m' t t' → HasAgeOf t t'
idle end.Nothing s s' m m' t t' is = ap (λ (x : Locks). x.age_timeout) is.2
idle (end.Stored f) s s' m m' t t' is = absurd is
idle (end.Dropped e) s s' m m' t t' is = absurd is
idle (end.Withdrawn e) s s' m m' t t' is = absurd is

-- the table after the end of a write
pub age_ended : (g : Guarantees) (r : Request) (k : Option Key) (w : Option ℕ) (kind : MissFinishType) (limits : Limits) (how : WriteEnd) (s s' : Store) (m m' : Tracked) (t t' : Locks)
    → Ends g r k w kind limits how s s' m m' t t' → HasAgeOf t t'
age_ended g r k None kind limits how s s' m m' t t' is = idle how s s' m m' t t' is
age_ended g r None (Some w) kind limits how s s' m m' t t' is = absurd is
age_ended g r (Some k) (Some w) kind limits end.Nothing s s' m m' t t' is = absurd is
age_ended g r (Some k) (Some w) kind limits (end.Stored f) s s' m m' t t' is = settled_at Done r.held t t' is.released
age_ended g r (Some k) (Some w) kind limits (end.Dropped e) s s' m m' t t' is = settled_at TransientError r.held t t' is.released
age_ended g r (Some k) (Some w) kind limits (end.Withdrawn e) s s' m m' t t' is = settled_at Done r.held t t' is.released
