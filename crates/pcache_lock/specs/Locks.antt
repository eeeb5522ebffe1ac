-- What a table of locks contains, and what its calls do to it (own).
use Rattle.std.specs.Prelude.{ℕ, ◌+◌, ◌^◌, ◌==◌, ◌≤◌, Bool, true, false, Option, Some, None, cond}
use Rattle.std.specs.Ordering.{nat_cmp}
use Rattle.std.specs.FinMap.{FinMap, empty, get, insert, remove}
use Rattle.pcache_base.specs.declared.error.ErrorType.{ErrorType}
use Rattle.pcache_base.specs.declared.error.ErrorType.TheVariants.{OutOfMemory, InternalError, InvalidHttpHeader, ResponseTooLarge, IncompleteHttpBody, WriteRemoved, NumbersExhausted, Io, Superseded}
use Rattle.pcache_lock.specs.declared.lock.permit.Locked.{Locked}
use Rattle.pcache_lock.specs.declared.lock.permit.Locked.TheVariants.{Write, Read}
use Rattle.pcache_lock.specs.declared.lock.status.LockStatus.{LockStatus}
use Rattle.pcache_lock.specs.declared.lock.status.LockStatus.TheVariants.{Dangling}
use Rattle.pcache_lock.specs.Statuses.{is_free, is_aged}
use Rattle.pcache_lock.specs.Permits.{Core, new_core, is_locked, is_named, with_reader, without_reader, spent, released_status, dropped_status}

-- the locks that are still named, by number; the number of the current lock of each key; the number of the next lock;
-- and the age in nanoseconds at which a permit is too old
pub record Locks : Type 0 where
  pub cores : FinMap nat_cmp Core
  pub current : FinMap nat_cmp ℕ
  pub next : ℕ
  pub age_timeout : ℕ

-- a table with no lock
abbrev pub no_locks : ℕ → Locks
no_locks age_timeout = record { cores = empty; current = empty; next = 0; age_timeout = age_timeout }

-- a table with no lock, whose next permit has this number
abbrev pub no_locks_from : ℕ → ℕ → Locks
no_locks_from next age_timeout = record { cores = empty; current = empty; next = next; age_timeout = age_timeout }

-- the lock that a request for the key would wait for: the key's current one, unless its status is free
abbrev pub unless_free : ℕ → Option Core → Option ℕ
unless_free n None = None
unless_free n (Some c) = cond (is_free c.status) None (Some n)

abbrev pub held_by : Locks → Option ℕ → Option ℕ
held_by t None = None
held_by t (Some n) = unless_free n (get t.cores n)

-- the lock that a request for the key has to wait for, by the key's current lock
abbrev pub holder : Locks → ℕ → Option ℕ
holder t k = held_by t (get t.current k)

-- what a request for the key gets
abbrev pub lock_given : Locks → Bool → Option ℕ → Locked
lock_given t stale None = Write (record { number = t.next; stale_writer = stale })
lock_given t stale (Some n) = Read (record { number = n; watch = None })

-- the table after that: with a new lock as the key's current one, or with one more read lock
abbrev pub with_core : Locks → ℕ → Core → Locks
with_core t k c = record t {
  cores = insert t.cores t.next c;
  current = insert t.current k t.next;
  next = t.next + 1;
}

-- the table with a new lock of a key, whose permit is given now
abbrev pub with_permit : Locks → ℕ → Bool → ℕ → Locks
with_permit t k stale now = with_core t k (new_core (Some k) t.age_timeout stale now)

-- the table with one more read lock on a lock
abbrev pub with_read_lock : Locks → ℕ → Option Core → Locks
with_read_lock t n None = t
with_read_lock t n (Some c) = record t { cores = insert t.cores n (with_reader c) }

-- the table after a request for a key, given the lock that it has to wait for
abbrev pub after_request : Locks → ℕ → Bool → ℕ → Option ℕ → Locks
after_request t k stale now None = with_permit t k stale now
after_request t k stale now (Some n) = with_read_lock t n (get t.cores n)

-- the entries without that of this lock, if it is the current one of its key
abbrev pub is_current : ℕ → Option ℕ → Bool
is_current n None = false
is_current n (Some m) = m == n

abbrev pub without_entry : ℕ → Option ℕ → FinMap nat_cmp ℕ → FinMap nat_cmp ℕ
without_entry n None current = current
without_entry n (Some k) current = cond (is_current n (get current k)) (remove current k) current

-- a lock written back; a lock that nothing names any more is removed with its entry
abbrev pub kept : Locks → ℕ → Core → Locks
kept t n c = cond (is_named c)
    (record t { cores = insert t.cores n c })
    (record t { cores = remove t.cores n; current = without_entry n c.slot t.current })

-- a lock changed, if it is known
abbrev pub changed : (Core → Core) → FinMap nat_cmp Core → ℕ → Option Core → FinMap nat_cmp Core
changed f cores n None = cores
changed f cores n (Some c) = insert cores n (f c)

-- a permit spent, and a read lock dropped
abbrev pub permit_spent : Locks → ℕ → LockStatus → Option Core → Locks
permit_spent t n status None = t
permit_spent t n status (Some c) = kept t n (spent c status)

-- a permit released: its own entry is removed, unless it aged out
abbrev pub left : Locks → ℕ → Core → Locks
left t n c = cond (is_aged c.status) t (record t { current = without_entry n c.slot t.current })

-- the table after a permit was released with a status
abbrev pub released_on : Locks → ℕ → LockStatus → Option Core → Locks
released_on t n reason None = t
released_on t n reason (Some c) = kept (left t n c) n (spent c (released_status reason c.status))

abbrev pub released : Locks → ℕ → LockStatus → Locks
released t n reason = released_on t n reason (get t.cores n)

-- a lock let go
abbrev pub permit_dropped : Locks → ℕ → Option Core → Locks
permit_dropped t n None = t
permit_dropped t n (Some c) = kept t n (spent c (dropped_status c.status))

-- the table after a read lock was let go
abbrev pub reader_dropped : Locks → ℕ → Option Core → Locks
reader_dropped t n None = t
reader_dropped t n (Some c) = kept t n (without_reader c)

-- the table after a lock was let go
abbrev pub let_go : Locks → Locked → Locks
let_go t (Write p) = permit_dropped t p.number (get t.cores p.number)
let_go t (Read r) = reader_dropped t r.number (get t.cores r.number)

-- whether a lock that was given is the permit; the lock's number
abbrev pub is_permit : Locked → Bool
is_permit (Write p) = true
is_permit (Read r) = false

abbrev pub number_of_lock : Locked → ℕ
number_of_lock (Write p) = p.number
number_of_lock (Read r) = r.number

-- why asking for a lock may fail: memory ran out, or all numbers are used
abbrev pub MayFailLock : Locks → ErrorType → Type 0
MayFailLock t OutOfMemory = Unit {0}
MayFailLock t InternalError = ⊥
MayFailLock t InvalidHttpHeader = ⊥
MayFailLock t ResponseTooLarge = ⊥
MayFailLock t IncompleteHttpBody = ⊥
MayFailLock t WriteRemoved = ⊥
MayFailLock t NumbersExhausted = 2 ^ 64 ≤ t.next
MayFailLock t Io = ⊥
MayFailLock t Superseded = ⊥

-- a lock whose final status is set while its permit is still held
abbrev pub ended : LockStatus → Core → Core
ended reason c = record c { status = reason }

-- the table after a lock's final status was set while its permit is still held
abbrev pub unlocked : Locks → ℕ → LockStatus → Locks
unlocked t n reason = record t { cores = changed (ended reason) t.cores n (get t.cores n) }

-- a lock for no key
abbrev pub with_free_permit : Locks → ℕ → Bool → ℕ → Locks
with_free_permit t age_timeout stale now = record t {
  cores = insert t.cores t.next (new_core None age_timeout stale now);
  next = t.next + 1;
}

-- what is known of a lock: whether its permit is still held, and its status
abbrev pub locked_at : Option Core → Bool
locked_at None = false
locked_at (Some c) = is_locked c

-- the status of a lock; a lock that is not known is dangling
abbrev pub status_kept : Option Core → LockStatus
status_kept None = Dangling
status_kept (Some c) = c.status
