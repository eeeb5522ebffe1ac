-- Which permits wait in a table, and what holds of each table (own).
use Rattle.std.specs.Prelude.{ℕ, Bool, true, false, ◌≡◌, ◌==◌, ◌≤◌, ◌&&◌, ◌↔◌, ◌++◌, Option, Some, None, List, length, cond, IsSome}
use Rattle.std.specs.FinMap.{get}
use Rattle.pcache_lock.specs.declared.lock.permit.Locked.TheVariants.{Write, Read}
use Rattle.pcache_lock.specs.declared.lock.status.LockStatus.{LockStatus}
use Rattle.pcache_lock.specs.Statuses.{IsReason, is_waiting}
use Rattle.pcache_lock.specs.Permits.{Core, Permit, Reader, Watch, is_named}
use Rattle.pcache_lock.specs.Locks.{Locks, after_request, holder, let_go, released, unlocked, with_free_permit, with_read_lock}
use Rattle.pcache_lock.specs.Waiting.{after_poll, is_old, watched, permit_state, published}

-- the slot of the key for which a lock's permit waits: it was given for that key, and was neither released, nor
-- unlocked, nor let go, nor found too old
abbrev pub waiting_slot : Option Core → Option ℕ
waiting_slot None = None
waiting_slot (Some c) = cond (c.held && is_waiting c.status) c.slot None

-- the same, by the number of the lock
abbrev pub waits_under : Locks → ℕ → Option ℕ
waits_under t n = waiting_slot (get t.cores n)

-- a poll finds a permit too old
abbrev pub is_old_at : ℕ → Option Core → Bool
is_old_at now None = false
is_old_at now (Some c) = is_old (permit_state now c)

-- of the permits given for one key at most one waits
abbrev pub OneWaits : Locks → Type 0
OneWaits t = (slot n m : ℕ) → waits_under t n ≡ Some slot → waits_under t m ≡ Some slot → n ≡ m

-- a request for a key gets a read lock on the permit that waits for it, and otherwise the permit
abbrev pub AskFindsTheWaiting : Locks → Type 0
AskFindsTheWaiting t = (slot n : ℕ) → (holder t slot ≡ Some n) ↔ (waits_under t n ≡ Some slot)

-- a permit waits from when it is given until it is released, unlocked, let go or found too old, whatever else happens: of
-- each function of tables
pub record WaitsUntilItsEnd : Type 0 where
  pub asking : (t : Locks) (slot : ℕ) (stale : Bool) (now n : ℕ) → waits_under (after_request t slot stale now None) n ≡ cond (n == t.next) (Some slot) (waits_under t n)
  pub joining : (t : Locks) (slot : ℕ) (stale : Bool) (now m n : ℕ) → waits_under (after_request t slot stale now (Some m)) n ≡ waits_under t n
  pub releasing : (t : Locks) (m : ℕ) (reason : LockStatus) (n : ℕ) → waits_under (released t m reason) n ≡ cond (n == m) None (waits_under t n)
  pub letting_go : (t : Locks) (p : Permit) (n : ℕ) → waits_under (let_go t (Write p)) n ≡ cond (n == p.number) None (waits_under t n)
  pub leaving : (t : Locks) (r : Reader) (n : ℕ) → waits_under (let_go t (Read r)) n ≡ waits_under t n
  pub polling : (t : Locks) (now m n : ℕ) → waits_under (after_poll t now m (get t.cores m)) n ≡ cond ((n == m) && is_old_at now (get t.cores m)) None (waits_under t n)
  pub publishing : (t : Locks) (m : ℕ) (tokens : List ℕ) (n : ℕ) → waits_under (published t m tokens) n ≡ waits_under t n
  pub making : (t : Locks) (age_timeout : ℕ) (stale : Bool) (now n : ℕ) → waits_under (with_free_permit t age_timeout stale now) n ≡ cond (n == t.next) None (waits_under t n)
  pub reading : (t : Locks) (m n : ℕ) → waits_under (with_read_lock t m (get t.cores m)) n ≡ waits_under t n
  pub unlocking : (t : Locks) (m : ℕ) (reason : LockStatus) (n : ℕ) → IsReason reason → waits_under (unlocked t m reason) n ≡ cond (n == m) None (waits_under t n)

-- looking twice is looking once, at all that was published since the first poll: the first publication with a match
-- counts, however often it was replaced before the reader looked again
abbrev pub LooksAtEachPublication : Type 0
LooksAtEachPublication = (c : Core) (more : List (List ℕ)) (w : Watch) → w.seen ≤ length c.publications
    → watched (record c { publications = c.publications ++ more }) (watched c w) ≡ watched (record c { publications = c.publications ++ more }) w

-- a table keeps no lock that neither its permit nor a read lock names, and no entry without its lock
abbrev pub AllNamed : Locks → Type 0
AllNamed t = (n : ℕ) (c : Core) → get t.cores n ≡ Some c → is_named c ≡ true

-- each lock that is known is named by a permit or a read lock, and the current lock of each key is known
pub record NothingRemains (t : Locks) : Type 0 where
  pub locks : AllNamed t
  pub entries : (slot n : ℕ) → get t.current slot ≡ Some n → IsSome (get t.cores n)
