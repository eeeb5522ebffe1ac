-- Whether a request uses a lock and how it waits, and what happens to the lock that it holds (the phase table).
use Rattle.std.specs.Prelude.{ℕ, ◌≡◌, List, Bool, Option, Some, None, cond, option_map}
use Rattle.std.specs.Duration.{as_nanos}
use Rattle.pcache_lock.specs.Locks.{Locks, let_go}
use Rattle.pcache_lock.specs.Permits.{Permit, Reader}
use Rattle.pcache_lock.specs.Waiting.{published}
use Rattle.pcache_lock.specs.declared.lock.permit.Locked.{Locked}
use Rattle.pcache_lock.specs.declared.lock.permit.Locked.TheVariants.{Write, Read}
use Rattle.pcache_request.specs.declared.cache.lock_use.CacheOptionOverrides.{CacheOptionOverrides}
use Rattle.pcache_request.specs.declared.phase.CachePhase.{CachePhase}
use Rattle.pcache_request.specs.declared.phase.CachePhase.TheVariants as phase
use Rattle.pcache_request.specs.declared.phase.InUse.{InUse}
use Rattle.pcache_request.specs.Requests.{Request, enabled_with, let_go_by}

-- the permit that is held, and the read lock
abbrev pub permit_in : Option Locked → Option Permit
permit_in None = None
permit_in (Some (Write p)) = Some p
permit_in (Some (Read r)) = None

-- the read lock that is held
abbrev pub read_in : Option Locked → Option Reader
read_in None = None
read_in (Some (Write p)) = None
read_in (Some (Read r)) = Some r

-- a lock may be taken into use, or out of it
abbrev pub MaySetLockIn : CachePhase → Type 0
MaySetLockIn phase.CacheKey = Unit {0}
MaySetLockIn phase.Stale = Unit {0}
MaySetLockIn phase.Hit = Unit {0}
MaySetLockIn _ = ⊥

-- the same for a request: it holds no lock
abbrev pub MaySetLock : Request → Type 0
MaySetLock r = MaySetLockIn r.phase × (r.held ≡ None)

-- the options that a caller sets; those of a lock that is not in use are none
abbrev pub timeout_in : Option CacheOptionOverrides → Option ℕ
timeout_in None = None
timeout_in (Some o) = option_map as_nanos o.wait_timeout

-- how often a request tries again at most
abbrev pub retries_in : Option CacheOptionOverrides → Option ℕ
retries_in None = None
retries_in (Some o) = o.max_lock_retries

-- the request with these options
abbrev pub with_options : Bool → Option CacheOptionOverrides → Request → Request
with_options uses o r = record r { wait_timeout = cond uses (timeout_in o) None; max_retries = cond uses (retries_in o) None }

-- whether a lock is in use
abbrev pub lock_used : Bool → InUse → InUse
lock_used uses u = record u { lock = uses }

-- the request with a lock in use, or not, and these options
abbrev pub with_cache_lock : Bool → Option CacheOptionOverrides → Request → Request
with_cache_lock uses o r = with_options uses o (record r { uses = lock_used uses r.uses })

-- a request that is enabled with options
abbrev pub enabled_waiting : InUse → Option CacheOptionOverrides → Request → Request
enabled_waiting uses o r = with_options uses.lock o (enabled_with uses r)

-- nothing is held any more
abbrev pub unheld : Request → Request
unheld r = record r { held = None }

-- a permit that is handed over is held, and a lock held before is let go; if no lock is in use, the permit itself is
-- let go
abbrev pub handed : Permit → Request → Request
handed p r = cond r.uses.lock (record r { held = Some (Write p) }) r

-- the lock table after that
abbrev pub table_handed : Permit → Request → Locks → Locks
table_handed p r t = cond r.uses.lock (let_go_by r.held t) (let_go t (Write p))

-- the lock that is let go then
abbrev pub gone_for : Permit → Request → Option Locked
gone_for p r = cond r.uses.lock r.held (Some (Write p))

-- tokens are published if a permit is held
abbrev pub published_by : List ℕ → Option Locked → Locks → Locks
published_by tokens None t = t
published_by tokens (Some (Write p)) t = published t p.number tokens
published_by tokens (Some (Read r)) t = t
