-- A read lock that a request waits with, as far as the replies to its calls show it (own): a reader that was polled has
-- the fills that it watches for, which are those of its first poll.
use Rattle.std.specs.Prelude.{ℕ, Option, None, Some, List, [], unwrap_or}
use Rattle.pcache_base.specs.declared.fills.UnusableFill.{UnusableFill}
use Rattle.pcache_base.specs.declared.poll.Poll.{Poll}
use Rattle.pcache_lock.specs.Permits.{Reader, Watch}
use Rattle.pcache_lock.specs.declared.lock.outcome.LockWaitOutcome.{LockWaitOutcome}
use Rattle.pcache_lock.specs.declared.lock.permit.Locked.{Locked}
use Rattle.pcache_lock.specs.declared.lock.permit.Locked.TheVariants.{Write, Read}
use Rattle.pcache_request.specs.LockWaits.{after_wait, since_of, unusable_in}
use Rattle.pcache_request.specs.Requests.{Request}

-- the fills that a reader watches for: those of its first poll
abbrev pub fills_of : Option Watch → Option (List UnusableFill) → List UnusableFill
fills_of None fills = unwrap_or fills []
fills_of (Some w) fills = w.fills

-- a reader that was polled with these fills
abbrev pub lock_watching : Reader → Option (List UnusableFill) → Reader
lock_watching rd fills = record { number = rd.number; watch = Some (record { fills = fills_of rd.watch fills; seen = 0; told = None }) }

-- the request after a wait with this result: while it waits it holds the read lock again; otherwise the wait is
-- counted
abbrev pub waited_on : Poll LockWaitOutcome → ℕ → Option Locked → Request → Request
waited_on answer now None x = x
waited_on answer now (Some (Write p)) x = x
waited_on answer now (Some (Read rd)) x = after_wait answer (since_of now rd.watch x.waits_since) now (lock_watching rd (unusable_in x.key)) x

abbrev pub waited_with : Poll LockWaitOutcome → ℕ → Request → Request
waited_with answer now x = waited_on answer now x.held x
