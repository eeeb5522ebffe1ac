-- What a call that may fail in two ways left (own): each way says of all parts at once what became of them.
use Rattle.std.specs.Prelude.{◌≡◌, ◌⊎◌, Bool}
use Rattle.pcache_base.specs.declared.error.ErrorType.{ErrorType}
use Rattle.pcache_base.specs.declared.error.ErrorType.TheVariants.{OutOfMemory}
use Rattle.pcache_lock.specs.Locks.{Locks}
use Rattle.pcache_lock.specs.declared.lock.status.LockStatus.TheVariants.{Done}
use Rattle.pcache_store.specs.Refusals.{MayFailWrite}
use Rattle.pcache_store.specs.Store.{Store}
use Rattle.pcache_request.specs.LockPasts.{Deeds, settled_deeds}
use Rattle.pcache_request.specs.Requests.{Request, begun_for, begun_unfollowed, settled}
use Rattle.pcache_request.specs.StorePasts.{Past, begun_past, searched_past}
use Rattle.pcache_request.specs.Variants.{searched}

-- a look-up that failed: nothing was done, or a hidden pair was let go
abbrev pub FailsToLook : Store → Request → Past → Store → Past → Type 0
FailsToLook s r p s' p' = ((s' ≡ s) × (p' ≡ p)) ⊎ ((s' ≡ searched s r) × (p' ≡ searched_past s r p))

-- the begin of a write that fails with this error: nothing was done, or the write began, the permit was released, and no reader
-- follows the write
abbrev pub FailsToBegin : Bool → Store → Past → Locks → Deeds → Request → ErrorType → Store → Past → Locks → Deeds → Request → Type 0
FailsToBegin numbers s p t d r e s' p' t' d' r' =
    ((r' ≡ r) × (s' ≡ s) × (p' ≡ p) × (t' ≡ t) × (d' ≡ d) × MayFailWrite s e)
    ⊎ ((r' ≡ begun_unfollowed numbers s r) × (s' ≡ begun_for r.key r.meta s) × (p' ≡ begun_past s r p) × (t' ≡ settled Done r.held t) × (d' ≡ settled_deeds Done r.held d) × (e ≡ OutOfMemory))
