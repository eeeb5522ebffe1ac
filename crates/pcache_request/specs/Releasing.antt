-- Why a request gives up its lock, and with which status; turning caching off (own, after pingora-cache).
use Rattle.std.specs.Prelude.{ℕ, false, Option, Some, None, List}
use Rattle.pcache_base.specs.declared.reason.NoCacheReason.{NoCacheReason}
use Rattle.pcache_base.specs.declared.reason.NoCacheReason.TheVariants as reason
use Rattle.pcache_lock.specs.declared.lock.permit.Locked.{Locked}
use Rattle.pcache_lock.specs.declared.lock.permit.Locked.TheVariants.{Write, Read}
use Rattle.pcache_lock.specs.declared.lock.status.LockStatus.{LockStatus}
use Rattle.pcache_lock.specs.declared.lock.status.LockStatus.TheVariants.{TransientError, GiveUp}
use Rattle.pcache_request.specs.declared.phase.CachePhase.{CachePhase}
use Rattle.pcache_request.specs.declared.phase.CachePhase.TheVariants as phase
use Rattle.pcache_request.specs.declared.phase.InUse.{InUse}
use Rattle.pcache_request.specs.Requests.{Request}

-- a permit may be released for this reason: its holder can have it
abbrev pub IsHoldersReason : NoCacheReason → Type 0
IsHoldersReason reason.NeverEnabled = ⊥
IsHoldersReason reason.OriginNotCache = Unit {0}
IsHoldersReason reason.ResponseTooLarge = Unit {0}
IsHoldersReason reason.PredictedResponseTooLarge = Unit {0}
IsHoldersReason reason.StorageError = Unit {0}
IsHoldersReason reason.InternalError = Unit {0}
IsHoldersReason reason.Deferred = Unit {0}
IsHoldersReason reason.DeclinedToUpstream = Unit {0}
IsHoldersReason reason.UpstreamError = Unit {0}
IsHoldersReason reason.CacheLockGiveUp = ⊥
IsHoldersReason reason.CacheLockTimeout = ⊥
IsHoldersReason reason.CacheLockRetryLimit = ⊥
IsHoldersReason (reason.Custom text) = Unit {0}

-- the held lock may be given up for this reason: only a permit requires one that its holder can have
abbrev pub MayRelease : NoCacheReason → Option Locked → Type 0
MayRelease why None = Unit {0}
MayRelease why (Some (Write p)) = IsHoldersReason why
MayRelease why (Some (Read r)) = Unit {0}

-- the status for a reason: another request may try, or no request needs the lock any more; a caller's own reason has a
-- status of its own. No permit is released for the reasons that its holder cannot have
abbrev pub status_for : (List ℕ → LockStatus) → NoCacheReason → LockStatus
status_for custom reason.NeverEnabled = GiveUp
status_for custom reason.OriginNotCache = GiveUp
status_for custom reason.ResponseTooLarge = GiveUp
status_for custom reason.PredictedResponseTooLarge = GiveUp
status_for custom reason.StorageError = TransientError
status_for custom reason.InternalError = TransientError
status_for custom reason.Deferred = TransientError
status_for custom reason.DeclinedToUpstream = TransientError
status_for custom reason.UpstreamError = TransientError
status_for custom reason.CacheLockGiveUp = GiveUp
status_for custom reason.CacheLockTimeout = GiveUp
status_for custom reason.CacheLockRetryLimit = GiveUp
status_for custom (reason.Custom text) = custom text.now

-- caching may be turned off for any reason except that it was never turned on
abbrev pub IsDisableReason : NoCacheReason → Type 0
IsDisableReason reason.NeverEnabled = ⊥
IsDisableReason _ = Unit {0}

-- caching may be turned off for this reason: a held permit can be released for it
abbrev pub MayDisable : NoCacheReason → Request → Type 0
MayDisable why r = IsDisableReason why × MayRelease why r.held

-- a request for which caching is turned off: the key and the use of the predictor are kept; if caching was never turned
-- on, the request is unchanged
abbrev pub without_parts : InUse → InUse
without_parts uses = record { eviction = false; predictor = uses.predictor; lock = false }

-- caching is turned off for this reason, and the request has neither a lock, a reader, a write nor a meta any more
abbrev pub switched_off : NoCacheReason → Request → Request
switched_off why r = record r {
  phase = phase.Disabled why;
  uses = without_parts r.uses;
  meta = None;
  held = None;
  reader = None;
  write = None;
  entry = None;
}

-- the request after caching was turned off, by its phase
abbrev pub disabled_in : CachePhase → NoCacheReason → Request → Request
disabled_in (phase.Disabled reason.NeverEnabled) why r = r
disabled_in _ why r = switched_off why r

-- the request after caching was turned off
abbrev pub disabled_for : NoCacheReason → Request → Request
disabled_for why r = disabled_in r.phase why r

-- the cache is bypassed
abbrev pub bypassed : Request → Request
bypassed r = record r { phase = phase.Bypass }
