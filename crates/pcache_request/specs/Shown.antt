-- What the getters of a request show, by its phase (the phase table).
use Rattle.std.specs.Prelude.{ℕ, Bool, true, false, Option, Some, None, cond, is_some}
use Rattle.pcache_base.specs.Key.{Key}
use Rattle.pcache_base.specs.declared.reason.NoCacheReason.TheVariants as reason
use Rattle.pcache_meta.specs.Meta.{Meta, MayServeStale}
use Rattle.pcache_request.specs.declared.phase.CachePhase.{CachePhase}
use Rattle.pcache_request.specs.declared.phase.CachePhase.TheVariants as phase
use Rattle.pcache_request.specs.Requests.{Request}

-- whether the cache is on, and not bypassed
abbrev pub is_enabled : CachePhase → Bool
is_enabled (phase.Disabled r) = false
is_enabled phase.Bypass = false
is_enabled _ = true

-- whether the cache is bypassed
abbrev pub is_bypassing : CachePhase → Bool
is_bypassing phase.Bypass = true
is_bypassing _ = false

-- whether the origin was asked
abbrev pub has_used_upstream : CachePhase → Bool
has_used_upstream (phase.Disabled r) = true
has_used_upstream phase.Uninit = false
has_used_upstream phase.Bypass = true
has_used_upstream phase.CacheKey = false
has_used_upstream phase.Hit = false
has_used_upstream phase.Miss = true
has_used_upstream phase.Stale = false
has_used_upstream phase.StaleUpdating = false
has_used_upstream phase.Expired = true
has_used_upstream phase.Revalidated = true
has_used_upstream (phase.RevalidatedNoCache r) = true

-- the key that is shown: none before it can be set
abbrev pub shown_key_in : CachePhase → Option Key → Option Key
shown_key_in (phase.Disabled reason.NeverEnabled) k = None
shown_key_in phase.Uninit k = None
shown_key_in _ k = k

-- the key that a request shows
abbrev pub shown_key : Request → Option Key
shown_key r = shown_key_in r.phase r.key

-- the meta that is shown: if a body was found or is to be stored
abbrev pub shown_meta_in : CachePhase → Option Meta → Option Meta
shown_meta_in phase.Hit m = m
shown_meta_in phase.Miss m = m
shown_meta_in phase.Stale m = m
shown_meta_in phase.StaleUpdating m = m
shown_meta_in phase.Expired m = m
shown_meta_in phase.Revalidated m = m
shown_meta_in (phase.RevalidatedNoCache r) m = m
shown_meta_in _ m = None

-- the meta that a request shows
abbrev pub shown_meta : Request → Option Meta
shown_meta r = shown_meta_in r.phase r.meta

-- the meta of the body that is read: in Miss only once a reader follows the write
abbrev pub read_meta_in : CachePhase → Bool → Option Meta → Option Meta
read_meta_in phase.Miss reads m = cond reads m None
read_meta_in p reads m = shown_meta_in p m

-- the meta of the body that a request reads
abbrev pub read_meta : Request → Option Meta
read_meta r = read_meta_in r.phase (is_some r.reader) r.meta

-- the meta of a stale body
abbrev pub stale_meta_in : CachePhase → Option Meta → Option Meta
stale_meta_in phase.Stale m = m
stale_meta_in phase.StaleUpdating m = m
stale_meta_in _ m = None

-- the meta of a stale body, of a request
abbrev pub stale_meta : Request → Option Meta
stale_meta r = stale_meta_in r.phase r.meta

-- a stale body may be served now: after an error, or while it is updated
abbrev pub ServesAfterError : ℕ → Option Meta → Type 0
ServesAfterError now None = ⊥
ServesAfterError now (Some m) = MayServeStale m.fresh_until m.stale_if_error_sec now

-- the same while it is updated
abbrev pub ServesWhileUpdating : ℕ → Option Meta → Type 0
ServesWhileUpdating now None = ⊥
ServesWhileUpdating now (Some m) = MayServeStale m.fresh_until m.stale_while_revalidate_sec now
