-- The phases in which each call may be made, and their words (the phase table; words are those of pingora-cache).
use Rattle.std.specs.Prelude.{ℕ, List, Bool, true, false, codes}
use Rattle.pcache_base.specs.declared.reason.NoCacheReason.TheVariants as reason
use Rattle.pcache_request.specs.declared.phase.CachePhase.{CachePhase}
use Rattle.pcache_request.specs.declared.phase.CachePhase.TheVariants as phase
use Rattle.pcache_request.specs.declared.phase.HitStatus.{HitStatus}
use Rattle.pcache_request.specs.declared.phase.HitStatus.TheVariants as status

-- the word of a phase
abbrev pub word_of : CachePhase → List ℕ
word_of (phase.Disabled r) = codes "disabled"
word_of phase.Uninit = codes "uninitialized"
word_of phase.Bypass = codes "bypass"
word_of phase.CacheKey = codes "key"
word_of phase.Hit = codes "hit"
word_of phase.Miss = codes "miss"
word_of phase.Stale = codes "stale"
word_of phase.StaleUpdating = codes "stale-updating"
word_of phase.Expired = codes "expired"
word_of phase.Revalidated = codes "revalidated"
word_of (phase.RevalidatedNoCache r) = codes "revalidated-nocache"

-- caching may be turned on
abbrev pub IsDisabled : CachePhase → Type 0
IsDisabled (phase.Disabled r) = Unit {0}
IsDisabled _ = ⊥

-- caching is on
abbrev pub is_on : CachePhase → Bool
is_on (phase.Disabled r) = false
is_on _ = true

-- the same as a statement
abbrev pub IsOn : CachePhase → Type 0
IsOn (phase.Disabled r) = ⊥
IsOn _ = Unit {0}

-- caching was turned on once
abbrev pub WasEnabled : CachePhase → Type 0
WasEnabled (phase.Disabled reason.NeverEnabled) = ⊥
WasEnabled _ = Unit {0}

-- the key is set, and nothing was looked up
abbrev pub is_key_phase : CachePhase → Bool
is_key_phase phase.CacheKey = true
is_key_phase _ = false

-- a key may be set
abbrev pub MayTakeKey : CachePhase → Type 0
MayTakeKey phase.Uninit = Unit {0}
MayTakeKey phase.CacheKey = Unit {0}
MayTakeKey _ = ⊥

-- the cache may be bypassed
abbrev pub MayBypass : CachePhase → Type 0
MayBypass phase.CacheKey = Unit {0}
MayBypass _ = ⊥

-- the key may be looked up, and a found pair taken
abbrev pub MayLookUp : CachePhase → Type 0
MayLookUp phase.CacheKey = Unit {0}
MayLookUp phase.Stale = Unit {0}
MayLookUp _ = ⊥

-- the request may go on as a miss
abbrev pub MayMiss : CachePhase → Type 0
MayMiss phase.CacheKey = Unit {0}
MayMiss phase.Bypass = Unit {0}
MayMiss phase.Stale = Unit {0}
MayMiss _ = ⊥

-- a write may be made
abbrev pub IsFilling : CachePhase → Type 0
IsFilling phase.Miss = Unit {0}
IsFilling phase.Expired = Unit {0}
IsFilling _ = ⊥

-- the same as a test
abbrev pub is_filling : CachePhase → Bool
is_filling phase.Miss = true
is_filling phase.Expired = true
is_filling _ = false

-- the body that was found may be read
abbrev pub IsReading : CachePhase → Type 0
IsReading phase.Hit = Unit {0}
IsReading phase.Stale = Unit {0}
IsReading phase.StaleUpdating = Unit {0}
IsReading phase.Revalidated = Unit {0}
IsReading (phase.RevalidatedNoCache r) = Unit {0}
IsReading _ = ⊥

-- a reader may be ended
abbrev pub MayFinishHit : CachePhase → Type 0
MayFinishHit phase.Hit = Unit {0}
MayFinishHit phase.Miss = Unit {0}
MayFinishHit phase.Stale = Unit {0}
MayFinishHit phase.StaleUpdating = Unit {0}
MayFinishHit phase.Expired = Unit {0}
MayFinishHit phase.Revalidated = Unit {0}
MayFinishHit (phase.RevalidatedNoCache r) = Unit {0}
MayFinishHit _ = ⊥

-- a stale body was found
abbrev pub IsStale : CachePhase → Type 0
IsStale phase.Stale = Unit {0}
IsStale _ = ⊥

-- the same as a test
abbrev pub is_stale_phase : CachePhase → Bool
is_stale_phase phase.Stale = true
is_stale_phase _ = false

-- a new body is fetched to replace a stale one
abbrev pub is_expired_phase : CachePhase → Bool
is_expired_phase phase.Expired = true
is_expired_phase _ = false

-- the key may be purged, and what is stored for it expired
abbrev pub MayPurge : CachePhase → Type 0
MayPurge phase.CacheKey = Unit {0}
MayPurge _ = ⊥

-- the key may be purged independently of what the request does
abbrev pub MaySpawnPurge : CachePhase → Type 0
MaySpawnPurge (phase.Disabled r) = ⊥
MaySpawnPurge phase.Uninit = ⊥
MaySpawnPurge _ = Unit {0}

-- the word of a hit's status
abbrev pub status_word : HitStatus → List ℕ
status_word status.Expired = codes "expired"
status_word status.ForceExpired = codes "force_expired"
status_word status.ForceExpiredServeStale = codes "force_expired_serve_stale"
status_word status.ForceMiss = codes "force_miss"
status_word status.FailedHitFilter = codes "failed_hit_filter"
status_word status.Fresh = codes "fresh"
status_word status.ForceFresh = codes "force_fresh"

-- the body is served as it is
abbrev pub is_fresh : HitStatus → Bool
is_fresh status.Fresh = true
is_fresh status.ForceFresh = true
is_fresh _ = false

-- the body is treated as if nothing was found
abbrev pub is_treated_as_miss : HitStatus → Bool
is_treated_as_miss status.ForceMiss = true
is_treated_as_miss status.FailedHitFilter = true
is_treated_as_miss _ = false

-- the body is neither served as it is nor treated as a miss
abbrev pub is_stale : HitStatus → Bool
is_stale status.Expired = true
is_stale status.ForceExpired = true
is_stale status.ForceExpiredServeStale = true
is_stale _ = false
