-- What a request does with a stale body (the phase table).
use Rattle.std.specs.Prelude.{Option, None, IsSome, option_map}
use Rattle.pcache_base.specs.declared.reason.NoCacheReason.{NoCacheReason}
use Rattle.pcache_meta.specs.Header.{Header}
use Rattle.pcache_meta.specs.Meta.{Meta}
use Rattle.pcache_request.specs.declared.phase.CachePhase.{CachePhase}
use Rattle.pcache_request.specs.declared.phase.CachePhase.TheVariants as phase
use Rattle.pcache_request.specs.Requests.{Request}

-- another request renews the body that is served
abbrev pub updating : Request → Request
updating r = record r { phase = phase.StaleUpdating }

-- a stale body was found, with its meta
abbrev pub IsStaleWith : CachePhase → Option Meta → Type 0
IsStaleWith phase.Stale m = IsSome m
IsStaleWith _ m = ⊥

abbrev pub MayRevalidate : Request → Type 0
MayRevalidate r = IsStaleWith r.phase r.meta

-- the body is valid, with this header, and the new response is not stored
abbrev pub with_header : Header → Meta → Meta
with_header h m = record m { header = h }

abbrev pub uncacheable : Header → NoCacheReason → Request → Request
uncacheable h why r = record r { phase = phase.RevalidatedNoCache why; meta = option_map (with_header h) r.meta; held = None }
