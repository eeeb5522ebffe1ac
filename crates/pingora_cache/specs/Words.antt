-- The definitions that a proxy's contracts use, handed on from one place. Declares nothing.
-- the phases of a request, and which calls may come in them
pub use Rattle.pcache_request.specs.declared.phase.CachePhase.{CachePhase}
pub use Rattle.pcache_request.specs.declared.phase.CachePhase.TheVariants.{CacheKey, Hit, Miss, Stale, StaleUpdating, Expired, Revalidated, RevalidatedNoCache}
pub use Rattle.pcache_request.specs.declared.phase.HitStatus.{HitStatus}
pub use Rattle.pcache_request.specs.Phases.{MayLookUp, MayMiss}
-- a request, when it may write, and the phase of one that takes what it found
pub use Rattle.pcache_request.specs.Requests.{MayWrite, Request, phase_found}
-- the permit that a request holds
pub use Rattle.pcache_request.specs.LockUse.{permit_in}
