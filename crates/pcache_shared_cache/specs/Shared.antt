-- A cache in parts, and what is known of a part while a thread has it (own).
use Rattle.std.specs.Prelude.{◌≡◌, ℕ, List, Option, All, map}
use Rattle.pcache_cache.specs.Fetching.{FetchNote}
use Rattle.pcache_cache.specs.Parts.{Parts, IsKept}
use Rattle.pcache_evict.specs.Tracked.{Limits}
use Rattle.pcache_lock.specs.declared.lock.permit.WritePermit.{WritePermit}
use Rattle.pcache_request.specs.Requests.{Request}

-- a request of a cache in parts: itself, the place of its part, what it has seen of the part, and when its fetch began, if that was noted
pub record Seated : Type 0 where
  pub place : ℕ
  pub seen : List Parts
  pub cache : Request
  pub fetch : Option FetchNote

-- a permit of a cache in parts: itself, the place of its part, and what was seen of the part by the request that had it
pub record SeatedPermit : Type 0 where
  pub place : ℕ
  pub seen : List Parts
  pub permit : WritePermit

-- P holds of the state that a part with these limits has while a call has it, which has the invariant of caches
abbrev pub OfPart : Limits → (Parts → Type 0) → Type 0
OfPart limits P = (p : Parts) × (p.limits ≡ limits) × IsKept p.weighing p.limits p.tracked p.store × P p

-- the same, for the states of all parts, each while the call had it
abbrev pub InParts : List Limits → (List Parts → Type 0) → Type 0
InParts limits P = (ps : List Parts) × (map (λ (p : Parts). p.limits) ps ≡ limits) × All (λ (p : Parts). IsKept p.weighing p.limits p.tracked p.store) ps × P ps
