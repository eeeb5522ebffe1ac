-- Calls that are made again while there is nothing yet, each said by itself: of the last one alone the others, which count as
-- waiting, would be left out (own).
use Rattle.std.specs.Prelude.{◌≡◌, ◌⊎◌, ◌<◌, ℕ, zero, suc, List, Ok, Option, Result}
use Rattle.pcache_base.specs.declared.error.ErrorType.{ErrorType}
use Rattle.pcache_base.specs.declared.poll.Poll.{Poll}
use Rattle.pcache_base.specs.declared.poll.Poll.TheVariants.{Pending}
use Rattle.pcache_cache.specs.Locking.{Waits}
use Rattle.pcache_cache.specs.Parts.{Parts}
use Rattle.pcache_lock.specs.declared.lock.outcome.LockWaitOutcome.{LockWaitOutcome}
use Rattle.pcache_request.specs.Looking.{Reads}
use Rattle.pcache_shared_cache.specs.Seen.{Goes, Sees}
use Rattle.pcache_shared_cache.specs.Shared.{Seated}

-- what a call makes of a request, with this result
abbrev pub CallOf : Type 0 → Type 1
CallOf A = Seated → Seated → Result (Poll A) ErrorType → Type 0

-- the call was made so many times, from r to s, and each time there was nothing yet
abbrev pub asked : {A : Type 0} → CallOf A → ℕ → Seated → Seated → Type 0
asked {A} call zero r s = s ≡ r
asked {A} call (suc n) r s = (m : Seated) × asked call n r m × call m s (Ok Pending)

-- The call was made up to so many times, from r to s, and this is its last result: there was nothing yet each time, or there was
-- something, or it failed, before all turns were over.
abbrev pub InTurns : {A : Type 0} → CallOf A → ℕ → Seated → Seated → Result (Poll A) ErrorType → Type 0
InTurns {A} call turns r s result =
    (n : ℕ) × (m : Seated) × asked call n r m × (((n ≡ turns) × (s ≡ m) × (result ≡ Ok Pending)) ⊎ ((n < turns) × call m s result × ((result ≡ Ok Pending) → ⊥)))

-- a read, of a cache whose parts began so
abbrev pub ReadsBody : List Parts → (ℕ → Option ℕ) → CallOf (Option (List ℕ))
ReadsBody firsts names r s result = Sees firsts names r.place r.seen s.seen (λ p. Reads result r.cache s.cache p.store) × (s.place ≡ r.place) × (s.fetch ≡ r.fetch)

-- a question whether a wait is over
abbrev pub AsksOfWait : List Parts → (ℕ → Option ℕ) → ℕ → CallOf LockWaitOutcome
AsksOfWait firsts names now r s result = Goes firsts names r.place r.seen s.seen (Waits result now r.cache s.cache) × (s.place ≡ r.place) × (s.fetch ≡ r.fetch)
