-- A poll leaves a read lock its number.
use Rattle.std.proofs.Common.{◌≡◌, ℕ, List, Option, Some, None, refl}
use Rattle.pcache_base.specs.declared.fills.UnusableFill.{UnusableFill}
use Rattle.pcache_lock.specs.Permits.{Core, Reader, Watch}
use Rattle.pcache_lock.specs.Waiting.{watched, reader_at, reader_polled, permit_state, watch_at}
use Rattle.pcache_lock.specs.declared.lock.outcome.PermitState.{PermitState}
use Rattle.pcache_lock.specs.declared.lock.outcome.PermitState.TheVariants.{Over, Old, Held}

number-at : (s : PermitState) (r : Reader) (w : Watch) → (reader_at s r w).number ≡ r.number
number-at Over r w = refl
number-at Old r w = refl
number-at Held r w = refl

pub number_polled : (now : ℕ) (fills : Option (List UnusableFill)) (r : Reader) (c : Option Core) → (reader_polled now fills r c).number ≡ r.number
number_polled now fills r None = refl
number_polled now fills r (Some c) = number-at (permit_state now c) r (watched c (watch_at c fills r.watch))
