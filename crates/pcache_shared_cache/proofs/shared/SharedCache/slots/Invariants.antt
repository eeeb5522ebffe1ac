use Rattle.pcache_shared_cache.proofs.Words.{slots}
use Rattle.pcache_shared_cache.proofs.Together.{Told}
use Rattle.pcache_shared_cache.proofs.shared.SharedCache.slots.Given as goal

abbrev pub invariant-loop-part : goal.invariant-loop-part
invariant-loop-part g l = Told l.part-items l.part-index (λ p. slots p.store) l.total
