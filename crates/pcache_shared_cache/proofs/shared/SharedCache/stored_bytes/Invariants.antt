use Rattle.pcache_shared_cache.proofs.Words.{stored_bytes}
use Rattle.pcache_shared_cache.proofs.Together.{Told}
use Rattle.pcache_shared_cache.proofs.shared.SharedCache.stored_bytes.Given as goal

abbrev pub invariant-loop-part : goal.invariant-loop-part
invariant-loop-part g l = Told l.part-items l.part-index (λ p. stored_bytes p.store) l.total
