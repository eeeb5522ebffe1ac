use Rattle.pcache_store.proofs.Words.{sym, subst, IsCounted}
use Rattle.pcache_store.proofs.Counts.{counted_empty}
use Rattle.pcache_store.proofs.memory.slots.Slots.new.Goals as goal

pub invariant_of-result : goal.invariant_of-result
invariant_of-result c = subst (λ m. IsCounted m 0 0) (sym c.new.ensures) counted_empty
