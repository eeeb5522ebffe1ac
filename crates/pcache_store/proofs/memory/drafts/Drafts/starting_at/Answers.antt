use Rattle.pcache_store.proofs.Words.{sym, subst, AreBefore}
use Rattle.pcache_store.proofs.Writes.{before_empty}
use Rattle.pcache_store.proofs.memory.drafts.Drafts.starting_at.Goals as goal

pub invariant_of-result : goal.invariant_of-result
invariant_of-result c = subst (λ m. AreBefore m c.args.next) (sym c.new.ensures) (before_empty c.args.next)
