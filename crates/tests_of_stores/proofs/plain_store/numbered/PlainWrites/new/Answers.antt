use Rattle.std.proofs.Common.{sym, subst}
use Rattle.pcache_store.specs.Drafts.{AreBefore}
use Rattle.pcache_store.proofs.Writes.{before_empty}
use Rattle.tests_of_stores.proofs.plain_store.numbered.PlainWrites.new.Goals as goal

pub invariant_of-result-2 : goal.invariant_of-result-2
invariant_of-result-2 c = subst (λ m. AreBefore m 0) (sym c.new.ensures) (before_empty 0)
