use Rattle.std.proofs.Common.{sym, subst}
use Rattle.pcache_store.specs.Drafts.{AreBefore}
use Rattle.pcache_store.proofs.Writes.{before_closed}
use Rattle.tests_of_stores.proofs.plain_store.numbered.PlainWrites.close.Goals as goal

pub invariant_of-self : goal.invariant_of-self
invariant_of-self c = subst (λ m. AreBefore m c.self.inside.next) (sym c.close.ensures) (before_closed c.self.inside.writes c.self.inside.next c.args.number c.self.invariant)
