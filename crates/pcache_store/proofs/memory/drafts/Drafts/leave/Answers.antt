use Rattle.pcache_store.proofs.Words.{sym, subst, next_number, AreBefore}
use Rattle.pcache_store.proofs.Writes.{before_left}
use Rattle.pcache_store.proofs.memory.drafts.Drafts.leave.Goals as goal

pub invariant_of-self : goal.invariant_of-self
invariant_of-self c = subst (λ m. AreBefore m (next_number c.self.inside.next)) (sym c.leave.ensures) (before_left c.self.inside.writes (next_number c.self.inside.next) c.args.number c.self.invariant)
