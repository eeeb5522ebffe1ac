use Rattle.pcache_store.proofs.Words.{sym, subst, is_ok, next_number, AreBefore}
use Rattle.pcache_store.proofs.Writes.{before_ended}
use Rattle.pcache_store.proofs.memory.drafts.Drafts.end.Goals as goal

pub invariant_of-self : goal.invariant_of-self
invariant_of-self c = subst (λ m. AreBefore m (next_number c.self.inside.next)) (sym c.end.ensures.gone) (before_ended c.self.inside.writes (next_number c.self.inside.next) c.args.number c.self.invariant (is_ok c.end.result))
