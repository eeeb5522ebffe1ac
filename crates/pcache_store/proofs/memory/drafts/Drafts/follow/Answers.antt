use Rattle.pcache_store.proofs.Words.{sym, subst, next_number, AreBefore}
use Rattle.pcache_store.proofs.Writes.{before_joined, on_both}
use Rattle.pcache_store.proofs.memory.drafts.Drafts.follow.Goals as goal

pub invariant_of-self : goal.invariant_of-self
invariant_of-self c = on_both c.follow.result (λ e. subst (λ m. AreBefore m (next_number c.self.inside.next)) (sym e) (before_joined c.self.inside.writes (next_number c.self.inside.next) c.args.number c.self.invariant)) (λ e. subst (λ m. AreBefore m (next_number c.self.inside.next)) (sym e) c.self.invariant) c.follow.ensures.ok c.follow.ensures.err
