use Rattle.pcache_store.proofs.Words.{sym, subst, next_number, AreBefore}
use Rattle.pcache_store.proofs.Writes.{before_wrote, on_both}
use Rattle.pcache_store.proofs.memory.drafts.Drafts.write.Goals as goal

pub invariant_of-self : goal.invariant_of-self
invariant_of-self c = on_both c.write.result (λ e. subst (λ m. AreBefore m (next_number c.self.inside.next)) (sym e) (before_wrote c.self.inside.writes (next_number c.self.inside.next) c.args.number c.self.invariant c.args.bytes c.args.eof)) (λ e. subst (λ m. AreBefore m (next_number c.self.inside.next)) (sym e) c.self.invariant) c.write.ensures.ok c.write.ensures.err
