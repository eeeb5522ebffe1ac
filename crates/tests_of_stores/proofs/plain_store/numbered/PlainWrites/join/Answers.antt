use Rattle.std.proofs.Common.{sym, subst}
use Rattle.pcache_store.specs.Drafts.{AreBefore}
use Rattle.pcache_store.proofs.Writes.{before_joined, on_both}
use Rattle.tests_of_stores.proofs.plain_store.numbered.PlainWrites.join.Goals as goal

pub invariant_of-self : goal.invariant_of-self
invariant_of-self c = on_both c.join.result (λ e. subst (λ m. AreBefore m c.self.inside.next) (sym e) (before_joined c.self.inside.writes c.self.inside.next c.args.number c.self.invariant)) (λ e. subst (λ m. AreBefore m c.self.inside.next) (sym e) c.self.invariant) c.join.ensures.ok c.join.ensures.err
