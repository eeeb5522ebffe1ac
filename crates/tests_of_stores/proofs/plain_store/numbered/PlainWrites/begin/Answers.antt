use Rattle.std.proofs.Common.{sym, subst, ◌+◌}
use Rattle.pcache_store.specs.Drafts.{AreBefore}
use Rattle.pcache_store.proofs.Writes.{before_begun}
use Rattle.tests_of_stores.proofs.plain_store.numbered.PlainWrites.begin.Goals as goal

pub invariant_of-self-2 : goal.invariant_of-self-2
invariant_of-self-2 c = subst (λ m. AreBefore m (c.self.inside.next + 1)) (sym c.in_ok-insert.ensures.ok) (before_begun c.self.inside.writes c.self.inside.next c.args.draft c.self.invariant)
