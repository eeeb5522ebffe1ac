use Rattle.std.proofs.Common.{◌≡◌, sym, subst, ◌+◌, ◌-◌, ◌<◌, arith}
use Rattle.pcache_store.specs.Drafts.{AreBefore}
use Rattle.pcache_store.proofs.Writes.{before_taken_back}
use Rattle.tests_of_stores.proofs.plain_store.numbered.PlainWrites.take_back.Goals as goal

pub invariant_of-self : goal.invariant_of-self
invariant_of-self c =
    let some : 0 < c.self.inside.next = subst (λ a. 0 < a.next) (sym c.self.view_is) c.requires in
    let is : c.self.inside.next ≡ c.self.inside.next - 1 + 1 = omega (arith, some) in
    subst (λ m. AreBefore m (c.self.inside.next - 1)) (sym c.remove.ensures.removed)
    (before_taken_back c.self.inside.writes (c.self.inside.next - 1) (subst (AreBefore c.self.inside.writes) is c.self.invariant))
