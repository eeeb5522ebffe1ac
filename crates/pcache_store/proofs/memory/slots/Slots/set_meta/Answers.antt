use Rattle.pcache_store.proofs.Words.{sym, subst, IsCounted}
use Rattle.pcache_store.proofs.Counts.{counted_changed}
use Rattle.pcache_store.proofs.memory.slots.Slots.set_meta.Goals as goal

pub invariant_of-self : goal.invariant_of-self
invariant_of-self c = subst (λ m. IsCounted m c.self.inside.bodies c.self.inside.stored) (sym c.set_meta.ensures.slots) (counted_changed c.self.inside.slots c.self.inside.bodies c.self.inside.stored c.self.invariant c.args.key (λ _. c.args.meta))
