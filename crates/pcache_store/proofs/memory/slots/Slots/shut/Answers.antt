use Rattle.pcache_store.proofs.Words.{sym, subst, IsCounted}
use Rattle.pcache_store.proofs.Counts.{counted_shut}
use Rattle.pcache_store.proofs.memory.slots.Slots.shut.Goals as goal

pub invariant_of-self : goal.invariant_of-self
invariant_of-self c = subst (λ m. IsCounted m c.self.inside.bodies c.self.inside.stored) (sym c.shut.ensures) (counted_shut c.self.inside.slots c.self.inside.bodies c.self.inside.stored c.self.invariant c.args.key c.args.number)
