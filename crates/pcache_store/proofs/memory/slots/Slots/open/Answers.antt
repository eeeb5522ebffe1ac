use Rattle.pcache_store.proofs.Words.{sym, subst, IsCounted}
use Rattle.pcache_store.proofs.Counts.{counted_opened}
use Rattle.pcache_store.proofs.Writes.{on_both}
use Rattle.pcache_store.proofs.memory.slots.Slots.open.Goals as goal

pub invariant_of-self : goal.invariant_of-self
invariant_of-self c =
    on_both c.open.result (λ e. subst (λ m. IsCounted m c.self.inside.bodies c.self.inside.stored) (sym e) (counted_opened c.self.inside.slots c.self.inside.bodies c.self.inside.stored c.self.invariant c.args.key c.args.number))
    (λ e. subst (λ m. IsCounted m c.self.inside.bodies c.self.inside.stored) (sym e) (c.self.invariant)) c.open.ensures.ok c.open.ensures.err
