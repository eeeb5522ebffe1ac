use Rattle.pcache_meta.specs.Meta.{expired_at}
use Rattle.pcache_store.proofs.Words.{sym, subst, IsCounted}
use Rattle.pcache_store.proofs.Counts.{counted_changed}
use Rattle.pcache_store.proofs.Writes.{on_both}
use Rattle.pcache_store.proofs.memory.slots.Slots.expire.Goals as goal

pub invariant_of-self : goal.invariant_of-self
invariant_of-self c =
    on_both c.expire.result (λ e. subst (λ m. IsCounted m c.self.inside.bodies c.self.inside.stored) (sym e) (counted_changed c.self.inside.slots c.self.inside.bodies c.self.inside.stored c.self.invariant c.args.key (expired_at c.args.now)))
    (λ e. subst (λ m. IsCounted m c.self.inside.bodies c.self.inside.stored) (sym e) c.self.invariant) c.expire.ensures.slots c.expire.ensures.err
