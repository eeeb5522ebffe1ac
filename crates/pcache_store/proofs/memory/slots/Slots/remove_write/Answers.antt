use Rattle.pcache_store.proofs.Words.{sym, subst, ap, ◌∙◌, ◌≤◌, ◌-◌, share, IsCounted, one, body_len}
use Rattle.pcache_store.proofs.Counts.{counted_lost, less_bodies, less_bytes}
use Rattle.pcache_store.proofs.memory.slots.Slots.remove_write.Goals as goal

pub overflow_sub-self : goal.overflow_sub-self
overflow_sub-self c = subst (λ n. n ≤ c.self.inside.bodies) (sym (c.count-fewer.ensures.bodies ∙ ap (share one) c.remove_write-there.ensures.body)) (less_bodies c.self.inside.slots c.self.inside.bodies c.self.inside.stored c.self.invariant c.args.key c.args.id)

pub overflow_sub-self-2 : goal.overflow_sub-self-2
overflow_sub-self-2 c = subst (λ n. n ≤ c.self.inside.stored) (sym (c.count-fewer.ensures.bytes ∙ ap (share body_len) c.remove_write-there.ensures.body)) (less_bytes c.self.inside.slots c.self.inside.bodies c.self.inside.stored c.self.invariant c.args.key c.args.id)

pub invariant_of-self : goal.invariant_of-self
invariant_of-self c =
    subst (λ m. IsCounted m (c.self.inside.bodies - c.count-fewer.result.0) (c.self.inside.stored - c.count-fewer.result.1)) (sym c.remove_write-there.ensures.removed)
    (counted_lost c.self.inside.slots c.self.inside.bodies c.self.inside.stored c.self.invariant c.args.key c.args.id _ _ (c.count-fewer.ensures.bodies ∙ ap (share one) c.remove_write-there.ensures.body) (c.count-fewer.ensures.bytes ∙ ap (share body_len) c.remove_write-there.ensures.body))
