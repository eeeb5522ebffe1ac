use Rattle.pcache_store.proofs.Words.{sym, subst, ap, ◌∙◌, ◌≤◌, ◌-◌, ◌+◌, arith, IsCounted, one, body_len, share}
use Rattle.pcache_store.proofs.Counts.{counted_stored, has_body, has_bytes, few_bodies, few_bytes}
use Rattle.pcache_store.proofs.memory.slots.Slots.store.Goals as goal

pub overflow_sub-self : goal.overflow_sub-self
overflow_sub-self c = subst (λ n. n ≤ c.self.inside.bodies) (sym (c.count-fewer.ensures.bodies ∙ ap (share one) c.store.ensures.older)) (has_body c.self.inside.slots c.self.inside.bodies c.self.inside.stored c.self.invariant c.args.key)

pub overflow_add-self : goal.overflow_add-self
overflow_add-self c =
    let few = few_bodies c.self.inside.slots c.self.inside.bodies c.self.inside.stored c.self.invariant in
    let count = c.len-count.ensures.value in
    let small = c.len-count.ensures.small in
    omega arith

pub overflow_sub-self-2 : goal.overflow_sub-self-2
overflow_sub-self-2 c = subst (λ n. n ≤ c.self.inside.stored) (sym (c.count-fewer.ensures.bytes ∙ ap (share body_len) c.store.ensures.older)) (has_bytes c.self.inside.slots c.self.inside.bodies c.self.inside.stored c.self.invariant c.args.key)

pub overflow_add-self-2 : goal.overflow_add-self-2
overflow_add-self-2 c =
    let few = few_bytes c.self.inside.slots c.self.inside.bodies c.self.inside.stored c.self.invariant in
    let count = c.len-count.ensures.value in
    let small = c.len-count.ensures.small in
    let size = c.len-size.ensures.small in
    omega arith

pub invariant_of-self : goal.invariant_of-self
invariant_of-self c =
    let there = rw (sym c.self.view_is) at c.requires in
    subst (λ m. IsCounted m (c.self.inside.bodies - c.count-fewer.result.0 + 1) (c.self.inside.stored - c.count-fewer.result.1 + c.len-size.result)) (sym c.store.ensures.slots)
    (counted_stored c.self.inside.slots c.self.inside.bodies c.self.inside.stored c.self.invariant c.args.key c.args.number c.args.body _ _ _ there (c.count-fewer.ensures.bodies ∙ ap (share one) c.store.ensures.older) (c.count-fewer.ensures.bytes ∙ ap (share body_len) c.store.ensures.older) c.len-size.ensures.value c.len-size.ensures.small)
