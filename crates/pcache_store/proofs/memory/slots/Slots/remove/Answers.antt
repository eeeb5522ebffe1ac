use Rattle.pcache_store.proofs.Words.{sym, subst, ap, ◌∙◌, ◌≡◌, ◌≤◌, ◌-◌, IsCounted, one, body_len, complete_body, share}
use Rattle.std.specs.FinMap as map
use Rattle.pcache_store.proofs.Counts.{counted_purged, counted_absent, has_body, has_bytes}
use Rattle.pcache_store.proofs.memory.slots.Slots.remove.Goals as goal

pub invariant_of-self : goal.invariant_of-self
invariant_of-self c =
    let none = rw c.in_default.is at c.remove.ensures.before in
    subst (λ m. IsCounted m c.self.inside.bodies c.self.inside.stored) (sym c.remove.ensures.removed)
    (counted_absent c.self.inside.slots c.self.inside.bodies c.self.inside.stored c.self.invariant c.args.key none)

pub overflow_sub-self : goal.overflow_sub-self
overflow_sub-self c =
    let is = rw c.in-Some.is at c.remove.ensures.before in
    let old : c.into_body.result ≡ complete_body (map.get c.self.inside.slots c.args.key) = c.into_body.ensures ∙ ap complete_body is in
    subst (λ n. n ≤ c.self.inside.bodies) (sym (c.count-fewer.ensures.bodies ∙ ap (share one) old)) (has_body c.self.inside.slots c.self.inside.bodies c.self.inside.stored c.self.invariant c.args.key)

pub overflow_sub-self-2 : goal.overflow_sub-self-2
overflow_sub-self-2 c =
    let is = rw c.in-Some.is at c.remove.ensures.before in
    let old : c.into_body.result ≡ complete_body (map.get c.self.inside.slots c.args.key) = c.into_body.ensures ∙ ap complete_body is in
    subst (λ n. n ≤ c.self.inside.stored) (sym (c.count-fewer.ensures.bytes ∙ ap (share body_len) old)) (has_bytes c.self.inside.slots c.self.inside.bodies c.self.inside.stored c.self.invariant c.args.key)

pub invariant_of-self-2 : goal.invariant_of-self-2
invariant_of-self-2 c =
    let is = rw c.in-Some.is at c.remove.ensures.before in
    let old : c.into_body.result ≡ complete_body (map.get c.self.inside.slots c.args.key) = c.into_body.ensures ∙ ap complete_body is in
    subst (λ m. IsCounted m (c.self.inside.bodies - c.count-fewer.result.0) (c.self.inside.stored - c.count-fewer.result.1)) (sym c.remove.ensures.removed)
    (counted_purged c.self.inside.slots c.self.inside.bodies c.self.inside.stored c.self.invariant c.args.key _ _ (c.count-fewer.ensures.bodies ∙ ap (share one) old) (c.count-fewer.ensures.bytes ∙ ap (share body_len) old))
