use Rattle.pcache_policies.proofs.Words.{◌≡◌, ◌∷◌, ◌∙◌, Some, is_some, ap, sym, subst, last_entry, IsRing}
use Rattle.pcache_policies.proofs.Rings.{Again, again-of, ring-again}
use Rattle.pcache_policies.proofs.ring.Ring.pass_again.Goals as goal

pub requeue-requires : goal.requeue-requires
requeue-requires g c = ap is_some (again-of c.self.inside.ahead c.self.inside.leaving c.self.inside.passed (c.args.key.now, c.args.before) c.self.invariant (subst (λ r. last_entry r.passed ≡ Some (c.args.key.now, c.args.before)) (sym c.self.view_is) c.requires.last)).there

pub invariant_of-self : goal.invariant_of-self
invariant_of-self g c =
    let a = again-of c.self.inside.ahead c.self.inside.leaving c.self.inside.passed (c.args.key.now, c.args.before) c.self.invariant (subst (λ r. last_entry r.passed ≡ Some (c.args.key.now, c.args.before)) (sym c.self.view_is) c.requires.last) in
    subst (λ p. IsRing c.self.inside.ahead c.self.inside.leaving p) (sym (c.requeue.ensures ∙ ap (λ q. (c.args.key.now, c.args.after) ∷ q) a.others))
    (ring-again c.self.inside.ahead c.self.inside.leaving c.self.inside.passed a.rest (c.args.key.now, c.args.before) c.args.after c.self.invariant a.split c.requires.weight)

pub returns-clause-passed : goal.returns-clause-passed
returns-clause-passed g c =
    let a = again-of c.self.inside.ahead c.self.inside.leaving c.self.inside.passed (c.args.key.now, c.args.before) c.self.invariant (subst (λ r. last_entry r.passed ≡ Some (c.args.key.now, c.args.before)) (sym c.self.view_is) c.requires.last) in
    (a.rest, sym (ap (λ r. r.passed) c.self.view_is) ∙ a.split, c.requeue.ensures ∙ ap (λ q. (c.args.key.now, c.args.after) ∷ q) a.others)
