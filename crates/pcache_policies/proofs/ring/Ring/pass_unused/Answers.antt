use Rattle.pcache_policies.proofs.Words.{◌≡◌, ◌∷◌, ◌∙◌, Some, refl, sym, subst, ap, last_entry, unused, IsRing}
use Rattle.pcache_policies.proofs.Rings.{absent_last_passed, popped_last, moved-passed}
use Rattle.pcache_policies.proofs.ring.Ring.pass_unused.Goals as goal

pub push-requires : goal.push-requires
push-requires g c = absent_last_passed c.self.inside.ahead c.self.inside.leaving c.self.inside.passed (c.args.key, c.args.seen) c.self.invariant (subst (λ r. last_entry r.ahead ≡ Some (c.args.key, c.args.seen)) (sym c.self.view_is) c.requires)

pub invariant_of-self-2 : goal.invariant_of-self-2
invariant_of-self-2 g c =
    subst (λ p. IsRing c.drop_oldest.new.self c.self.inside.leaving p) (sym (c.in_ok-push.ensures.ok ∙ ap (λ v. (c.args.key, v) ∷ c.self.inside.passed) c.unused.ensures))
    (moved-passed c.self.inside.ahead c.drop_oldest.new.self c.self.inside.leaving c.self.inside.passed (c.args.key, c.args.seen) (unused c.args.seen.weight) c.self.invariant
    (popped_last c.self.inside.ahead c.drop_oldest.new.self (c.args.key, c.args.seen) (subst (λ r. last_entry r.ahead ≡ Some (c.args.key, c.args.seen)) (sym c.self.view_is) c.requires) c.drop_oldest.ensures) refl).ring

pub returns-clause-ahead : goal.returns-clause-ahead
returns-clause-ahead g c =
    sym (ap (λ r. r.ahead) c.self.view_is)
    ∙ popped_last c.self.inside.ahead c.drop_oldest.new.self (c.args.key, c.args.seen) (subst (λ r. last_entry r.ahead ≡ Some (c.args.key, c.args.seen)) (sym c.self.view_is) c.requires) c.drop_oldest.ensures

pub returns-clause-others : goal.returns-clause-others
returns-clause-others g c =
    (ap (λ r. r.leaving) c.self.view_is, c.in_ok-push.ensures.ok ∙ ap (λ v. (c.args.key, v) ∷ c.self.inside.passed) c.unused.ensures ∙ ap (λ r. (c.args.key, unused c.args.seen.weight) ∷ r.passed) c.self.view_is)
