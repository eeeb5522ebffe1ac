use Rattle.pcache_policies.proofs.Words.{◌≡◌, ◌∷◌, ◌∙◌, Some, ap, sym, subst, last_entry, IsRing}
use Rattle.pcache_policies.proofs.Rings.{absent_last_chosen, popped_last, ring-chosen}
use Rattle.pcache_policies.proofs.ring.Ring.choose_passed.Goals as goal

pub push-requires : goal.push-requires
push-requires g c = absent_last_chosen c.self.inside.ahead c.self.inside.leaving c.self.inside.passed (c.args.key, c.args.seen) c.self.invariant (subst (λ r. last_entry r.passed ≡ Some (c.args.key, c.args.seen)) (sym c.self.view_is) c.requires)

pub invariant_of-self-2 : goal.invariant_of-self-2
invariant_of-self-2 g c =
    subst (λ g. IsRing c.self.inside.ahead g c.drop_oldest.new.self) (sym c.in_ok-push.ensures.ok)
    (ring-chosen c.self.inside.ahead c.self.inside.leaving c.self.inside.passed c.drop_oldest.new.self (c.args.key, c.args.seen) c.self.invariant
    (popped_last c.self.inside.passed c.drop_oldest.new.self (c.args.key, c.args.seen) (subst (λ r. last_entry r.passed ≡ Some (c.args.key, c.args.seen)) (sym c.self.view_is) c.requires) c.drop_oldest.ensures))

pub returns-clause-passed : goal.returns-clause-passed
returns-clause-passed g c =
    sym (ap (λ r. r.passed) c.self.view_is)
    ∙ popped_last c.self.inside.passed c.drop_oldest.new.self (c.args.key, c.args.seen) (subst (λ r. last_entry r.passed ≡ Some (c.args.key, c.args.seen)) (sym c.self.view_is) c.requires) c.drop_oldest.ensures

pub returns-clause-others : goal.returns-clause-others
returns-clause-others g c = (c.in_ok-push.ensures.ok ∙ ap (λ r. (c.args.key, c.args.seen) ∷ r.leaving) c.self.view_is, ap (λ r. r.ahead) c.self.view_is)
