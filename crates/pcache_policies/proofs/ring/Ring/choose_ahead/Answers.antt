use Rattle.pcache_policies.proofs.Words.{◌≡◌, ◌∷◌, ◌∙◌, Some, ap, sym, subst, last_entry}
use Rattle.pcache_policies.proofs.Rings.{absent_last_leaving, popped_last}
use Rattle.pcache_policies.proofs.ring.Ring.choose_ahead.Goals as goal

pub push-requires : goal.push-requires
push-requires g c = absent_last_leaving c.self.inside.ahead c.self.inside.leaving c.self.inside.passed (c.args.key, c.args.seen) c.self.invariant (subst (λ r. last_entry r.ahead ≡ Some (c.args.key, c.args.seen)) (sym c.self.view_is) c.requires)

pub returns-clause-ahead : goal.returns-clause-ahead
returns-clause-ahead g c =
    sym (ap (λ r. r.ahead) c.self.view_is)
    ∙ popped_last c.self.inside.ahead c.drop_oldest.new.self (c.args.key, c.args.seen) (subst (λ r. last_entry r.ahead ≡ Some (c.args.key, c.args.seen)) (sym c.self.view_is) c.requires) c.drop_oldest.ensures

pub returns-clause-others : goal.returns-clause-others
returns-clause-others g c = (c.in_ok-push.ensures.ok ∙ ap (λ r. (c.args.key, c.args.seen) ∷ r.leaving) c.self.view_is, ap (λ r. r.passed) c.self.view_is)
