use Rattle.pcache_policies.proofs.Words.{◌∙◌, sym, subst, ap, IsSome, seen_of, IsRing}
use Rattle.pcache_policies.proofs.Renewed.{ring-renewed}
use Rattle.pcache_policies.proofs.ring.Ring.renew_ahead.Goals as goal

pub requeue-requires : goal.requeue-requires
requeue-requires g c = subst (λ r. IsSome (seen_of c.args.item.now r.ahead)) (sym c.self.view_is) c.requires

pub invariant_of-self : goal.invariant_of-self
invariant_of-self g c =
    subst (λ a. IsRing a c.self.inside.leaving c.self.inside.passed) (sym c.requeue.ensures)
    (ring-renewed c.args.item.now c.args.seen c.self.inside.ahead c.self.inside.leaving c.self.inside.passed c.self.invariant (subst (λ r. IsSome (seen_of c.args.item.now r.ahead)) (sym c.self.view_is) c.requires))
