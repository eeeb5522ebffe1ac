use Rattle.pcache_policies.proofs.Words.{◌∙◌, sym, subst, ap, reseen, IsRing}
use Rattle.pcache_policies.proofs.Rings.{ring-reseen}
use Rattle.pcache_policies.proofs.ring.Ring.set.Goals as goal

pub invariant_of-self : goal.invariant_of-self
invariant_of-self g c =
    subst (λ a. IsRing a c.set-2.new.self c.set-3.new.self) (sym c.set.ensures.value)
    (subst (λ g. IsRing (reseen c.args.item.now c.args.seen c.self.inside.ahead) g c.set-3.new.self) (sym c.set-2.ensures.value)
    (subst (λ p. IsRing (reseen c.args.item.now c.args.seen c.self.inside.ahead) (reseen c.args.item.now c.args.seen c.self.inside.leaving) p) (sym c.set-3.ensures.value)
    (ring-reseen c.args.item.now c.args.seen c.self.inside.ahead c.self.inside.leaving c.self.inside.passed c.self.invariant)))
