use Rattle.pcache_policies.proofs.Words.{◌∙◌, sym, subst, ap, rest_of, IsRing}
use Rattle.pcache_policies.proofs.Rings.{ring-rest}
use Rattle.pcache_policies.proofs.ring.Ring.remove.Goals as goal

pub invariant_of-self : goal.invariant_of-self
invariant_of-self g c =
    subst (λ a. IsRing a c.remove-2.new.self c.remove-3.new.self) (sym c.remove.ensures.value)
    (subst (λ g. IsRing (rest_of c.args.item.now c.self.inside.ahead) g c.remove-3.new.self) (sym c.remove-2.ensures.value)
    (subst (λ p. IsRing (rest_of c.args.item.now c.self.inside.ahead) (rest_of c.args.item.now c.self.inside.leaving) p) (sym c.remove-3.ensures.value)
    (ring-rest c.args.item.now c.self.inside.ahead c.self.inside.leaving c.self.inside.passed c.self.invariant)))
