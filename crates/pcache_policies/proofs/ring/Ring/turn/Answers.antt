use Rattle.pcache_policies.proofs.Words.{◌≡◌, [], ◌∙◌, sym, subst, ap, IsRing}
use Rattle.pcache_policies.proofs.Rings.{moved-turned}
use Rattle.pcache_policies.proofs.ring.Ring.turn.Goals as goal

pub invariant_of-self : goal.invariant_of-self
invariant_of-self g c =
    let none : c.self.inside.ahead ≡ [] = ap (λ r. r.ahead) c.self.view_is ∙ c.requires in
    subst (λ a. IsRing a c.self.inside.leaving c.swap.new.y) (sym c.swap.ensures.x_after)
    (subst (λ p. IsRing c.self.inside.passed c.self.inside.leaving p) (sym (c.swap.ensures.y_after ∙ none))
    (moved-turned c.self.inside.ahead c.self.inside.leaving c.self.inside.passed c.self.invariant none).ring)
