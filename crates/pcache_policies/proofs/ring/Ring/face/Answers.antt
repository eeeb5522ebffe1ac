use Rattle.pcache_policies.proofs.Words.{◌≡◌, [], ◌∙◌, ◌++◌, None, sym, subst, ap, arith, map_of, seen_of, plain, IsRing, all, ring}
use Rattle.pcache_policies.proofs.Rings.{moved-turned, none_long, absent_turned}
use Rattle.pcache_policies.proofs.ring.Ring.face.Goals as goal

pub invariant_of-self : goal.invariant_of-self
invariant_of-self g c =
    let none : c.self.inside.ahead ≡ [] = none_long c.self.inside.ahead (sym c.len.ensures.value ∙ c.if-len-eq0.true) in
    subst (λ a. IsRing a c.self.inside.leaving c.swap.new.y) (sym c.swap.ensures.x_after)
    (subst (λ p. IsRing c.self.inside.passed c.self.inside.leaving p) (sym (c.swap.ensures.y_after ∙ none))
    (moved-turned c.self.inside.ahead c.self.inside.leaving c.self.inside.passed c.self.invariant none).ring)

pub returns-then-len-eq0-clause-same : goal.returns-then-len-eq0-clause-same
returns-then-len-eq0-clause-same g c =
    let none : c.self.inside.ahead ≡ [] = none_long c.self.inside.ahead (sym c.len.ensures.value ∙ c.if-len-eq0.true) in
    ap (λ a. map_of (plain (a ++ (c.self.inside.leaving ++ c.swap.new.y)))) c.swap.ensures.x_after
    ∙ ap (λ p. map_of (plain (c.self.inside.passed ++ (c.self.inside.leaving ++ p)))) (c.swap.ensures.y_after ∙ none)
    ∙ (moved-turned c.self.inside.ahead c.self.inside.leaving c.self.inside.passed c.self.invariant none).same
    ∙ ap (λ r. map_of (plain (all r))) c.self.view_is

pub returns-then-len-eq0-clause-absent : goal.returns-then-len-eq0-clause-absent
returns-then-len-eq0-clause-absent g c = λ k h.
    let none : c.self.inside.ahead ≡ [] = none_long c.self.inside.ahead (sym c.len.ensures.value ∙ c.if-len-eq0.true) in
    ap (λ a. seen_of k (a ++ (c.self.inside.leaving ++ c.swap.new.y))) c.swap.ensures.x_after
    ∙ ap (λ p. seen_of k (c.self.inside.passed ++ (c.self.inside.leaving ++ p))) (c.swap.ensures.y_after ∙ none)
    ∙ absent_turned c.self.inside.ahead c.self.inside.leaving c.self.inside.passed k (ap (λ r. seen_of k (all r)) c.self.view_is ∙ h)
