use Rattle.pcache_policies.proofs.Words.{◌≡◌, ◌∷◌, ◌∙◌, ◌++◌, ◌<◌, ◌-◌, ◌^◌, None, sym, subst, ap, arith, length, seen_of, IsRing, all}
use Rattle.pcache_policies.proofs.Rings.{not-full, absent_passed_in, ring-entered-passed}
use Rattle.pcache_policies.proofs.ring.Ring.add_passed.Goals as goal

pub push-requires : goal.push-requires
push-requires g c = absent_passed_in c.self.inside.ahead c.self.inside.leaving c.self.inside.passed c.args.item (ap (λ r. seen_of c.args.item (all r)) c.self.view_is ∙ c.requires)

pub invariant_of-self-2 : goal.invariant_of-self-2
invariant_of-self-2 g c =
    subst (λ p. IsRing c.self.inside.ahead c.self.inside.leaving p) (sym c.in_ok-push.ensures.ok)
    (ring-entered-passed c.self.inside.ahead c.self.inside.leaving c.self.inside.passed c.args.item c.unused.result c.self.invariant
    (ap (λ r. seen_of c.args.item (all r)) c.self.view_is ∙ c.requires)
    (let same = ap (λ r. length (all r)) c.self.view_is in let long = c.len.ensures.value in let few = not-full c.is_full.result c.len.result c.is_full.ensures c.if-is_full.false in omega arith))
