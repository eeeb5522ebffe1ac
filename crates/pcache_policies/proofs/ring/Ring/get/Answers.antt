use Rattle.pcache_policies.proofs.Words.{◌≡◌, ◌∙◌, ◌++◌, ap, sym, None, seen_of, all}
use Rattle.pcache_policies.proofs.Rings.{found_first, found_later, unfound}
use Rattle.pcache_policies.proofs.ring.Ring.get.Goals as goal

pub returns-in-Some-clause-value : goal.returns-in-Some-clause-value
returns-in-Some-clause-value g c =
    found_first c.args.item.now c.self.inside.ahead (c.self.inside.leaving ++ c.self.inside.passed) c.in-Some.seen c.in-Some.ensures.value
    ∙ ap (λ r. seen_of c.args.item.now (all r)) c.self.view_is

pub returns-in-Some-get-clause-value : goal.returns-in-Some-get-clause-value
returns-in-Some-get-clause-value g c =
    let none : None ≡ seen_of c.args.item.now c.self.inside.ahead = unfound c.get.result _ c.get.ensures.value c.in_default.not-Some in
    found_first c.args.item.now c.self.inside.leaving c.self.inside.passed c.in-Some-get.seen c.in-Some-get.ensures.value
    ∙ found_later c.args.item.now c.self.inside.ahead (c.self.inside.leaving ++ c.self.inside.passed) none
    ∙ ap (λ r. seen_of c.args.item.now (all r)) c.self.view_is

pub returns-clause-value : goal.returns-clause-value
returns-clause-value g c =
    let none : None ≡ seen_of c.args.item.now c.self.inside.ahead = unfound c.get.result _ c.get.ensures.value c.in_default.not-Some in
    let neither : None ≡ seen_of c.args.item.now c.self.inside.leaving = unfound c.get-2.result _ c.get-2.ensures.value c.in_default-get.not-Some in
    c.get-3.ensures.value
    ∙ found_later c.args.item.now c.self.inside.leaving c.self.inside.passed neither
    ∙ found_later c.args.item.now c.self.inside.ahead (c.self.inside.leaving ++ c.self.inside.passed) none
    ∙ ap (λ r. seen_of c.args.item.now (all r)) c.self.view_is
