use Rattle.pcache_policies.proofs.Words.{◌≡◌, [], ◌∙◌, sym, ap}
use Rattle.pcache_policies.proofs.Queues.{last_none}
use Rattle.pcache_policies.proofs.Rings.{absent_last_settled, none_of}
use Rattle.pcache_policies.proofs.ring.Ring.settle_one.Goals as goal

pub returns-in_default-clause-none : goal.returns-in_default-clause-none
returns-in_default-clause-none g c = λ over. sym (ap (λ r. r.leaving) c.self.view_is) ∙ last_none c.self.inside.leaving (none_of c.in_ok-key.field-0 _ c.in_ok-key.ensures.ok c.in_default.not-Some)

pub push-requires : goal.push-requires
push-requires g c = absent_last_settled c.self.inside.ahead c.self.inside.leaving c.self.inside.passed (c.in-Some.key, c.in-Some.seen) c.self.invariant (sym c.in_ok-key.ensures.ok ∙ c.in-Some.is)
