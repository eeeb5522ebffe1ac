use Rattle.pcache_policies.proofs.Words.{◌≡◌, [], ◌∙◌, sym, ap}
use Rattle.pcache_policies.proofs.Queues.{last_none}
use Rattle.pcache_policies.proofs.Rings.{none_of}
use Rattle.pcache_policies.proofs.ring.Ring.step.Goals as goal

pub turn-requires : goal.turn-requires
turn-requires g c = sym (ap (λ r. r.ahead) c.self.view_is) ∙ last_none c.self.inside.ahead (none_of c.in_ok-key.field-0 _ c.in_ok-key.ensures.ok c.in_default.not-Some)
