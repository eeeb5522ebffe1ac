use Rattle.pcache_policies.proofs.Rings.{ring-popped}
use Rattle.pcache_policies.proofs.ring.Ring.pop_leaving.Goals as goal

pub invariant_of-self-2 : goal.invariant_of-self-2
invariant_of-self-2 g c = ring-popped c.self.inside.ahead c.self.inside.leaving c.self.inside.passed c.pop.new.self (c.in_ok-key.key, c.in_ok-key.field-0-1) c.self.invariant c.in_ok-key.ensures.last
