use Rattle.pcache_policies.specs.Ring.{shown}
use Rattle.pcache_policies.proofs.Words.{◌≡◌, length}
use Rattle.pcache_policies.proofs.ring.Ring.settle.Given as goal

abbrev pub invariant-loop : goal.invariant-loop
invariant-loop g l = shown l.self ≡ shown l.fn.self

abbrev pub decreases-loop : goal.decreases-loop
decreases-loop g l = length l.self.leaving
