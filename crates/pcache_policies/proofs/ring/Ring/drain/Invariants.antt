use Rattle.std.specs.Vec.{vec_capacity}
use Rattle.pcache_policies.proofs.Words.{◌≡◌, ◌++◌, ◌+◌, ◌≤◌, length, chosen}
use Rattle.pcache_policies.proofs.ring.Ring.drain.Given as goal

abbrev pub invariant-loop-key : goal.invariant-loop-key
invariant-loop-key g l =
    record {
      order : l.out.items ++ chosen l.self ≡ l.fn.out.items ++ chosen l.fn.self;
      room : length l.out.items + length l.self.leaving ≤ vec_capacity l.out;
      ahead : l.self.ahead ≡ l.fn.self.ahead;
      passed : l.self.passed ≡ l.fn.self.passed;
      capacity : vec_capacity l.out ≡ vec_capacity l.fn.out;
    }

abbrev pub decreases-loop-key : goal.decreases-loop-key
decreases-loop-key g l = length l.self.leaving
