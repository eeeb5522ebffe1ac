use Rattle.pcache_policies.proofs.Words.{◌≤◌, ◌*◌, ◌-◌, ◌^◌, length, subst}
use Rattle.pcache_policies.proofs.Queues.{kept_bound}
use Rattle.pcache_policies.proofs.queue.Queue.weight.Goals as goal

pub returns-clause-bound : goal.returns-clause-bound
returns-clause-bound g c = subst (λ q. c.self.inside.weight ≤ length q * (2 ^ 64 - 1)) c.self.view_is (kept_bound c.self.inside.cache c.self.inside.weight c.self.invariant)
