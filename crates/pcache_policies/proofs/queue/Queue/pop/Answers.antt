use Rattle.pcache_policies.proofs.Words.{◌∙◌, sym}
use Rattle.pcache_policies.proofs.Queues.{kept-popped}
use Rattle.pcache_policies.proofs.queue.Queue.pop.Goals as goal

pub overflow_sub-self : goal.overflow_sub-self
overflow_sub-self g c = (kept-popped c.self.inside.cache c.pop_lru.new.self c.self.inside.weight (c.in_ok-key.key, c.in_ok-key.seen) c.self.invariant c.in_ok-key.ensures.value c.in_ok-key.ensures.entries).less

pub invariant_of-self-2 : goal.invariant_of-self-2
invariant_of-self-2 g c = (kept-popped c.self.inside.cache c.pop_lru.new.self c.self.inside.weight (c.in_ok-key.key, c.in_ok-key.seen) c.self.invariant c.in_ok-key.ensures.value c.in_ok-key.ensures.entries).kept

pub returns-clause-last : goal.returns-clause-last
returns-clause-last g c = sym c.self.view_is ∙ (kept-popped c.self.inside.cache c.pop_lru.new.self c.self.inside.weight (c.in_ok-key.key, c.in_ok-key.seen) c.self.invariant c.in_ok-key.ensures.value c.in_ok-key.ensures.entries).is
