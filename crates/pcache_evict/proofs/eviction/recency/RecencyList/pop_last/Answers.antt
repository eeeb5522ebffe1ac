use Rattle.pcache_evict.proofs.Words.{◌∙◌, sym}
use Rattle.pcache_evict.proofs.Recency.{kept-popped, front_of}
use Rattle.pcache_evict.proofs.eviction.recency.RecencyList.pop_last.Goals as goal

pub overflow_sub-self : goal.overflow_sub-self
overflow_sub-self g c =
    (kept-popped c.self.inside.cache c.pop_lru.new.self c.self.inside.weight (c.in_ok-key.key, c.in_ok-key.size) c.self.invariant c.in_ok-key.ensures.value c.in_ok-key.ensures.entries).0

pub invariant_of-self-2 : goal.invariant_of-self-2
invariant_of-self-2 g c =
    (kept-popped c.self.inside.cache c.pop_lru.new.self c.self.inside.weight (c.in_ok-key.key, c.in_ok-key.size) c.self.invariant c.in_ok-key.ensures.value c.in_ok-key.ensures.entries).1

pub returns-clause-last : goal.returns-clause-last
returns-clause-last g c =
    sym c.self.view_is ∙ front_of c.self.inside.cache c.pop_lru.new.self (c.in_ok-key.key, c.in_ok-key.size) c.in_ok-key.ensures.value c.in_ok-key.ensures.entries
