use Rattle.pcache_evict.specs.Recency.{loaded_all}
use Rattle.pcache_evict.proofs.Words.{◌≡◌}
use Rattle.pcache_evict.proofs.eviction.recency.RecencyList.load_all.Given as goal

abbrev pub invariant-loop-item : goal.invariant-loop-item
invariant-loop-item g l = loaded_all l.item-iterator.rest.items l.self ≡ loaded_all l.fn.entries.items l.fn.self
