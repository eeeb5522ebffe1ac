use Rattle.pcache_store.proofs.Records.{new-empty, new-records}
use Rattle.pcache_store.proofs.memory.draft_table.DraftTable.new.Goals as goal

pub invariant_of-result : goal.invariant_of-result
invariant_of-result c = new-records c.from_fn.result c.from_fn.ensures.items.long (λ i e lt. (c.from_fn.ensures.items.at i e lt).2.met.1)

pub returns : goal.returns
returns c = new-empty c.from_fn.result c.from_fn.ensures.items.long (λ i e lt. (c.from_fn.ensures.items.at i e lt).2.met.1)
