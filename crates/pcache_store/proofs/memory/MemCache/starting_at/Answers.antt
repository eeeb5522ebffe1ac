use Rattle.pcache_store.proofs.Past.{begins}
use Rattle.pcache_store.proofs.Words.{false}
use Rattle.pcache_store.proofs.memory.MemCache.starting_at.Goals as goal

pub invariant_of-result : goal.invariant_of-result
invariant_of-result c = rw (c.new.ensures, c.starting_at.ensures) (begins c.args.next false)
