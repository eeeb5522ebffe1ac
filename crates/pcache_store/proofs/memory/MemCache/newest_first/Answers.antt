use Rattle.pcache_store.proofs.Past.{begins}
use Rattle.pcache_store.proofs.Words.{true}
use Rattle.pcache_store.proofs.memory.MemCache.newest_first.Goals as goal

pub invariant_of-result : goal.invariant_of-result
invariant_of-result c = rw (c.new-2.ensures, c.new.ensures) (begins 0 true)
