use Rattle.pcache_lock.proofs.Words.{as_nanos}
use Rattle.pcache_lock.proofs.Past.{begins}
use Rattle.pcache_lock.proofs.lock.cache_lock.CacheLock.new.Goals as goal

pub invariant_of-result : goal.invariant_of-result
invariant_of-result c = rw (c.new-2.ensures, c.new.ensures) (begins 0 (as_nanos c.args.age_timeout))
