use Rattle.pcache_lock.proofs.Words.{as_nanos}
use Rattle.pcache_lock.proofs.Past.{begins}
use Rattle.pcache_lock.proofs.lock.cache_lock.CacheLock.starting_at.Goals as goal

pub invariant_of-result : goal.invariant_of-result
invariant_of-result c = rw (c.new.ensures, c.starting_at.ensures) (begins c.args.next (as_nanos c.args.age_timeout))
