use Rattle.pcache_lock.proofs.Words.{Released}
use Rattle.pcache_lock.proofs.Past.{grows}
use Rattle.pcache_lock.proofs.lock.cache_lock.CacheLockCacheKeyLock.release.Goals as goal

pub invariant_of-self : goal.invariant_of-self
invariant_of-self c =
    rw (c.then-self-inside.ensures, c.number-number.ensures)
    (grows c.self.inside.bare c.release.new.self c.self.inside.past.deeds (Released c.args.permit.number c.args.reason) c.self.invariant (c.requires, c.release.ensures.table))
