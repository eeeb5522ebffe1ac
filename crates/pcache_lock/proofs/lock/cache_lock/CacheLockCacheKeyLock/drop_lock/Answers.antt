use Rattle.pcache_lock.proofs.Past.{grows, gives_up}
use Rattle.pcache_lock.proofs.lock.cache_lock.CacheLockCacheKeyLock.drop_lock.Goals as goal

pub invariant_of-self : goal.invariant_of-self
invariant_of-self c =
    let table = c.self.inside.bare in
    rw (c.then-self-inside.ensures, c.number.ensures, c.is_write.ensures)
    (grows table c.drop_lock.new.self c.self.inside.past.deeds _ c.self.invariant
    (rw c.drop_lock.ensures.table (gives_up table c.args.locked)))
