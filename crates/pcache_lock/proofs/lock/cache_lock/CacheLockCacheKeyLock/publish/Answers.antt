use Rattle.pcache_lock.proofs.Words.{Published}
use Rattle.pcache_lock.proofs.Past.{grows}
use Rattle.pcache_lock.proofs.lock.cache_lock.CacheLockCacheKeyLock.publish.Goals as goal

pub invariant_of-self-2 : goal.invariant_of-self-2
invariant_of-self-2 c =
    rw (c.then-self-inside.ensures, c.number.ensures)
    (grows c.self.inside.bare c.publish.new.self c.self.inside.past.deeds (Published c.args.permit.now.number c.args.tokens.now) c.self.invariant c.in_ok-publish.ensures.ok)
