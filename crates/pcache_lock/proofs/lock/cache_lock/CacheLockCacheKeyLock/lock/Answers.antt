use Rattle.pcache_base.specs.Key.{slot}
use Rattle.pcache_lock.proofs.Past.{grows, asks}
use Rattle.pcache_lock.proofs.lock.cache_lock.CacheLockCacheKeyLock.lock.Goals as goal

pub invariant_of-self-2 : goal.invariant_of-self-2
invariant_of-self-2 c =
    let table = c.self.inside.bare in
    rw (c.then-self-inside.ensures, c.slot.ensures, c.number.ensures, c.is_write.ensures, c.in_ok-given.ensures.gives)
    (grows table c.lock.new.self c.self.inside.past.deeds _ c.self.invariant
    (rw c.in_ok-given.ensures.ok (asks table (slot c.args.key.now) c.args.stale_writer c.args.now)))
