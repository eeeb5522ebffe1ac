use Rattle.pcache_lock.proofs.Words.{Unlocked}
use Rattle.pcache_lock.proofs.Past.{grows}
use Rattle.pcache_lock.proofs.lock.cache_lock.CacheLock.unlock.Goals as goal

pub invariant_of-self : goal.invariant_of-self
invariant_of-self c = rw c.then-self-inside.ensures (grows c.self.inside.bare c.unlock.new.self c.self.inside.past.deeds (Unlocked c.args.number c.args.reason) c.self.invariant (c.requires, c.unlock.ensures))
