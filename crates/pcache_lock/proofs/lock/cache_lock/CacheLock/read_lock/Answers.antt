use Rattle.pcache_lock.proofs.Words.{ReadLocked}
use Rattle.pcache_lock.proofs.Past.{grows}
use Rattle.pcache_lock.proofs.lock.cache_lock.CacheLock.read_lock.Goals as goal

pub invariant_of-self : goal.invariant_of-self
invariant_of-self c = rw c.then-self-inside.ensures (grows c.self.inside.bare c.read_lock-read.new.self c.self.inside.past.deeds (ReadLocked c.args.number) c.self.invariant c.read_lock-read.ensures.table)
