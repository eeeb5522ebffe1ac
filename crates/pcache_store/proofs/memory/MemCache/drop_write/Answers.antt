use Rattle.pcache_store.proofs.Words.{Some, Dropped}
use Rattle.pcache_store.proofs.Past.{grows}
use Rattle.pcache_store.proofs.memory.MemCache.drop_write.Goals as goal

pub invariant_of-self : goal.invariant_of-self
invariant_of-self c =
    rw c.then-self-inside.ensures
    (grows c.self.inside.bare c.drop_write.new.self c.self.inside.past.notes (Some (Dropped c.args.number)) c.self.invariant c.drop_write.ensures)
