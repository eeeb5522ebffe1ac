use Rattle.pcache_store.proofs.Words.{Some, Left}
use Rattle.pcache_store.proofs.Past.{grows}
use Rattle.pcache_store.proofs.memory.MemCache.leave.Goals as goal

pub invariant_of-self : goal.invariant_of-self
invariant_of-self c =
    rw c.then-self-inside.ensures
    (grows c.self.inside.bare c.leave.new.self c.self.inside.past.notes (Some (Left c.args.number)) c.self.invariant c.leave.ensures)
