use Rattle.pcache_store.proofs.Words.{Some, Finished, Dropped}
use Rattle.pcache_store.proofs.Past.{grows}
use Rattle.pcache_store.proofs.memory.MemCache.finish.Goals as goal

pub invariant_of-self : goal.invariant_of-self
invariant_of-self c =
    rw c.then-self-inside.ensures
    (grows c.self.inside.bare c.finish.new.self c.self.inside.past.notes (Some (Finished c.args.number)) c.self.invariant (c.in-Ok.ensures.untouched, c.in-Ok.ensures.newest, c.in-Ok.ensures.ok))

pub invariant_of-self-in-Err : goal.invariant_of-self-in-Err
invariant_of-self-in-Err c =
    rw c.then-self-inside-in-Err.ensures
    (grows c.self.inside.bare c.finish.new.self c.self.inside.past.notes (Some (Dropped c.args.number)) c.self.invariant c.in-Err.ensures.err)
