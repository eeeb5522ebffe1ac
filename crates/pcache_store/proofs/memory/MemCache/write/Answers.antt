use Rattle.pcache_store.proofs.Words.{Some, Wrote}
use Rattle.pcache_store.proofs.Past.{grows}
use Rattle.pcache_store.proofs.memory.MemCache.write.Goals as goal

pub invariant_of-self-2 : goal.invariant_of-self-2
invariant_of-self-2 c =
    rw (c.then-past.ensures, c.as_slice.ensures)
    (grows c.self.inside.bare c.write.new.self c.self.inside.past.notes (Some (Wrote c.args.number c.args.bytes c.args.eof)) c.self.invariant c.in_ok-write.ensures.ok)
