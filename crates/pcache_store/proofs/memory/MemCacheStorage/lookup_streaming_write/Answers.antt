use Rattle.pcache_store.proofs.Past.{grows, looks}
use Rattle.pcache_store.proofs.memory.MemCacheStorage.lookup_streaming_write.Goals as goal

pub invariant_of-self-2 : goal.invariant_of-self-2
invariant_of-self-2 c =
    let s = c.self.inside.bare in
    rw (c.then-self-inside.ensures, c.joined.ensures, c.in_ok-found.ensures.found)
    (grows s c.lookup_streaming_write.new.self c.self.inside.past.notes _ c.self.invariant (rw c.in_ok-found.ensures.ok (looks s _)))
