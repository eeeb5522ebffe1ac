use Rattle.pcache_store.proofs.Words.{purge_noted, true}
use Rattle.pcache_store.proofs.Past.{grows, removes}
use Rattle.pcache_store.proofs.memory.MemCacheStorage.purge.Goals as goal

pub invariant_of-self : goal.invariant_of-self
invariant_of-self c =
    let s = c.self.inside.bare in
    rw (c.then-self-inside.ensures, c.slot.ensures, c.key.ensures, c.id_named.ensures)
    (grows s c.purge-outcome.new.self c.self.inside.past.notes (purge_noted true c.args.target) c.self.invariant
    (rw c.purge-outcome.ensures.purged (removes s c.args.target)))
