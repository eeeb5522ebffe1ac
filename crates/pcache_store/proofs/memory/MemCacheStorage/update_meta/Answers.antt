use Rattle.pcache_store.proofs.Words.{Some, slot, MetaSet}
use Rattle.pcache_store.proofs.Past.{grows}
use Rattle.pcache_store.proofs.memory.MemCacheStorage.update_meta.Goals as goal

pub invariant_of-self-2 : goal.invariant_of-self-2
invariant_of-self-2 c =
    rw (c.then_given-self-inside.ensures, c.slot.ensures)
    (grows c.self.inside.bare c.update_meta.new.self c.self.inside.past.notes (Some (MetaSet (slot c.args.key.now) c.args.meta.now)) c.self.invariant c.in_ok-there.ensures.ok)
