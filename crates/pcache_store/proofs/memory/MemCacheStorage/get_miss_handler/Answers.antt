use Rattle.pcache_store.proofs.Words.{Some, slot, Began}
use Rattle.pcache_store.proofs.Past.{grows}
use Rattle.pcache_store.proofs.memory.MemCacheStorage.get_miss_handler.Goals as goal

pub invariant_of-self-2 : goal.invariant_of-self-2
invariant_of-self-2 c =
    rw (c.then_given-self-inside.ensures, c.slot.ensures, c.number.ensures)
    (grows c.self.inside.bare c.get_miss_handler.new.self c.self.inside.past.notes (Some (Began (slot c.args.key.now) c.in_ok-handler.handler.number c.args.meta.now)) c.self.invariant
    (c.in_ok-handler.ensures.write, c.in_ok-handler.ensures.ok))
