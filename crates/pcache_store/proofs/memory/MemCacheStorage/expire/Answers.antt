use Rattle.pcache_store.proofs.Words.{expiry_noted}
use Rattle.pcache_store.proofs.Past.{grows, expires}
use Rattle.pcache_store.proofs.memory.MemCacheStorage.expire.Goals as goal

pub invariant_of-self-2 : goal.invariant_of-self-2
invariant_of-self-2 c =
    let s = c.self.inside.bare in
    let slot = c.slot_to_expire-slot.result in
    rw c.then-self-inside.ensures
    (grows s c.expire.new.self c.self.inside.past.notes (expiry_noted c.args.now slot) c.self.invariant
    (rw c.in_ok-outcome.ensures.ok (expires c.args.now s slot)))
