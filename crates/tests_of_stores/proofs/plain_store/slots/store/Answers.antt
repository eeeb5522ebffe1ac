use Rattle.pcache_store.proofs.Slots.{stored_there}
use Rattle.tests_of_stores.proofs.plain_store.slots.store.Goals as goal

pub returns : goal.returns
returns c =
    let is = rw c.in-Some.is at c.get_mut.ensures.value in
    let set = rw c.in-Some.is at (c.get_mut.follows.holds c.store.new.self) in
    stored_there c.args.slots.now c.args.key c.in-Some.slot.now c.store.new.self _ is set c.args.number c.args.body c.store.ensures
