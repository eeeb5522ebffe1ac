use Rattle.pcache_store.proofs.Slots.{changed_there}
use Rattle.tests_of_stores.proofs.plain_store.slots.set_meta.Goals as goal

pub returns-clause-slots : goal.returns-clause-slots
returns-clause-slots c =
    let is = rw c.in-Some.is at c.get_mut.ensures.value in
    let set = rw c.in-Some.is at (c.get_mut.follows.holds c.set_meta.new.self) in
    changed_there c.args.slots.now c.args.key c.in-Some.slot.now c.set_meta.new.self _ is set (λ _. c.args.meta) c.set_meta.ensures.slot
