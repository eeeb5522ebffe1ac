use Rattle.pcache_store.proofs.Slots.{on_err, opened_there, same_slot}
use Rattle.tests_of_stores.proofs.plain_store.slots.open.Goals as goal

pub returns-in-Some-clause-ok : goal.returns-in-Some-clause-ok
returns-in-Some-clause-ok c =
    let is = rw c.in-Some.is at c.get_mut.ensures.value in
    let set = rw c.in-Some.is at (c.get_mut.follows.holds c.open.new.self) in
    opened_there c.args.slots.now c.args.key c.in-Some.slot.now c.open.new.self _ is set c.args.number c.in_ok-open.ensures.ok

pub returns-in_err-open-clause-err : goal.returns-in_err-open-clause-err
returns-in_err-open-clause-err c =
    let is = rw c.in-Some.is at c.get_mut.ensures.value in
    let set = rw c.in-Some.is at (c.get_mut.follows.holds c.open.new.self) in
    on_err c.from_residual.result (same_slot c.args.slots.now c.args.key c.in-Some.slot.now c.open.new.self _ is set c.in_err-open.ensures.err)
