use Rattle.pcache_meta.specs.Meta.{expired_at}
use Rattle.pcache_store.proofs.Words.{on_ok_weaker, on_err_weaker}
use Rattle.pcache_store.proofs.Slots.{changed_there, same_slot}
use Rattle.pcache_store.proofs.memory.slot_table.expire_in.Goals as goal

pub returns-clause-slots : goal.returns-clause-slots
returns-clause-slots c =
    let is = rw c.in-Some.is at c.get_mut.ensures.value in
    let set = rw c.in-Some.is at (c.get_mut.follows.holds c.expire.new.self) in
    on_ok_weaker c.expire.result (λ e. changed_there c.args.slots.now c.args.key c.in-Some.slot.now c.expire.new.self _ is set (expired_at c.args.now) e) c.expire.ensures.slot

pub returns-clause-err : goal.returns-clause-err
returns-clause-err c =
    let is = rw c.in-Some.is at c.get_mut.ensures.value in
    let set = rw c.in-Some.is at (c.get_mut.follows.holds c.expire.new.self) in
    on_err_weaker c.expire.result (λ e. same_slot c.args.slots.now c.args.key c.in-Some.slot.now c.expire.new.self _ is set e) c.expire.ensures.err
