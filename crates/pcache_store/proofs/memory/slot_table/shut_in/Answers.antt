use Rattle.pcache_store.proofs.Words.{sym, ◌∙◌}
use Rattle.pcache_store.proofs.Slots.{shut_there, shut_gone, one_stays, one_goes}
use Rattle.pcache_store.proofs.memory.slot_table.shut_in.Goals as goal

pub returns-then-is_idle-clause-after : goal.returns-then-is_idle-clause-after
returns-then-is_idle-clause-after c =
    let is = rw c.in-Some.is at c.get_mut.ensures.value in
    let set = rw c.in-Some.is at (c.get_mut.follows.holds c.shut.new.self) in
    shut_gone c.args.slots.now c.args.key c.in-Some.slot.now c.shut.new.self _ is set c.args.number _ c.shut.ensures (sym c.is_idle.ensures ∙ c.if-is_idle.true) c.remove.ensures.removed

pub returns-then-is_idle-clause-gone : goal.returns-then-is_idle-clause-gone
returns-then-is_idle-clause-gone c =
    let is = rw c.in-Some.is at c.get_mut.ensures.value in
    let set = rw c.in-Some.is at (c.get_mut.follows.holds c.shut.new.self) in
    one_goes c.args.slots.now c.args.key c.in-Some.slot.now c.shut.new.self _ is set _ c.remove.ensures.removed

pub returns-clause-after : goal.returns-clause-after
returns-clause-after c =
    let is = rw c.in-Some.is at c.get_mut.ensures.value in
    let set = rw c.in-Some.is at (c.get_mut.follows.holds c.shut.new.self) in
    shut_there c.args.slots.now c.args.key c.in-Some.slot.now c.shut.new.self _ is set c.args.number c.shut.ensures (sym c.is_idle.ensures ∙ c.if-is_idle.false)

pub returns-clause-gone : goal.returns-clause-gone
returns-clause-gone c =
    let is = rw c.in-Some.is at c.get_mut.ensures.value in
    let set = rw c.in-Some.is at (c.get_mut.follows.holds c.shut.new.self) in
    one_stays c.args.slots.now c.args.key c.in-Some.slot.now c.shut.new.self _ is set
