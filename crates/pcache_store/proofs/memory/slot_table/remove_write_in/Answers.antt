use Rattle.pcache_store.proofs.Words.{sym, ◌∙◌}
use Rattle.pcache_store.proofs.Slots.{lost_there, lost_out, one_stays, one_goes}
use Rattle.pcache_store.proofs.memory.slot_table.remove_write_in.Goals as goal

pub returns-then-is_idle-clause-after : goal.returns-then-is_idle-clause-after
returns-then-is_idle-clause-after c =
    let is = rw c.in-Some.is at c.get_mut.ensures.value in
    let set = rw c.in-Some.is at (c.get_mut.follows.holds c.remove_write-body.new.self) in
    lost_out c.args.slots.now c.args.key c.in-Some.slot.now c.remove_write-body.new.self _ is set c.args.id _ c.remove_write-body.ensures.after (sym c.is_idle.ensures ∙ c.if-is_idle.true) c.remove.ensures.removed

pub returns-then-is_idle-clause-gone : goal.returns-then-is_idle-clause-gone
returns-then-is_idle-clause-gone c =
    let is = rw c.in-Some.is at c.get_mut.ensures.value in
    let set = rw c.in-Some.is at (c.get_mut.follows.holds c.remove_write-body.new.self) in
    one_goes c.args.slots.now c.args.key c.in-Some.slot.now c.remove_write-body.new.self _ is set _ c.remove.ensures.removed

pub returns-clause-after : goal.returns-clause-after
returns-clause-after c =
    let is = rw c.in-Some.is at c.get_mut.ensures.value in
    let set = rw c.in-Some.is at (c.get_mut.follows.holds c.remove_write-body.new.self) in
    lost_there c.args.slots.now c.args.key c.in-Some.slot.now c.remove_write-body.new.self _ is set c.args.id c.remove_write-body.ensures.after (sym c.is_idle.ensures ∙ c.if-is_idle.false)

pub returns-clause-gone : goal.returns-clause-gone
returns-clause-gone c =
    let is = rw c.in-Some.is at c.get_mut.ensures.value in
    let set = rw c.in-Some.is at (c.get_mut.follows.holds c.remove_write-body.new.self) in
    one_stays c.args.slots.now c.args.key c.in-Some.slot.now c.remove_write-body.new.self _ is set
