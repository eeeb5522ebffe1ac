use Rattle.std.proofs.Common.{sym, ◌∙◌}
use Rattle.pcache_store.proofs.Slots.{shut_there, shut_gone}
use Rattle.tests_of_stores.proofs.plain_store.slots.shut.Goals as goal

pub returns-then-is_idle : goal.returns-then-is_idle
returns-then-is_idle c =
    let is = rw c.in-Some.is at c.get_mut.ensures.value in
    let set = rw c.in-Some.is at (c.get_mut.follows.holds c.shut.new.self) in
    shut_gone c.args.slots.now c.args.key c.in-Some.slot.now c.shut.new.self _ is set c.args.number _ c.shut.ensures (sym c.is_idle.ensures ∙ c.if-is_idle.true) c.remove.ensures.removed

pub returns : goal.returns
returns c =
    let is = rw c.in-Some.is at c.get_mut.ensures.value in
    let set = rw c.in-Some.is at (c.get_mut.follows.holds c.shut.new.self) in
    shut_there c.args.slots.now c.args.key c.in-Some.slot.now c.shut.new.self _ is set c.args.number c.shut.ensures (sym c.is_idle.ensures ∙ c.if-is_idle.false)
