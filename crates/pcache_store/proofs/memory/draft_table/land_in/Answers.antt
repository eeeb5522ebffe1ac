use Rattle.pcache_store.proofs.Words.{sym, ◌∙◌}
use Rattle.pcache_store.proofs.Writes.{landed_there, landed_gone, one_stays, one_goes}
use Rattle.pcache_store.proofs.memory.draft_table.land_in.Goals as goal

pub returns-then-is_named-clause-after : goal.returns-then-is_named-clause-after
returns-then-is_named-clause-after c =
    let is = rw c.in-Some.is at c.get_mut.ensures.value in
    let set = rw c.in-Some.is at (c.get_mut.follows.holds c.land.new.self) in
    landed_there c.args.writes.now c.args.number c.in-Some.draft.now c.land.new.self _ is set c.land.ensures (sym c.is_named.ensures ∙ c.if-is_named.true)

pub returns-then-is_named-clause-gone : goal.returns-then-is_named-clause-gone
returns-then-is_named-clause-gone c =
    let is = rw c.in-Some.is at c.get_mut.ensures.value in
    let set = rw c.in-Some.is at (c.get_mut.follows.holds c.land.new.self) in
    one_stays c.args.writes.now c.args.number c.in-Some.draft.now c.land.new.self _ is set

pub returns-clause-after : goal.returns-clause-after
returns-clause-after c =
    let is = rw c.in-Some.is at c.get_mut.ensures.value in
    let set = rw c.in-Some.is at (c.get_mut.follows.holds c.land.new.self) in
    landed_gone c.args.writes.now c.args.number c.in-Some.draft.now c.land.new.self _ is set _ c.land.ensures (sym c.is_named.ensures ∙ c.if-is_named.false) c.remove.ensures.removed

pub returns-clause-gone : goal.returns-clause-gone
returns-clause-gone c =
    let is = rw c.in-Some.is at c.get_mut.ensures.value in
    let set = rw c.in-Some.is at (c.get_mut.follows.holds c.land.new.self) in
    one_goes c.args.writes.now c.args.number c.in-Some.draft.now c.land.new.self _ is set _ c.remove.ensures.removed
