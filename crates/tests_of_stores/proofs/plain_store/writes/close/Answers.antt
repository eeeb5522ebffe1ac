use Rattle.std.proofs.Common.{sym, ◌∙◌}
use Rattle.pcache_store.proofs.Writes.{closed_there, closed_gone}
use Rattle.tests_of_stores.proofs.plain_store.writes.close.Goals as goal

pub returns-then-is_named : goal.returns-then-is_named
returns-then-is_named c =
    let is = rw c.in-Some.is at c.get_mut.ensures.value in
    let set = rw c.in-Some.is at (c.get_mut.follows.holds c.close.new.self) in
    closed_there c.args.writes.now c.args.number c.in-Some.draft.now c.close.new.self _ is set c.close.ensures (sym c.is_named.ensures ∙ c.if-is_named.true)

pub returns : goal.returns
returns c =
    let is = rw c.in-Some.is at c.get_mut.ensures.value in
    let set = rw c.in-Some.is at (c.get_mut.follows.holds c.close.new.self) in
    closed_gone c.args.writes.now c.args.number c.in-Some.draft.now c.close.new.self _ is set _ c.close.ensures (sym c.is_named.ensures ∙ c.if-is_named.false) c.remove.ensures.removed
