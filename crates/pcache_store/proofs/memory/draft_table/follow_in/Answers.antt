use Rattle.pcache_store.proofs.Writes.{joined_there, same_there}
use Rattle.pcache_store.proofs.memory.draft_table.follow_in.Goals as goal

pub returns-in-Ok-clause-ok : goal.returns-in-Ok-clause-ok
returns-in-Ok-clause-ok c =
    let is = rw c.in-Some.is at c.get_mut.ensures.value in
    let set = rw c.in-Some.is at (c.get_mut.follows.holds c.follow.new.self) in
    joined_there c.args.writes.now c.args.number c.in-Some.draft.now c.follow.new.self _ is set c.in-Ok.ensures.ok

pub returns-in-Err-clause-err : goal.returns-in-Err-clause-err
returns-in-Err-clause-err c =
    let is = rw c.in-Some.is at c.get_mut.ensures.value in
    let set = rw c.in-Some.is at (c.get_mut.follows.holds c.follow.new.self) in
    same_there c.args.writes.now c.args.number c.in-Some.draft.now c.follow.new.self _ is set c.in-Err.ensures.err
