use Rattle.pcache_store.proofs.Writes.{joined_there, same_there}
use Rattle.tests_of_stores.proofs.plain_store.writes.join.Goals as goal

pub returns-in-Ok-clause-ok : goal.returns-in-Ok-clause-ok
returns-in-Ok-clause-ok c =
    let is = rw c.in-Some.is at c.get_mut.ensures.value in
    let set = rw c.in-Some.is at (c.get_mut.follows.holds c.join.new.self) in
    joined_there c.args.writes.now c.args.number c.in-Some.draft.now c.join.new.self _ is set c.in-Ok.ensures.ok

pub returns-in-Err-clause-err : goal.returns-in-Err-clause-err
returns-in-Err-clause-err c =
    let is = rw c.in-Some.is at c.get_mut.ensures.value in
    let set = rw c.in-Some.is at (c.get_mut.follows.holds c.join.new.self) in
    same_there c.args.writes.now c.args.number c.in-Some.draft.now c.join.new.self _ is set c.in-Err.ensures.err
