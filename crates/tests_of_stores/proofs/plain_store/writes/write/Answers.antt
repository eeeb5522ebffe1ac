use Rattle.std.proofs.lemmas.Result.{on_ok_weaker, on_err_weaker}
use Rattle.pcache_store.proofs.Writes.{wrote_there, same_there}
use Rattle.tests_of_stores.proofs.plain_store.writes.write.Goals as goal

pub returns-clause-ok : goal.returns-clause-ok
returns-clause-ok c =
    let is = rw c.in-Some.is at c.get_mut.ensures.value in
    let set = rw c.in-Some.is at (c.get_mut.follows.holds c.write.new.self) in
    on_ok_weaker c.write.result (λ e. wrote_there c.args.writes.now c.args.number c.in-Some.draft.now c.write.new.self _ is set c.args.bytes.now c.args.eof e) c.write.ensures.ok

pub returns-clause-err : goal.returns-clause-err
returns-clause-err c =
    let is = rw c.in-Some.is at c.get_mut.ensures.value in
    let set = rw c.in-Some.is at (c.get_mut.follows.holds c.write.new.self) in
    on_err_weaker c.write.result (λ e. same_there c.args.writes.now c.args.number c.in-Some.draft.now c.write.new.self _ is set e) c.write.ensures.err
