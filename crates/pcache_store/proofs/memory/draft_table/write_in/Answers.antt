use Rattle.pcache_store.proofs.Words.{on_ok_weaker, on_err_weaker}
use Rattle.pcache_store.proofs.Writes.{wrote_there, same_there}
use Rattle.pcache_store.proofs.memory.draft_table.write_in.Goals as goal

pub returns-clause-ok : goal.returns-clause-ok
returns-clause-ok c =
    let is = rw c.in-Some.is at c.get_mut.ensures.value in
    let set = rw c.in-Some.is at (c.get_mut.follows.holds c.write.new.self) in
    on_ok_weaker c.write.result (λ e. wrote_there c.args.writes.now c.args.number c.in-Some.draft.now c.write.new.self _ is set c.args.bytes c.args.eof e) c.write.ensures.ok

pub returns-clause-err : goal.returns-clause-err
returns-clause-err c =
    let is = rw c.in-Some.is at c.get_mut.ensures.value in
    let set = rw c.in-Some.is at (c.get_mut.follows.holds c.write.new.self) in
    on_err_weaker c.write.result (λ e. same_there c.args.writes.now c.args.number c.in-Some.draft.now c.write.new.self _ is set e) c.write.ensures.err
