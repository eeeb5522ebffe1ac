use Rattle.std.proofs.lemmas.Result.{on_ok_weaker, on_err_weaker}
use Rattle.pcache_lock.proofs.Words.{with_publication}
use Rattle.pcache_lock.proofs.Changes.{changed_there, same_there}
use Rattle.pcache_lock.proofs.lock.bare.publish.Goals as goal

pub returns-clause-ok : goal.returns-clause-ok
returns-clause-ok c =
    let is = rw c.in-Some.is at c.get_mut.ensures.value in
    let set = rw c.in-Some.is at (c.get_mut.follows.holds c.publish.new.self) in
    on_ok_weaker c.publish.result (λ e. changed_there (with_publication c.args.tokens.now) c.args.cores.now c.args.number c.in-Some.core.now c.publish.new.self _ is e set) c.publish.ensures.ok

pub returns-clause-err : goal.returns-clause-err
returns-clause-err c =
    let is = rw c.in-Some.is at c.get_mut.ensures.value in
    let set = rw c.in-Some.is at (c.get_mut.follows.holds c.publish.new.self) in
    on_err_weaker c.publish.result (λ e. same_there c.args.cores.now c.args.number c.in-Some.core.now c.publish.new.self _ is e set) c.publish.ensures.err
