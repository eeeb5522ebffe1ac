use Rattle.pcache_store.proofs.Writes.{taken_back}
use Rattle.pcache_store.proofs.memory.bare.BareStore.get_miss_handler.Goals as goal

pub returns-in-Err-clause-err : goal.returns-in-Err-clause-err
returns-in-Err-clause-err c =
    let back = taken_back c.self.inside.drafts c.new-draft.result c.begin.new.self c.take_back.new.self c.in_ok-begin.ensures.unused c.in_ok-begin.ensures.ok c.take_back.ensures in
    rw (back, c.in-Err.ensures.err) c.self.view_is
