use Rattle.pcache_lock.proofs.Words.{ended}
use Rattle.pcache_lock.proofs.Changes.{changed_there}
use Rattle.pcache_lock.proofs.lock.bare.unlock.Goals as goal

pub returns : goal.returns
returns c =
    let is = rw c.in-Some.is at c.get_mut.ensures.value in
    let set = rw c.in-Some.is at (c.get_mut.follows.holds c.unlock.new.self) in
    changed_there (ended c.args.reason) c.args.cores.now c.args.number c.in-Some.core.now c.unlock.new.self _ is c.unlock.ensures set
