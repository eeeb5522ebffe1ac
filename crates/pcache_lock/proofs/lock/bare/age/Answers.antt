use Rattle.pcache_lock.proofs.Words.{aged}
use Rattle.pcache_lock.proofs.Changes.{changed_there}
use Rattle.pcache_lock.proofs.lock.bare.age.Goals as goal

pub returns : goal.returns
returns c =
    let is = rw c.in-Some.is at c.get_mut.ensures.value in
    let set = rw c.in-Some.is at (c.get_mut.follows.holds c.age.new.self) in
    changed_there aged c.args.cores.now c.args.number c.in-Some.core.now c.age.new.self _ is c.age.ensures set
