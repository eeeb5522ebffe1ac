use Rattle.pcache_lock.proofs.Words.{without_reader}
use Rattle.pcache_lock.proofs.Changes.{changed_there}
use Rattle.pcache_lock.proofs.lock.bare.forget_reader.Goals as goal

pub returns : goal.returns
returns c =
    let is = rw c.in-Some.is at c.get_mut.ensures.value in
    let set = rw c.in-Some.is at (c.get_mut.follows.holds c.forget_reader.new.self) in
    changed_there without_reader c.args.cores.now c.args.number c.in-Some.core.now c.forget_reader.new.self _ is c.forget_reader.ensures set
