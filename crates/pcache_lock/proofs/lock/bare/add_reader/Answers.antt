use Rattle.pcache_lock.proofs.Words.{with_reader}
use Rattle.pcache_lock.proofs.Changes.{changed_there}
use Rattle.pcache_lock.proofs.lock.bare.add_reader.Goals as goal

pub returns : goal.returns
returns c =
    let is = rw c.in-Some.is at c.get_mut.ensures.value in
    let set = rw c.in-Some.is at (c.get_mut.follows.holds c.add_reader.new.self) in
    changed_there with_reader c.args.cores.now c.args.number c.in-Some.core.now c.add_reader.new.self _ is c.add_reader.ensures set
