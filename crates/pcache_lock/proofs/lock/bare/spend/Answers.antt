use Rattle.pcache_lock.proofs.Words.{spent}
use Rattle.pcache_lock.proofs.Changes.{changed_there}
use Rattle.pcache_lock.proofs.lock.bare.spend.Goals as goal

pub returns : goal.returns
returns c =
    let is = rw c.in-Some.is at c.get_mut.ensures.value in
    let set = rw c.in-Some.is at (c.get_mut.follows.holds c.spend.new.self) in
    changed_there (λ x. spent x c.args.status) c.args.cores.now c.args.number c.in-Some.core.now c.spend.new.self _ is c.spend.ensures set
