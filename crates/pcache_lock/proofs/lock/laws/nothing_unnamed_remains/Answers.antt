use Rattle.pcache_lock.proofs.Named.{nothing_remains}
use Rattle.pcache_lock.proofs.lock.laws.nothing_unnamed_remains.Goals as goal

pub returns : goal.returns
returns c = nothing_remains
