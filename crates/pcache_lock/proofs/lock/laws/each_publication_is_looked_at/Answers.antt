use Rattle.pcache_lock.proofs.Ends.{looks_at_each}
use Rattle.pcache_lock.proofs.lock.laws.each_publication_is_looked_at.Goals as goal

pub returns : goal.returns
returns c = looks_at_each
