use Rattle.pcache_lock.proofs.Calls.{one_waits}
use Rattle.pcache_lock.proofs.lock.laws.at_most_one_waits.Goals as goal

pub returns : goal.returns
returns c = one_waits
