use Rattle.pcache_lock.proofs.PastLaws.{at_most_one}
use Rattle.pcache_lock.proofs.lock.laws.one_waits_in_each_past.Goals as goal

pub returns : goal.returns
returns c = at_most_one
