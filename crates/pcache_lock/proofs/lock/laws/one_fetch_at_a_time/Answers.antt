use Rattle.pcache_lock.proofs.PastLaws.{one_fetch}
use Rattle.pcache_lock.proofs.lock.laws.one_fetch_at_a_time.Goals as goal

pub returns : goal.returns
returns c = one_fetch
