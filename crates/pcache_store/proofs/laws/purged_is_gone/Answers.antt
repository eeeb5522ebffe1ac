use Rattle.pcache_store.proofs.PastLaws.{purged-is-gone}
use Rattle.pcache_store.proofs.laws.purged_is_gone.Goals as goal

pub returns : goal.returns
returns c = purged-is-gone
