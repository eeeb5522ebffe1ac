use Rattle.pcache_store.proofs.PastLaws.{bodies-get-newer}
use Rattle.pcache_store.proofs.laws.bodies_get_newer.Goals as goal

pub returns : goal.returns
returns c = bodies-get-newer
