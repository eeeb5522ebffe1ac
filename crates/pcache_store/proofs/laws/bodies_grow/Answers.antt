use Rattle.pcache_store.proofs.PastLaws.{bodies-grow}
use Rattle.pcache_store.proofs.laws.bodies_grow.Goals as goal

pub returns : goal.returns
returns c = bodies-grow
