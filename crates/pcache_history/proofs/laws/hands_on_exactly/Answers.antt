use Rattle.pcache_history.proofs.Promised.{hands_on_exactly}
use Rattle.pcache_history.proofs.laws.hands_on_exactly.Goals as goal

pub returns : goal.returns
returns c = hands_on_exactly
