use Rattle.pcache_history.proofs.Promised.{tells_exactly}
use Rattle.pcache_history.proofs.laws.tells_exactly.Goals as goal

pub returns : goal.returns
returns c = tells_exactly
