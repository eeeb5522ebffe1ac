use Rattle.pcache_history.proofs.WrongLaw.{is_wrong_exactly}
use Rattle.pcache_history.proofs.laws.is_wrong_exactly.Goals as goal

pub returns : goal.returns
returns c = is_wrong_exactly
