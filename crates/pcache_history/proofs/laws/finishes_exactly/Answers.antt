use Rattle.pcache_history.proofs.WriteLaws.{finishes_exactly}
use Rattle.pcache_history.proofs.laws.finishes_exactly.Goals as goal

pub returns : goal.returns
returns c = finishes_exactly
