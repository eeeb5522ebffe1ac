use Rattle.pcache_history.proofs.WriteLaws.{finds_exactly}
use Rattle.pcache_history.proofs.laws.finds_exactly.Goals as goal

pub returns : goal.returns
returns c = finds_exactly
