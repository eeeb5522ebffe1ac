use Rattle.pcache_history.proofs.NumbersLaw.{found_is_numbered}
use Rattle.pcache_history.proofs.laws.found_is_numbered.Goals as goal

pub returns : goal.returns
returns c = found_is_numbered
