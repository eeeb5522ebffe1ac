use Rattle.pcache_history.proofs.WaitsLaw.{waits_are_true}
use Rattle.pcache_history.proofs.laws.waits_are_true.Goals as goal

pub returns : goal.returns
returns c = waits_are_true
