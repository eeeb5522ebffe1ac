use Rattle.pcache_history.proofs.LoadsLaw.{loads_come_first}
use Rattle.pcache_history.proofs.laws.loads_come_first.Goals as goal

pub returns : goal.returns
returns c = loads_come_first
