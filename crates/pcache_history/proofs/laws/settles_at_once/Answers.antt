use Rattle.pcache_history.proofs.SettlesLaw.{settles_at_once}
use Rattle.pcache_history.proofs.laws.settles_at_once.Goals as goal

pub returns : goal.returns
returns c = settles_at_once
