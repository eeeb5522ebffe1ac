use Rattle.pcache_history.proofs.TrackedLaws.{evicts-fairly}
use Rattle.pcache_history.proofs.laws.evicts_fairly.Goals as goal

pub returns : goal.returns
returns c = evicts-fairly
