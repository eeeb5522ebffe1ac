use Rattle.pcache_put.proofs.OneAnswer.{one_by_default}
use Rattle.pcache_put.proofs.laws.one_decision_by_defaults.Goals as goal

pub returns : goal.returns
returns g c = one_by_default _ _
