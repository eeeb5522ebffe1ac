use Rattle.pcache_put.proofs.OneAnswer.{one_by_none, one_by_time}
use Rattle.pcache_put.proofs.laws.one_decision_by_lifetimes.Goals as goal

pub returns-clause-timed : goal.returns-clause-timed
returns-clause-timed c = one_by_time

pub returns-clause-none : goal.returns-clause-none
returns-clause-none c = one_by_none
