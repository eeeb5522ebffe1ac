use Rattle.pcache_history.proofs.AnswersLaw.{looks_are_true}
use Rattle.pcache_history.proofs.laws.looks_are_true.Goals as goal

pub returns : goal.returns
returns c = looks_are_true
