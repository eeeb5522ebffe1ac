use Rattle.pcache_history.proofs.AnswersLaw.{reads_are_true}
use Rattle.pcache_history.proofs.laws.reads_are_true.Goals as goal

pub returns : goal.returns
returns c = reads_are_true
