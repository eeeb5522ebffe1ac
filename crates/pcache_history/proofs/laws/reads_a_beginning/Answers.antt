use Rattle.pcache_history.proofs.ReadsLaw.{reads_a_beginning}
use Rattle.pcache_history.proofs.laws.reads_a_beginning.Goals as goal

pub returns : goal.returns
returns c = reads_a_beginning
