use Rattle.pcache_history.proofs.Promised.{reads_the_whole}
use Rattle.pcache_history.proofs.laws.reads_the_whole.Goals as goal

pub returns : goal.returns
returns c = reads_the_whole
