use Rattle.pcache_history.proofs.WriteLaws.{reads_the_last}
use Rattle.pcache_history.proofs.laws.hits_read_the_last.Goals as goal

pub returns : goal.returns
returns c = reads_the_last
