use Rattle.pcache_history.proofs.Found.{reads_what_was_found}
use Rattle.pcache_history.proofs.laws.reads_what_was_found.Goals as goal

pub returns : goal.returns
returns c = reads_what_was_found
