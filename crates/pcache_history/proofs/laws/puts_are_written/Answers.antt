use Rattle.pcache_history.proofs.PutWrites.{puts_are_written}
use Rattle.pcache_history.proofs.laws.puts_are_written.Goals as goal

pub returns : goal.returns
returns c = puts_are_written
