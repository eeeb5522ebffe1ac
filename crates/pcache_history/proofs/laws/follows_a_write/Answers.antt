use Rattle.pcache_history.proofs.Found.{follows_a_write}
use Rattle.pcache_history.proofs.laws.follows_a_write.Goals as goal

pub returns : goal.returns
returns c = follows_a_write
