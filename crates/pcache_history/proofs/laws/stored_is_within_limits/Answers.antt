use Rattle.pcache_history.proofs.WriteLaws.{is_within_limits}
use Rattle.pcache_history.proofs.laws.stored_is_within_limits.Goals as goal

pub returns : goal.returns
returns c = is_within_limits
