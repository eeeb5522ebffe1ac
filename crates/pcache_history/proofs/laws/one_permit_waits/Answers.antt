use Rattle.pcache_history.proofs.Waiting.{one_permit_waits}
use Rattle.pcache_history.proofs.laws.one_permit_waits.Goals as goal

pub returns : goal.returns
returns c = one_permit_waits
