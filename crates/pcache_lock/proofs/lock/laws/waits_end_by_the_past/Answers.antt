use Rattle.pcache_lock.proofs.PastWaits.{ends_by_past, status_by_past}
use Rattle.pcache_lock.proofs.lock.laws.waits_end_by_the_past.Goals as goal

pub returns-clause-returns : goal.returns-clause-returns
returns-clause-returns c = ends_by_past

pub returns-clause-status : goal.returns-clause-status
returns-clause-status c = status_by_past
