use Rattle.pcache_lock.proofs.Ends.{waits_after_each_deed, waits_until_its_end}
use Rattle.pcache_lock.proofs.lock.laws.permits_wait_until_their_end.Goals as goal

pub returns-clause-tables : goal.returns-clause-tables
returns-clause-tables c = waits_until_its_end

pub returns-clause-deeds : goal.returns-clause-deeds
returns-clause-deeds c = waits_after_each_deed
