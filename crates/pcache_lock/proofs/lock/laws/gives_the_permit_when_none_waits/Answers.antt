use Rattle.pcache_lock.proofs.PastLaws.{gives_by_past, all_given}
use Rattle.pcache_lock.proofs.lock.laws.gives_the_permit_when_none_waits.Goals as goal

pub returns-clause-next : goal.returns-clause-next
returns-clause-next c = gives_by_past

pub returns-clause-all : goal.returns-clause-all
returns-clause-all c = all_given
