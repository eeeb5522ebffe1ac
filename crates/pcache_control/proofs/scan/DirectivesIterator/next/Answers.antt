use Rattle.pcache_control.proofs.Words.{refl}
use Rattle.pcache_control.proofs.scan.DirectivesIterator.next.Goals as goal

pub returns-in_default-clause-steps : goal.returns-in_default-clause-steps
returns-in_default-clause-steps c = rw (← c.self.view_is) (refl, c.in_default.ensures.none)
