use Rattle.pcache_validation.proofs.Elements.{Leads}
use Rattle.pcache_validation.proofs.lists.separator.Given as goal

abbrev pub invariant-loop-at : goal.invariant-loop-at
invariant-loop-at l = Leads l.bytes l.at l.quoted
