use Rattle.pcache_store.proofs.PastLaws.{bodies-are-last}
use Rattle.pcache_store.proofs.PastStates.{state-of}
use Rattle.pcache_store.proofs.laws.bodies_are_last.Goals as goal

pub returns : goal.returns
returns c = λ s past is. bodies-are-last s past (state-of s past is)
