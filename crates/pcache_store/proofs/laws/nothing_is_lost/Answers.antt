use Rattle.pcache_store.proofs.PastLaws.{nothing-is-lost}
use Rattle.pcache_store.proofs.PastStates.{state-of}
use Rattle.pcache_store.proofs.laws.nothing_is_lost.Goals as goal

pub returns : goal.returns
returns c = λ s past is. nothing-is-lost s past (state-of s past is)
