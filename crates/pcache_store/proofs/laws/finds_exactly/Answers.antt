use Rattle.pcache_store.proofs.PastLaws.{finds-exactly}
use Rattle.pcache_store.proofs.PastStates.{state-of}
use Rattle.pcache_store.proofs.laws.finds_exactly.Goals as goal

pub returns : goal.returns
returns c = λ s past is. finds-exactly s past (state-of s past is)
