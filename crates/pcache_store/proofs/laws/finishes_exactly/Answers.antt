use Rattle.pcache_store.proofs.PastLaws.{finishes-exactly}
use Rattle.pcache_store.proofs.PastStates.{state-of}
use Rattle.pcache_store.proofs.laws.finishes_exactly.Goals as goal

pub returns : goal.returns
returns c = λ s past is. finishes-exactly s past (state-of s past is)
