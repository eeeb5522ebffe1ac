use Rattle.pcache_store.proofs.PastLaws.{found-is-of-its-write}
use Rattle.pcache_store.proofs.PastStates.{state-of}
use Rattle.pcache_store.proofs.laws.found_is_of_its_write.Goals as goal

pub returns : goal.returns
returns c = λ s past is. found-is-of-its-write s past (state-of s past is)
