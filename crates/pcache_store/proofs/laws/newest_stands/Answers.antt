use Rattle.pcache_store.proofs.PastLaws.{newest-stands}
use Rattle.pcache_store.proofs.PastStates.{state-of}
use Rattle.pcache_store.proofs.laws.newest_stands.Goals as goal

pub returns : goal.returns
returns c = λ s past is. newest-stands s past (state-of s past is)
