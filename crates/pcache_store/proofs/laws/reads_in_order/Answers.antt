use Rattle.pcache_store.proofs.PastLaws.{reads-in-order}
use Rattle.pcache_store.proofs.PastStates.{state-of}
use Rattle.pcache_store.proofs.laws.reads_in_order.Goals as goal

pub returns : goal.returns
returns c = λ s past is. reads-in-order s past (state-of s past is)
