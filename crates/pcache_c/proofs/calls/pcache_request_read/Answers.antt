use Rattle.pcache_c.proofs.Words.{sym, ◌∙◌}
use Rattle.pcache_c.proofs.Changed.{changed}
use Rattle.pcache_c.proofs.Given.{room_good}
use Rattle.pcache_c.proofs.calls.pcache_request_read.Goals as goal

pub returns-clause-reads : goal.returns-clause-reads
returns-clause-reads c = room_good c.args.out.now _ _ _ (sym c.is_empty.ensures ∙ c.if-is_empty.false) (changed (λ o. o.value) c.take.result c.in-Some.object _ _ _ _ _ _ c.take.ensures.taken c.in-Some.is c.deref_mut.ensures.value c.put.ensures c.read-code.ensures.reads)
