use Rattle.pcache_c.proofs.Changed.{changed}
use Rattle.pcache_c.proofs.Given.{read_good}
use Rattle.pcache_c.proofs.metas.pcache_meta_vary.Goals as goal

pub returns : goal.returns
returns c = read_good _ c.variance_from.result c.in-Ok.variance _ _ _ c.variance_from.ensures c.in-Ok.is (changed (λ o. o.value) c.take.result c.in-Some.object _ _ _ _ _ _ c.take.ensures.taken c.in-Some.is c.deref_mut.ensures.value c.put.ensures c.vary-code.ensures)
