use Rattle.pcache_put.proofs.Results.{taken_nothing}
use Rattle.pcache_put.proofs.context.CachePutCtx.new.Goals as goal

pub returns-clause-taken : goal.returns-clause-taken
returns-clause-taken g c = rw c.new.ensures.empty (taken_nothing (g.C.CachePut.says c.args.policy))
