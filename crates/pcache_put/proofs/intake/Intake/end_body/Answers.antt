use Rattle.pcache_put.proofs.Results.{early_result, stored_result}
use Rattle.pcache_put.proofs.intake.Intake.end_body.Goals as goal

pub returns-in-Err-clause-tells : goal.returns-in-Err-clause-tells
returns-in-Err-clause-tells g c = λ pieces f h. early_result (g.C.CachePut.says c.args.self.now.policy) c.args.self.now.size c.args.self.now.parser c.args.filling.fresh_until pieces f _ c.in-Err.ensures.kind c.in-Err.ensures.early h

pub returns-in-Stored-clause-tells : goal.returns-in-Stored-clause-tells
returns-in-Stored-clause-tells g c = λ pieces f h. stored_result (g.C.CachePut.says c.args.self.now.policy) c.args.self.now.size c.args.self.now.parser c.args.filling.fresh_until pieces f c.in_default.ensures.complete h

pub returns-in-Withdrawn-clause-tells : goal.returns-in-Withdrawn-clause-tells
returns-in-Withdrawn-clause-tells g c = λ pieces f h. stored_result (g.C.CachePut.says c.args.self.now.policy) c.args.self.now.size c.args.self.now.parser c.args.filling.fresh_until pieces f c.in_default.ensures.complete h
