use Rattle.pcache_put.proofs.Bodies.{begun_as}
use Rattle.pcache_put.proofs.intake.Intake.store_head.Goals as goal

pub returns-in-Begins-clause-begun : goal.returns-in-Begins-clause-begun
returns-in-Begins-clause-begun g c = λ pieces opened.
    begun_as (g.C.CachePut.says c.args.self.now.policy) c.args.self.now.size c.args.self.now.parser c.in-Begins.meta pieces c.in-Begins.part c.args.read c.begin_with.result.report.began c.in-Begins.is c.begin_with.ensures.begun opened
