use Rattle.pcache_put.proofs.Words.{Some, sym, subst, BodyTaken, limit_of, filled_wrote}
use Rattle.pcache_put.proofs.Bodies.{all_written, overruns}
use Rattle.pcache_put.proofs.Why.{why_filling}
use Rattle.pcache_put.proofs.intake.Intake.fill.Goals as goal

pub returns-in-Ok-clause-taken : goal.returns-in-Ok-clause-taken
returns-in-Ok-clause-taken g c = λ pieces meta body fresh due counts.
    rw c.goes_on.ensures (subst (λ w. BodyTaken (g.C.CachePut.says c.args.self.now.policy) c.write_part.new.size c.args.self.now.parser c.args.filling.fresh_until pieces (filled_wrote w (Some (record { meta = meta; body = body })))) (sym c.in-Ok.ensures.wrote)
    (all_written (g.C.CachePut.says c.args.self.now.policy) c.args.self.now.size c.write_part.new.size c.args.self.now.parser meta pieces body c.args.part c.args.filling.fresh_until c.in-Ok.ensures.size c.in-Ok.ensures.allowed fresh due counts))

pub returns-in-Err-clause-taken : goal.returns-in-Err-clause-taken
returns-in-Err-clause-taken g c = λ pieces meta body fresh due counts.
    rw c.refuses.ensures (why_filling (g.C.CachePut.says c.args.self.now.policy) (limit_of c.write_part.new.size) (g.S.StoreMeaning.state c.args.storage.now) (g.S.Miss.HandleMiss.write c.args.filling.writer) c.in-Err.refused pieces c.in-Err.ensures.kind
    (λ e. overruns (g.C.CachePut.says c.args.self.now.policy) c.args.self.now.size c.write_part.new.size c.args.self.now.parser meta pieces body c.args.part c.in-Err.ensures.size (c.in-Err.ensures.over e) due counts))
