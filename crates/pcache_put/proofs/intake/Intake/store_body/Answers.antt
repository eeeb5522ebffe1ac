use Rattle.pcache_put.specs.declared.reading.ReadPiece.TheVariants.{Brings}
use Rattle.pcache_put.proofs.Words.{Option, None, Some, BodyDue, stage_of, Filled, TakenBy, filled_wrote}
use Rattle.pcache_put.proofs.intake.Intake.store_body.Goals as goal

pub returns-in-Brings-clause-taken : goal.returns-in-Brings-clause-taken
returns-in-Brings-clause-taken g c = rw c.in-Brings.is (λ pieces f h.
    elim f as (λ (x : Option Filled). BodyDue (g.C.CachePut.says c.args.self.now.policy) c.args.self.now.size c.args.self.now.parser c.args.filling.fresh_until pieces x (Brings c.in-Brings.part)
    → TakenBy (g.C.CachePut.says c.args.self.now.policy) c.fill.new.self.size c.fill.new.self.parser (stage_of g.S.Miss.HandleMiss.write g.S.Miss.HandleMiss.entry_number c.fill.result.stage) pieces (filled_wrote c.fill.result.report.wrote x)) [
      | None ↦ λ t. absurd t
      | Some m ↦ λ t. c.fill.ensures.taken pieces m.meta m.body t.2 t.0 t.1
    ] h)
