use Rattle.pcache_put.specs.declared.reading.ReadPiece.TheVariants.{Refused}
use Rattle.pcache_put.proofs.Words.{◌++◌, ◌∷◌, [], Option, None, Some, Piece, BodyDue, BodyTaken, Filled, limit_of}
use Rattle.pcache_put.proofs.Why.{why_body}
use Rattle.pcache_put.proofs.intake.Intake.read_more.Goals as goal

pub returns-in-Err-clause-due : goal.returns-in-Err-clause-due
returns-in-Err-clause-due g c = λ pieces now fresh_until f h.
    let p : Piece = record { bytes = c.args.piece.now; now = now } in
    let says = g.C.CachePut.says c.args.self.now.policy in
    elim f as (λ (x : Option Filled). BodyTaken says c.args.self.now.size c.args.self.now.parser fresh_until pieces x → BodyDue says c.args.self.now.size c.read_body.new.self.parser fresh_until (pieces ++ p ∷ []) x (Refused c.in-Err.refused)) [
      | None ↦ λ t. absurd t
      | Some m ↦ λ t. why_body says (limit_of c.args.self.now.size) c.args.self.now.parser _ c.in-Err.refused (pieces ++ p ∷ []) c.in-Err.ensures.kind (λ e. c.in-Err.ensures.invalid e pieces m.meta m.body t.0) t.0.stands
    ] h
