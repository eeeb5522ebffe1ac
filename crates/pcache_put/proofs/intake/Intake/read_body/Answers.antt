use Rattle.pcache_put.proofs.Words.{Option, Result, Ok, ap, ◌∙◌, err_from_is_err_and, ErrorType, BodyPart, Brought, limit_of, parts_of}
use Rattle.pcache_put.proofs.Bodies.{next_due, no_head, nothing_after, whole_at}
use Rattle.pcache_put.proofs.intake.Intake.read_body.Goals as goal

pub returns-in_err-parts-clause-invalid : goal.returns-in_err-parts-clause-invalid
returns-in_err-parts-clause-invalid g c =
    let p = err_from_is_err_and c.from_residual.result c.from_residual.ensures.1 in
    rw (p.1, p.2) (λ e pieces meta body h. no_head (g.C.CachePut.says c.args.self.now.policy) (limit_of c.args.self.now.size) c.args.self.now.parser meta pieces body c.args.piece.now (c.in_err-parts.ensures.invalid e) h)

pub returns-clause-due : goal.returns-clause-due
returns-clause-due g c = rw c.from_parts-brought.ensures (λ pieces now meta body h.
    next_due (g.C.CachePut.says c.args.self.now.policy) (limit_of c.args.self.now.size) c.args.self.now.parser c.take_piece.new.self meta pieces body (record { bytes = c.args.piece.now; now = now }) (parts_of c.in_ok-parts.parts) c.in_ok-parts.ensures.joined c.in_ok-parts.ensures.gives h)

pub returns-in_err-parts-clause-whole : goal.returns-in_err-parts-clause-whole
returns-in_err-parts-clause-whole g c = λ done. absurd (cc (c.in_err-parts.ensures.whole (whole_at c.args.self.now.parser done)))

pub returns-clause-whole : goal.returns-clause-whole
returns-clause-whole g c = λ done.
    let ok : Option BodyPart → Result (Option BodyPart) ErrorType = Ok in
    ap ok (ap (λ (b : Brought). b.body) c.from_parts-brought.ensures ∙ nothing_after c.args.self.now.parser c.args.piece.now (parts_of c.in_ok-parts.parts) done c.in_ok-parts.ensures.gives)
