use Rattle.pcache_put.proofs.Words.{sym, subst, ap, ◌∙◌, IfOk, err_from_is_err_and, IsBegun, IsVerdict, limit_of, Brought, parts_of}
use Rattle.pcache_put.proofs.Heads.{opens_if, bad_head, goes_unfinished}
use Rattle.pcache_put.proofs.intake.Intake.read_opening.Goals as goal

pub returns-in_err-parts-clause-invalid : goal.returns-in_err-parts-clause-invalid
returns-in_err-parts-clause-invalid g c =
    let p = err_from_is_err_and c.from_residual.result c.from_residual.ensures.1 in
    rw (p.1, p.2) (λ e pieces h. bad_head c.args.self.now.size c.args.self.now.parser pieces (record { bytes = c.args.piece.now; now = c.args.now }) (c.in_err-parts.ensures.invalid e) h)

pub returns-in-Some-clause-opened : goal.returns-in-Some-clause-opened
returns-in-Some-clause-opened g c =
    opens_if (g.C.CachePut.says c.args.self.now.policy) c.args.self.now.size c.args.self.now.parser c.take_piece.new.self (record { bytes = c.args.piece.now; now = c.args.now }) (parts_of c.in_ok-parts.parts) c.in-Some.header c.open.result c.in_ok-parts.ensures.joined c.in_ok-parts.ensures.gives
    (ap (λ (b : Brought). b.head) (sym c.from_parts-head.ensures) ∙ c.in-Some.is)
    (subst (λ (b : Brought). IfOk c.open.result (IsBegun (IsVerdict (g.C.CachePut.says c.args.self.now.policy) (limit_of c.args.self.now.size) c.in-Some.header c.args.now) b.body)) c.from_parts-head.ensures c.open.ensures.begun)

pub returns-in-None-clause-opened : goal.returns-in-None-clause-opened
returns-in-None-clause-opened g c = λ pieces h.
    goes_unfinished c.args.self.now.size c.args.self.now.parser c.take_piece.new.self pieces (record { bytes = c.args.piece.now; now = c.args.now }) (parts_of c.in_ok-parts.parts) c.in_ok-parts.ensures.joined c.in_ok-parts.ensures.gives
    (ap (λ (b : Brought). b.head) (sym c.from_parts-head.ensures) ∙ c.in-None.is) h
