use Rattle.pcache_put.proofs.Words.{◌≡◌, ◌∙◌, ap, sym, stage_of, InHead}
use Rattle.pcache_put.proofs.Halves.{head_read}
use Rattle.pcache_put.proofs.context.CachePutCtx.store_piece.Goals as goal

pub returns-in-Head-clause-last : goal.returns-in-Head-clause-last
returns-in-Head-clause-last g c =
    let of = stage_of g.S.Miss.HandleMiss.write g.S.Miss.HandleMiss.entry_number in
    let at : of c.self.inside.stage ≡ InHead = ap of (sym c.take_stage.ensures.taken ∙ c.in-Head.is) in
    rw (← c.self.view_is, c.stand.ensures.report) (λ pieces f h.
    c.store_head-taken.ensures.last pieces (head_read (g.C.CachePut.says c.self.inside.intake.policy) c.self.inside.intake.size c.self.inside.intake.parser (of c.self.inside.stage) pieces f c.args.read at h).0)
