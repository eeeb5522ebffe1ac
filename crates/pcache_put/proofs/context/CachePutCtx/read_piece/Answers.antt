use Rattle.pcache_put.proofs.Words.{◌≡◌, ◌∙◌, inl, inr, ap, sym, Piece, stage_of, Put}
use Rattle.pcache_put.proofs.Halves.{reads_declined, reads_over}
use Rattle.pcache_put.proofs.context.CachePutCtx.read_piece.Goals as goal

pub returns-in-Declined-clause-read : goal.returns-in-Declined-clause-read
returns-in-Declined-clause-read g c =
    let says = g.C.CachePut.says c.args.self.now.policy in
    let p : Piece = record { bytes = c.args.piece.now; now = c.args.now } in
    let of = stage_of g.S.Miss.HandleMiss.write g.S.Miss.HandleMiss.entry_number in
    let here : c.args.self.now.stage ≡ of c.self.inside.stage = ap (λ (q : Put g.row.C.Denot). q.stage) (sym c.self.view_is) in
    elim c.in-Declined.is [
      | inl r ↦ reads_declined says c.args.self.now p r.0 (here ∙ ap of r.1)
      | inr k ↦ reads_over says c.args.self.now p k.0 (here ∙ ap of k.1)
    ]
