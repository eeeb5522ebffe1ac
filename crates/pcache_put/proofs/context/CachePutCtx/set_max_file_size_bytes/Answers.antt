use Rattle.pcache_put.proofs.Results.{taken_limited}
use Rattle.pcache_put.proofs.Words.{stage_of}
use Rattle.pcache_put.proofs.context.CachePutCtx.set_max_file_size_bytes.Goals as goal

pub returns-clause-taken : goal.returns-clause-taken
returns-clause-taken g c = rw (← c.self.view_is, c.new.ensures) (λ pieces is h.
    taken_limited (g.C.CachePut.says c.self.inside.intake.policy) c.self.inside.intake.size c.args.max_file_size_bytes c.self.inside.intake.parser (stage_of g.S.Miss.HandleMiss.write g.S.Miss.HandleMiss.entry_number c.self.inside.stage) pieces is h)
