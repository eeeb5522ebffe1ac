use Rattle.pcache_request.specs.Replacing.{weighed_each}
use Rattle.pcache_put.specs.Steps.{tracked_before_put}
use Rattle.pcache_put.specs.declared.report.PutReport.{PutReport}
use Rattle.pcache_put.proofs.Words.{◌≡◌, ◌∙◌, ap, sym, subst, Key, HasNoBody, IfWithdrawn, stage_of, Put, InHead, InBody, HasDeclined, IsOver}
use Rattle.pcache_put.proofs.NoBody.{put_none}
use Rattle.pcache_put.proofs.Results.{head_result, declined_result, over_result}
use Rattle.pcache_put.proofs.context.CachePutCtx.end_put_replacing.Goals as goal

pub returns-in-Head-clause-tells : goal.returns-in-Head-clause-tells
returns-in-Head-clause-tells g c =
    let at : c.args.self.now.stage ≡ InHead = ap (λ (p : Put g.row.C.Denot). p.stage) (sym c.self.view_is) ∙ ap (stage_of g.S.Miss.HandleMiss.write g.S.Miss.HandleMiss.entry_number) (sym c.take_stage.ensures.taken ∙ c.in-Head.is) in
    rw (c.leave.ensures.report, c.new.ensures) (λ pieces f h. head_result (g.C.CachePut.says c.args.self.now.policy) c.args.self.now.size c.args.self.now.parser c.args.self.now.stage pieces f at h)

pub returns-in-Declined-clause-tells : goal.returns-in-Declined-clause-tells
returns-in-Declined-clause-tells g c =
    let at : c.args.self.now.stage ≡ HasDeclined c.in-Declined.reason = ap (λ (p : Put g.row.C.Denot). p.stage) (sym c.self.view_is) ∙ ap (stage_of g.S.Miss.HandleMiss.write g.S.Miss.HandleMiss.entry_number) (sym c.take_stage.ensures.taken ∙ c.in-Declined.is) in
    rw c.leave-in-Declined.ensures.report (λ pieces f h. declined_result (g.C.CachePut.says c.args.self.now.policy) c.args.self.now.size c.args.self.now.parser c.args.self.now.stage c.in-Declined.reason pieces f at h)

pub returns-in-Over-clause-tells : goal.returns-in-Over-clause-tells
returns-in-Over-clause-tells g c =
    let at : c.args.self.now.stage ≡ IsOver c.in-Over.kind = ap (λ (p : Put g.row.C.Denot). p.stage) (sym c.self.view_is) ∙ ap (stage_of g.S.Miss.HandleMiss.write g.S.Miss.HandleMiss.entry_number) (sym c.take_stage.ensures.taken ∙ c.in-Over.is) in
    rw (c.leave-in-Over.ensures.report, c.new-in-Over.ensures) (λ pieces f h. over_result (g.C.CachePut.says c.args.self.now.policy) c.args.self.now.size c.args.self.now.parser c.args.self.now.stage c.in-Over.kind pieces f at h)

pub returns-in-Body-clause-withdrawn : goal.returns-in-Body-clause-withdrawn
returns-in-Body-clause-withdrawn g c = λ sure.
    let left = g.S.StoreMeaning.state c.end_body-end.new.storage in
    let writer = c.in-Body.filling.writer in
    let stage = InBody (g.S.Miss.HandleMiss.write writer) (g.S.Miss.HandleMiss.entry_number writer) c.in-Body.filling.fresh_until in
    let none = put_none c.self.inside.intake.key c.self.inside.intake.parser (weighed_each c.args.entering.weight (g.S.StoreMeaning.finishes c.args.storage.now)) (g.E.EvictionManager.limits c.args.eviction.now) (g.S.StoreMeaning.state c.args.storage.now) left (tracked_before_put c.self.inside.intake.key c.args.entering.replaced c.end_body-end.result.0 (g.E.EvictionManager.tracked c.args.eviction.now)) (g.E.EvictionManager.tracked c.end_body-end.new.eviction) g.S.StoreMeaning.guarantees sure stage c.end_body-end.result.0 c.end_body-end.ensures.ends in
    subst (λ (told : PutReport). IfWithdrawn told.end (HasNoBody left c.args.self.now.key)) (sym c.leave-in-Body.ensures.report)
    (subst (λ (k : Key). IfWithdrawn c.end_body-end.result.0 (HasNoBody left k)) (ap (λ (p : Put g.row.C.Denot). p.key) c.self.view_is) none)
