use Rattle.pcache_put.proofs.Words.{None, Some, subst, sym, InHead, IsBegunBefore, MayFailFill, MayFailPiece}
use Rattle.pcache_put.proofs.Why.{began_filled, not_begun, refused_as, why_begun}
use Rattle.pcache_put.proofs.intake.Intake.begin_with.Goals as goal

pub returns-in-Ok-clause-kind : goal.returns-in-Ok-clause-kind
returns-in-Ok-clause-kind g c =
    refused_as c.fill.result.report.end (MayFailFill (g.S.StoreMeaning.state c.begin.new.storage) (g.S.Miss.HandleMiss.write c.in-Ok.filling.writer))
    (MayFailPiece InHead (g.S.StoreMeaning.state c.args.storage.now)) c.fill.ensures.kind
    (λ e may. why_begun (g.S.StoreMeaning.state c.args.storage.now) (g.S.StoreMeaning.state c.begin.new.storage) _ _ c.get.result.now e c.in-Ok.ensures.store c.in-Ok.ensures.write may)

pub returns-in-Ok-clause-whether : goal.returns-in-Ok-clause-whether
returns-in-Ok-clause-whether g c =
    refused_as c.fill.result.report.end (MayFailFill (g.S.StoreMeaning.state c.begin.new.storage) (g.S.Miss.HandleMiss.write c.in-Ok.filling.writer))
    (λ e. IsBegunBefore InHead e c.fill.result.report.began) c.fill.ensures.kind
    (λ e may. subst (IsBegunBefore InHead e) (sym c.fill.ensures.began)
    (subst (λ m. IsBegunBefore InHead e (Some m)) c.get.ensures
    (began_filled (g.S.StoreMeaning.state c.args.storage.now) (g.S.StoreMeaning.state c.begin.new.storage) _ _ c.get.result.now e c.in-Ok.ensures.store c.in-Ok.ensures.write may)))

pub returns-in-Err-clause-whether : goal.returns-in-Err-clause-whether
returns-in-Err-clause-whether g c = rw c.refuses.ensures (not_begun (g.S.StoreMeaning.state c.args.storage.now) c.in-Err.refused c.in-Err.ensures.kind)
