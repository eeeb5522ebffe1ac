use Rattle.std.proofs.Common.{◌≡◌, ◌∙◌, Some, ap, sym, subst}
use Rattle.pcache_request.proofs.NoBody.{body_none}
use Rattle.pcache_request.specs.NoBody.{HasNoBodyFor, IfWithdrawn}
use Rattle.pcache_request.specs.Requests.{Request}
use Rattle.pcache_request.specs.declared.cache.report.WriteReport.{WriteReport}
use Rattle.pcache_request.proofs.cache.HttpCache.end_write_replacing.Goals as goal

pub returns-clause-withdrawn : goal.returns-clause-withdrawn
returns-clause-withdrawn g c = λ sure.
    let left = g.S.StoreMeaning.state c.end_writer-end.new.storage in
    let at : c.args.self.now.key ≡ Some c.in-Some.key = ap (λ (r : Request). r.key) (sym c.self.view_is) ∙ c.in-Some.is in
    subst (λ (how : WriteReport). IfWithdrawn how.end (HasNoBodyFor left c.args.self.now.key)) (sym c.new-2.ensures)
    (subst (λ o. IfWithdrawn c.end_writer-end.result.end (HasNoBodyFor left o)) (sym at) (body_none _ c.in-Some.key _ _ _ _ _ _ left _ _ _ sure c.end_writer-end.result.end c.end_writer-end.ensures.end))
