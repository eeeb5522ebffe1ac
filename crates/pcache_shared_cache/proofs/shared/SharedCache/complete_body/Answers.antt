use Rattle.pcache_cache.specs.Fetching.{fetch_begun}
use Rattle.pcache_cache.specs.Looking.{body_found}
use Rattle.pcache_shared_cache.specs.Calls.{FindsBody}
use Rattle.pcache_shared_cache.proofs.Words.{ap, refl, subst, ◌∙◌, Request, Seated}
use Rattle.pcache_shared_cache.proofs.FoundAlone.{leads_nowhere, some_found}
use Rattle.pcache_shared_cache.proofs.Logs.{goes_by, lent}
use Rattle.pcache_shared_cache.proofs.shared.SharedCache.complete_body.Goals as goal

pub adds-requires-clause-leads : goal.adds-requires-clause-leads
adds-requires-clause-leads g c =
    let p = c.part-2.inside.cache in
    (p, c.part-2.invariant, leads_nowhere p p refl)

pub returns-in-Ok-clause-goes : goal.returns-in-Ok-clause-goes
returns-in-Ok-clause-goes g c =
    let p = c.part-2.inside.cache in
    let r = c.request.inside.request.cache in
    let row : FindsBody c.in-Ok.found r c.begin_fetch.new.request.fetch p p =
    record { found = some_found c.in-Ok.found (body_found r.key p.store p.purges) (c.in-Ok.ensures.found ∙ ap (λ (x : Request). body_found x.key p.store p.purges) c.begin_fetch.ensures.cache); noted = c.begin_fetch.ensures.fetch; same = refl } in
    let here = lent c.args.self.now c.part.result.now c.part.ensures.limits c.part.ensures.place c.place.ensures.place c.lock-guard.ensures.place c.lock-guard.ensures.limits (c.part-2.view_is ∙ c.deref_mut-part.ensures.value) in
    goes_by c.args.self.now g.K.Mark.names c.part-2.inside.log.place c.args.request.now.place c.request.inside.sight.log c.args.request.now.seen c.adds.new.sight.log p p here (ap (λ (s : Seated). s.seen) c.request.view_is)
    (c.adds.ensures.moves p c.part-2.invariant) (subst (λ (s : Seated). FindsBody c.in-Ok.found s.cache c.begin_fetch.new.request.fetch p p) c.request.view_is row)

pub returns-clause-goes : goal.returns-clause-goes
returns-clause-goes g c =
    let p = c.part-2.inside.cache in
    let here = lent c.args.self.now c.part.result.now c.part.ensures.limits c.part.ensures.place c.place.ensures.place c.lock-guard.ensures.place c.lock-guard.ensures.limits (c.part-2.view_is ∙ c.deref_mut-part.ensures.value) in
    goes_by c.args.self.now g.K.Mark.names c.part-2.inside.log.place c.args.request.now.place c.request.inside.sight.log c.args.request.now.seen c.adds.new.sight.log p p here (ap (λ (s : Seated). s.seen) c.request.view_is)
    (c.adds.ensures.moves p c.part-2.invariant) (record { found = tt; noted = c.begin_fetch.ensures.fetch ∙ ap (λ (s : Seated). fetch_begun s.cache.key p.purges) c.request.view_is; same = refl })
