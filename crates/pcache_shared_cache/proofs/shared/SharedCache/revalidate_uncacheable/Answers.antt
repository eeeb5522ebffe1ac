use Rattle.pcache_meta.specs.Header.{shown}
use Rattle.pcache_shared_cache.proofs.Words.{ap, subst, ◌∙◌, ServesUncacheable, Seated}
use Rattle.pcache_shared_cache.proofs.Led.{served_on}
use Rattle.pcache_shared_cache.proofs.Logs.{goes_by, lent}
use Rattle.pcache_shared_cache.proofs.shared.SharedCache.revalidate_uncacheable.Goals as goal

pub adds-requires-clause-leads : goal.adds-requires-clause-leads
adds-requires-clause-leads g c = (c.part-2.inside.cache, c.part-2.invariant, served_on c.revalidate_uncacheable-result.ensures.takes)

pub returns-clause-goes : goal.returns-clause-goes
returns-clause-goes g c =
    let p = c.part-2.inside.cache in
    let q = c.revalidate_uncacheable-result.new.self in
    let here = lent c.args.self.now c.part.result.now c.part.ensures.limits c.part.ensures.place c.place.ensures.place c.lock-guard.ensures.place c.lock-guard.ensures.limits (c.part-2.view_is ∙ c.deref_mut-part.ensures.value) in
    goes_by c.args.self.now g.K.Mark.names c.part-2.inside.log.place c.args.request.now.place c.request.inside.sight.log c.args.request.now.seen c.adds.new.sight.log p q here (ap (λ (s : Seated). s.seen) c.request.view_is)
    (c.adds.ensures.moves p c.part-2.invariant) (subst (λ (s : Seated). ServesUncacheable c.revalidate_uncacheable-result.result (shown c.args.header) c.args.reason s.cache c.revalidate_uncacheable-result.new.request.cache p q) c.request.view_is c.revalidate_uncacheable-result.ensures.takes)
