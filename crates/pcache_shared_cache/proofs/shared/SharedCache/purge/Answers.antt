use Rattle.pcache_shared_cache.proofs.Words.{ap, subst, ◌∙◌, Purges, Seated}
use Rattle.pcache_shared_cache.proofs.Led.{purged}
use Rattle.pcache_shared_cache.proofs.Logs.{goes_by, lent}
use Rattle.pcache_shared_cache.proofs.shared.SharedCache.purge.Goals as goal

pub adds-requires-clause-leads : goal.adds-requires-clause-leads
adds-requires-clause-leads g c = (c.part-2.inside.cache, c.part-2.invariant, purged c.purge-result.ensures.takes)

pub returns-clause-goes : goal.returns-clause-goes
returns-clause-goes g c =
    let p = c.part-2.inside.cache in
    let q = c.purge-result.new.self in
    let here = lent c.args.self.now c.part.result.now c.part.ensures.limits c.part.ensures.place c.place.ensures.place c.lock-guard.ensures.place c.lock-guard.ensures.limits (c.part-2.view_is ∙ c.deref_mut-part.ensures.value) in
    goes_by c.args.self.now g.K.Mark.names c.part-2.inside.log.place c.args.request.now.place c.request.inside.sight.log c.args.request.now.seen c.adds.new.sight.log p q here (ap (λ (s : Seated). s.seen) c.request.view_is)
    (c.adds.ensures.moves p c.part-2.invariant) (subst (λ (s : Seated). Purges c.purge-result.result s.cache c.purge-result.new.request.cache p q) c.request.view_is c.purge-result.ensures.takes)
