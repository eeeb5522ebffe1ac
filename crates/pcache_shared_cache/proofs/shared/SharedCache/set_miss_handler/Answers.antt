use Rattle.pcache_shared_cache.proofs.Words.{ap, subst, ◌∙◌, BeginsWrite, Seated}
use Rattle.pcache_shared_cache.proofs.Led.{begun}
use Rattle.pcache_shared_cache.proofs.Logs.{goes_by, lent}
use Rattle.pcache_shared_cache.proofs.shared.SharedCache.set_miss_handler.Goals as goal

pub adds-requires-clause-leads : goal.adds-requires-clause-leads
adds-requires-clause-leads g c = (c.part-2.inside.cache, c.part-2.invariant, begun c.set_miss_handler-result.ensures.takes)

pub returns-clause-goes : goal.returns-clause-goes
returns-clause-goes g c =
    let p = c.part-2.inside.cache in
    let q = c.set_miss_handler-result.new.self in
    let here = lent c.args.self.now c.part.result.now c.part.ensures.limits c.part.ensures.place c.place.ensures.place c.lock-guard.ensures.place c.lock-guard.ensures.limits (c.part-2.view_is ∙ c.deref_mut-part.ensures.value) in
    goes_by c.args.self.now g.K.Mark.names c.part-2.inside.log.place c.args.request.now.place c.request.inside.sight.log c.args.request.now.seen c.adds.new.sight.log p q here (ap (λ (s : Seated). s.seen) c.request.view_is)
    (c.adds.ensures.moves p c.part-2.invariant) (subst (λ (s : Seated). BeginsWrite s.fetch c.set_miss_handler-result.result s.cache c.set_miss_handler-result.new.request.cache p q) c.request.view_is c.set_miss_handler-result.ensures.takes)
