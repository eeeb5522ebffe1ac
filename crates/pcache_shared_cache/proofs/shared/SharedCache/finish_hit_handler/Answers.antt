use Rattle.pcache_shared_cache.proofs.Words.{ap, subst, ◌∙◌, EndsHit, Seated}
use Rattle.pcache_shared_cache.proofs.Led.{hit_ended}
use Rattle.pcache_shared_cache.proofs.Logs.{goes_by, lent}
use Rattle.pcache_shared_cache.proofs.shared.SharedCache.finish_hit_handler.Goals as goal

pub adds-requires-clause-leads : goal.adds-requires-clause-leads
adds-requires-clause-leads g c = (c.part.inside.cache, c.part.invariant, hit_ended c.finish_hit_handler-result.ensures.takes)

pub returns-clause-goes : goal.returns-clause-goes
returns-clause-goes g c alone =
    let p = c.part.inside.cache in
    let q = c.finish_hit_handler-result.new.self in
    let here = lent c.args.self.now c.part-lock.result.now c.part-lock.ensures.limits c.part-lock.ensures.place c.place.ensures.place c.lock-guard.ensures.place c.lock-guard.ensures.limits (c.part.view_is ∙ c.deref_mut-part.ensures.value) in
    goes_by c.args.self.now g.K.Mark.names c.part.inside.log.place c.args.request.now.place c.request.inside.sight.log c.args.request.now.seen c.adds.new.sight.log p q here (ap (λ (s : Seated). s.seen) c.request.view_is)
    (c.adds.ensures.moves p c.part.invariant) (subst (λ (s : Seated). EndsHit c.finish_hit_handler-result.result s.cache c.finish_hit_handler-result.new.request.cache p q) c.request.view_is c.finish_hit_handler-result.ensures.takes)
