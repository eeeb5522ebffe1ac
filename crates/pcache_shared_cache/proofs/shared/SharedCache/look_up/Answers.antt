use Rattle.pcache_shared_cache.specs.Calls.{LooksUpNoted}
use Rattle.pcache_shared_cache.proofs.Words.{ap, subst, ◌∙◌, Seated}
use Rattle.pcache_shared_cache.proofs.Led.{looked}
use Rattle.pcache_shared_cache.proofs.Logs.{goes_by, lent}
use Rattle.pcache_shared_cache.proofs.shared.SharedCache.look_up.Goals as goal

pub adds-requires-clause-leads : goal.adds-requires-clause-leads
adds-requires-clause-leads g c = (c.part-2.inside.cache, c.part-2.invariant, looked c.cache_lookup_without_policy-result.ensures.takes)

pub returns-clause-goes : goal.returns-clause-goes
returns-clause-goes g c =
    let p = c.part-2.inside.cache in
    let q = c.cache_lookup_without_policy-result.new.self in
    let here = lent c.args.self.now c.part.result.now c.part.ensures.limits c.part.ensures.place c.place.ensures.place c.lock-guard.ensures.place c.lock-guard.ensures.limits (c.part-2.view_is ∙ c.deref_mut-part.ensures.value) in
    goes_by c.args.self.now g.K.Mark.names c.part-2.inside.log.place c.args.request.now.place c.request.inside.sight.log c.args.request.now.seen c.adds.new.sight.log p q here (ap (λ (s : Seated). s.seen) c.request.view_is)
    (c.adds.ensures.moves p c.part-2.invariant) (subst (λ (s : Seated). LooksUpNoted c.cache_lookup_without_policy-result.result c.args.now s.cache c.cache_lookup_without_policy-result.new.request.cache c.cache_lookup_without_policy-result.new.request.fetch p q) c.request.view_is (record { looks = c.cache_lookup_without_policy-result.ensures.takes; noted = c.cache_lookup_without_policy-result.ensures.fetch }))
