use Rattle.pcache_request.specs.Alone.{MayEndAlone}
use Rattle.pcache_shared_cache.proofs.Words.{inl, inr, subst, ◌∙◌, EndsRequest, Request}
use Rattle.pcache_shared_cache.proofs.Led.{request_ended}
use Rattle.pcache_shared_cache.proofs.Logs.{goes_by, lent}
use Rattle.pcache_shared_cache.proofs.shared.SharedCache.end.Goals as goal

pub adds-requires-clause-leads : goal.adds-requires-clause-leads
adds-requires-clause-leads g c = (c.part.inside.cache, c.part.invariant, request_ended c.end-released.ensures.takes)

pub returns-then-may_end_alone-clause-ends : goal.returns-then-may_end_alone-clause-ends
returns-then-may_end_alone-clause-ends g c = inl (subst MayEndAlone c.into_both-request.ensures.request (c.may_end_alone.ensures.0 c.if-may_end_alone.true), c.into_both-request.ensures.seen)

pub returns-clause-ends : goal.returns-clause-ends
returns-clause-ends g c =
    let p = c.part.inside.cache in
    let q = c.end-released.new.self in
    let here = lent c.args.self.now c.part-lock.result.now c.part-lock.ensures.limits c.part-lock.ensures.place c.place.ensures.place c.lock-guard.ensures.place c.lock-guard.ensures.limits (c.part.view_is ∙ c.deref_mut-part.ensures.value) in
    inr (goes_by c.args.self.now g.K.Mark.names c.part.inside.log.place c.args.request.place c.into_both-request.result.1.log c.args.request.seen c.adds.new.sight.log p q here c.into_both-request.ensures.seen
    (c.adds.ensures.moves p c.part.invariant) (subst (λ (x : Request). EndsRequest c.end-released.result x p q) c.into_both-request.ensures.request c.end-released.ensures.takes))
