use Rattle.pcache_shared_cache.proofs.Words.{ap, refl, sym, ◌∙◌, Seated}
use Rattle.pcache_shared_cache.proofs.Logs.{lent, sees_by}
use Rattle.pcache_shared_cache.proofs.shared.SharedCache.begin_fetch.Goals as goal

pub returns-clause-sees : goal.returns-clause-sees
returns-clause-sees g c =
    let p = c.part.inside.cache in
    let here = lent c.args.self.now c.part-lock.result.now c.part-lock.ensures.limits c.part-lock.ensures.place (c.place.ensures.place ∙ ap (λ (s : Seated). s.place) (sym c.request.view_is)) c.lock-guard.ensures.place c.lock-guard.ensures.limits (c.part.view_is ∙ c.deref_mut-part.ensures.value) in
    rw (← c.request.view_is) (sees_by c.args.self.now g.K.Mark.names c.part.inside.log.place c.request.inside.sight.place c.request.inside.sight.log c.request.inside.sight.log c.shows.new.sight.log p here refl (c.shows.ensures.looks p c.part.invariant) c.begin_fetch.ensures.fetch)
