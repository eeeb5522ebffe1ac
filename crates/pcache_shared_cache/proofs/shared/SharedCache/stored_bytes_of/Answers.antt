use Rattle.pcache_shared_cache.proofs.Words.{refl, ◌∙◌}
use Rattle.pcache_shared_cache.proofs.Logs.{sees_by, lent}
use Rattle.pcache_shared_cache.proofs.shared.SharedCache.stored_bytes_of.Goals as goal

pub returns-clause-sees : goal.returns-clause-sees
returns-clause-sees g c =
    let p = c.part.inside.cache in
    let here = lent c.args.self.now c.part-lock.result.now c.part-lock.ensures.limits c.part-lock.ensures.place c.place.ensures c.lock-guard.ensures.place c.lock-guard.ensures.limits (c.part.view_is ∙ c.deref_mut-part.ensures.value) in
    sees_by c.args.self.now g.K.Mark.names c.part.inside.log.place c.args.sight.now.place c.args.sight.now.log c.args.sight.now.log c.shows.new.sight.log p here refl (c.shows.ensures.looks p c.part.invariant) c.stored_bytes.ensures.value
