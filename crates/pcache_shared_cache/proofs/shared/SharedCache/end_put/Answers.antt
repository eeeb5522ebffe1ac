use Rattle.pcache_shared_cache.proofs.Words.{ℕ, Option, subst, ◌∙◌, DropsLeft}
use Rattle.pcache_shared_cache.proofs.Logs.{goes_by, lent}
use Rattle.pcache_shared_cache.proofs.Pushed.{left_dropped}
use Rattle.pcache_shared_cache.proofs.shared.SharedCache.end_put.Goals as goal

pub adds-requires-clause-leads : goal.adds-requires-clause-leads
adds-requires-clause-leads g c = (c.part.inside.cache, c.part.invariant, left_dropped c.drop_left.ensures.takes)

pub returns-clause-goes : goal.returns-clause-goes
returns-clause-goes g c =
    let p = c.part.inside.cache in
    let q = c.drop_left.new.self in
    let here = lent c.args.self.now c.part-lock.result.now c.part-lock.ensures.limits c.part-lock.ensures.place c.place.ensures.place c.lock-guard.ensures.place c.lock-guard.ensures.limits (c.part.view_is ∙ c.deref_mut-part.ensures.value) in
    goes_by c.args.self.now g.K.Mark.names c.part.inside.log.place c.args.put.place c.into_both-left.result.1.log c.args.put.seen c.adds.new.sight.log p q here c.into_both-left.ensures.seen
    (c.adds.ensures.moves p c.part.invariant) (subst (λ (w : Option ℕ). DropsLeft w p q) c.into_both-left.ensures.left c.drop_left.ensures.takes)
