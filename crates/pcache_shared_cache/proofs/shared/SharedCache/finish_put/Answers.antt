use Rattle.pcache_cache.proofs.Ways.{each_put_end}
use Rattle.pcache_shared_cache.proofs.Words.{ap, inl, inr, refl, sym, ◌∙◌, SeatedPut}
use Rattle.pcache_shared_cache.proofs.InPart.{not_so}
use Rattle.pcache_shared_cache.proofs.Led.{stayed}
use Rattle.pcache_shared_cache.proofs.Logs.{goes_by, lent}
use Rattle.pcache_shared_cache.proofs.Pushed.{put_ended}
use Rattle.pcache_shared_cache.proofs.shared.SharedCache.finish_put.Goals as goal

pub adds-requires-clause-leads : goal.adds-requires-clause-leads
adds-requires-clause-leads g c = let p = c.part-2.inside.cache in (p, c.part-2.invariant, stayed p p refl)

pub returns-then-not-may_end_put-clause-goes : goal.returns-then-not-may_end_put-clause-goes
returns-then-not-may_end_put-clause-goes g c =
    let p = c.part-2.inside.cache in
    let here = lent c.args.self.now c.part.result.now c.part.ensures.limits c.part.ensures.place (c.place.ensures.place ∙ ap (λ (s : SeatedPut g.row.C.Denot). s.place) (sym c.put.view_is)) c.lock-guard.ensures.place c.lock-guard.ensures.limits (c.part-2.view_is ∙ c.deref_mut-part.ensures.value) in
    rw (← c.put.view_is) (goes_by c.args.self.now g.K.Mark.names c.part-2.inside.log.place c.put.inside.sight.place c.put.inside.sight.log c.put.inside.sight.log c.adds.new.sight.log p p here refl (c.adds.ensures.moves p c.part-2.invariant)
    (inr ((λ may. not_so c.may_end_put.result c.if-not-may_end_put.true c.may_end_put.ensures may), record { failed = tt; kind = c.new.ensures; put = refl; same = refl })))

pub adds-requires-2-clause-leads : goal.adds-requires-2-clause-leads
adds-requires-2-clause-leads g c = (c.part-2.inside.cache, c.part-2.invariant, put_ended c.finish_put-outcome.ensures.takes)

pub returns-clause-goes : goal.returns-clause-goes
returns-clause-goes g c =
    let p = c.part-2.inside.cache in
    let q = c.finish_put-outcome.new.self in
    let may = c.may_end_put.ensures.0 c.if-not-may_end_put.false in
    let here = lent c.args.self.now c.part.result.now c.part.ensures.limits c.part.ensures.place (c.place.ensures.place ∙ ap (λ (s : SeatedPut g.row.C.Denot). s.place) (sym c.put.view_is)) c.lock-guard.ensures.place c.lock-guard.ensures.limits (c.part-2.view_is ∙ c.deref_mut-part.ensures.value) in
    rw (← c.put.view_is) (goes_by c.args.self.now g.K.Mark.names c.part-2.inside.log.place c.put.inside.sight.place c.put.inside.sight.log c.put.inside.sight.log c.adds-2.new.sight.log p q here refl (c.adds-2.ensures.moves p c.part-2.invariant) (inl (may, c.finish_put-outcome.ensures.takes)))

pub returns-clause-tells : goal.returns-clause-tells
returns-clause-tells g c = rw (← c.put.view_is) (λ pieces f taken. each_put_end c.finish_put-outcome.result (λ how is. is.4 pieces f taken) c.finish_put-outcome.ensures.takes.ended)
