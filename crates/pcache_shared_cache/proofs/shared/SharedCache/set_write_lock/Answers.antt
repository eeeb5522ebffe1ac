use Rattle.pcache_shared_cache.proofs.Words.{◌≡◌, ℕ, List, [], ◌∷◌, ◌++◌, ap, subst, sym, ◌∙◌, TakesPermit, Parts, Begins, EndsWith, Goes, Placed, Seated}
use Rattle.pcache_shared_cache.proofs.Led.{permit_taken}
use Rattle.pcache_shared_cache.proofs.Logs.{begins_more, goes_by, lent}
use Rattle.pcache_shared_cache.proofs.shared.SharedCache.set_write_lock.Goals as goal

pub adds-requires-clause-leads : goal.adds-requires-clause-leads
adds-requires-clause-leads g c =
    let p = c.part.inside.cache in
    let ends = subst (λ (l : Placed). EndsWith l.log p) (sym c.meets.ensures.same) c.part.invariant in
    (p, ends, permit_taken c.set_write_lock-result.ensures.takes)

pub returns-clause-goes : goal.returns-clause-goes
returns-clause-goes g c =
    let p = c.part.inside.cache in
    let q = c.set_write_lock-result.new.self in
    let here = lent c.args.self.now c.part-lock.result.now c.part-lock.ensures.limits c.part-lock.ensures.place c.place.ensures.place c.lock-guard.ensures.place c.lock-guard.ensures.limits (c.part.view_is ∙ c.deref_mut-part.ensures.value) in
    let ends = subst (λ (l : Placed). EndsWith l.log p) (sym c.meets.ensures.same) c.part.invariant in
    let at = ap (λ (l : Placed). l.place) c.meets.ensures.same ∙ here.1 in
    subst (λ w. Goes c.args.self.now g.K.Mark.names c.args.request.now.place c.args.request.now.seen c.adds.new.sight.log (TakesPermit c.set_write_lock-result.result w c.args.request.now.cache c.set_write_lock-result.new.request.cache)) c.into_both-permit.ensures.permit
    (goes_by c.args.self.now g.K.Mark.names c.meets.new.self.place c.args.request.now.place c.request.inside.sight.log c.args.request.now.seen c.adds.new.sight.log p q (here.0, at) (ap (λ (s : Seated). s.seen) c.request.view_is)
    (c.adds.ensures.moves p ends) (subst (λ (s : Seated). TakesPermit c.set_write_lock-result.result c.into_both-permit.result.0 s.cache c.set_write_lock-result.new.request.cache p q) c.request.view_is c.set_write_lock-result.ensures.takes))

pub returns-clause-follows : goal.returns-clause-follows
returns-clause-follows g c =
    let q = c.set_write_lock-result.new.self in
    let here = lent c.args.self.now c.part-lock.result.now c.part-lock.ensures.limits c.part-lock.ensures.place c.place.ensures.place c.lock-guard.ensures.place c.lock-guard.ensures.limits (c.part.view_is ∙ c.deref_mut-part.ensures.value) in
    let named = g.K.Mark.names c.part.inside.log.place in
    let had = c.into_both-permit.result.1.log in
    let grown : c.adds.new.sight.log ≡ c.part.inside.log.log ++ q ∷ [] = ap (λ (l : Placed). l.log) (c.adds.ensures.seen ∙ c.adds.ensures.log) ∙ ap (λ (l : Placed). l.log ++ q ∷ []) c.meets.ensures.same in
    let more = subst (Begins named had) (sym grown) (begins_more named had c.part.inside.log.log q c.meets.ensures.begins) in
    subst (λ (n : ℕ). Begins (g.K.Mark.names n) c.args.permit.seen c.adds.new.sight.log) here.1 (subst (λ (l : List Parts). Begins named l c.adds.new.sight.log) c.into_both-permit.ensures.seen more)
