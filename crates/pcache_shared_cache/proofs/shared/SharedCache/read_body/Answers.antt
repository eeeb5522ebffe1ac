use Rattle.pcache_shared_cache.proofs.Words.{IsSome, ap, refl, subst, sym, ◌∙◌, Seated}
use Rattle.pcache_shared_cache.proofs.Logs.{sees_by, lent, sees_last}
use Rattle.pcache_shared_cache.proofs.Unlocked.{keeps_all, keeps_phase, keeps_reader, lacks_memory}
use Rattle.pcache_shared_cache.proofs.shared.SharedCache.read_body.Goals as goal

pub returns-then-reads_alone-clause-sees : goal.returns-then-reads_alone-clause-sees
returns-then-reads_alone-clause-sees g c =
    let read = c.read_body_alone in
    rw (← c.request.view_is) (sees_last c.args.self.now g.K.Mark.names c.request.inside.sight.place c.request.inside.sight.log c.headline.ensures
    (λ p. read.ensures p.store))

pub returns-then-reads_alone-clause-same : goal.returns-then-reads_alone-clause-same
returns-then-reads_alone-clause-same g c =
    let read = c.read_body_alone in
    rw (← c.request.view_is) (keeps_all read.result c.request.inside.request.cache read.new.self read.ensures)

pub returns-then-reads_alone-clause-kind : goal.returns-then-reads_alone-clause-kind
returns-then-reads_alone-clause-kind g c = lacks_memory c.read_body_alone.result c.request.inside.request.cache c.read_body_alone.new.self c.read_body_alone.ensures

pub returns-then-reads_alone-clause-reader : goal.returns-then-reads_alone-clause-reader
returns-then-reads_alone-clause-reader g c =
    let read = c.read_body_alone in
    keeps_reader read.result c.request.inside.request.cache read.new.self read.ensures (subst (λ (s : Seated). IsSome s.cache.reader) (sym c.request.view_is) c.requires)

pub returns-then-reads_alone-clause-phase : goal.returns-then-reads_alone-clause-phase
returns-then-reads_alone-clause-phase g c =
    let read = c.read_body_alone in
    keeps_phase read.result c.request.inside.request.cache read.new.self read.ensures ∙ ap (λ (s : Seated). s.cache.phase) c.request.view_is

pub returns-clause-sees : goal.returns-clause-sees
returns-clause-sees g c =
    let p = c.part.inside.cache in
    let here = lent c.args.self.now c.part-lock.result.now c.part-lock.ensures.limits c.part-lock.ensures.place (c.place.ensures.place ∙ ap (λ (s : Seated). s.place) (sym c.request.view_is)) c.lock-guard.ensures.place c.lock-guard.ensures.limits (c.part.view_is ∙ c.deref_mut-part.ensures.value) in
    rw (← c.request.view_is) (sees_by c.args.self.now g.K.Mark.names c.part.inside.log.place c.request.inside.sight.place c.request.inside.sight.log c.request.inside.sight.log c.shows.new.sight.log p here refl (c.shows.ensures.looks p c.part.invariant) c.read_body-result.ensures.takes)
