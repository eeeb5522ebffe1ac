use Rattle.std.proofs.Common.{option_map}
use Rattle.pcache_store.specs.Store.{Reader}
use Rattle.pcache_lock.specs.declared.lock.status.LockStatus.TheVariants.{Done}
use Rattle.pcache_world.proofs.Words.{rules, refl, ap, sym, subst, ◌∙◌, inl, IsSome, Option, Some, Meta, Moves, reader_of, MayLookUp, facts_in, State, AnswersOf, Ongoing, IsOther, Takes, held_with, open_with, MovesLocks, deeds_by}
use Rattle.pcache_history.specs.declared.call.Act.TheVariants as C
use Rattle.pcache_history.specs.declared.call.RequestAct.TheVariants as Q
use Rattle.pcache_world.proofs.OfParts.{locks-over, moves-over}
use Rattle.pcache_world.proofs.world.look.found.Goals as goal

pub returns-clause-answers : goal.returns-clause-answers
returns-clause-answers g c =
    let had = sym c.take.ensures.value ∙ c.in-Some.is in
    let is = ap (λ o. held_with c.request.inside.carried (option_map (λ p. (p.0, reader_of p.1)) o) c.request.inside.cache) (sym had) ∙ c.request.view_is in
    let may : MayLookUp c.request.inside.cache.phase = search rules in
    subst (λ (p : State). AnswersOf p (C.Request (Q.Found c.args.status c.args.now)) c.args.request.now c.take-2.result c.take-2.new.events.items) c.parts.view_is
    (inl (subst (λ (x : Ongoing). (MayLookUp x.request.phase × IsSome x.pair) × IsOther c.take-2.result × Takes (facts_in c.parts.inside.store.state c.parts.inside.lock.table x.request) c.args.status x.request x.pair c.take-2.result c.take-2.new.events.items) is
    ((may, refl), c.take-2.ensures.other, c.take-2.ensures.answers)))

pub returns-clause-moves : goal.returns-clause-moves
returns-clause-moves g c =
    let d = c.request.inside.carried in
    let p : Option (Meta × Reader) = Some (c.in-Some.pair.0, reader_of c.in-Some.pair.1) in
    let had = sym c.take.ensures.value ∙ c.in-Some.is in
    let is = ap (λ o. held_with d (option_map (λ p. (p.0, reader_of p.1)) o) c.request.inside.cache) (sym had) ∙ c.request.view_is in
    let tracked = g.M.EvictionManager.tracked in
    let limits = g.M.EvictionManager.limits c.parts.inside.manager in
    let s = c.parts.inside.store.state in
    let m = tracked c.parts.inside.manager in
    let events = c.take-2.new.events.items in
    let u = c.take-2.new.store.state in
    let n = tracked c.take-2.new.manager in
    moves-over _ (open_with d (option_map (λ p. (p.0, reader_of p.1)) c.take.new.self) c.take-2.new.cache) _ c.parts.view_is
    (subst (λ (x : Ongoing). Moves limits (Some x) s m events (open_with d (option_map (λ p. (p.0, reader_of p.1)) c.take.new.self) c.take-2.new.cache) u n) is
    (subst (λ o. Moves limits (open_with d p c.request.inside.cache) s m events (open_with d (option_map (λ p. (p.0, reader_of p.1)) o) c.take-2.new.cache) u n) (sym c.take.ensures.after) (c.take-2.ensures.moves d)))

pub returns-clause-locks : goal.returns-clause-locks
returns-clause-locks g c n =
    locks-over c.parts.view_is
    (subst (λ (x : Ongoing). MovesLocks n (deeds_by n c.args.now Done c.take-2.new.events.items) x.request.held c.parts.inside.lock.table c.take-2.new.cache.held c.take-2.new.lock.table) c.request.view_is (c.take-2.ensures.locks n))
