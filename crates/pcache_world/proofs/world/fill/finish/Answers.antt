use Rattle.std.proofs.Common.{option_map}
use Rattle.pcache_world.specs.LockMoves.{status_finished}
use Rattle.pcache_world.proofs.Words.{rules, inl, Some, ap, ◌∙◌, sym, subst, IsFilling, reader_of, deeds_by, IsOfWorld, Ongoing, MovesLocks, Moves, open_with, State, Answers, AnswersOf}
use Rattle.pcache_history.specs.declared.call.Act.TheVariants as C
use Rattle.pcache_history.specs.declared.call.RequestAct.TheVariants as Q
use Rattle.pcache_world.proofs.OfParts.{evicts-over, locks-over, moves-over}
use Rattle.pcache_world.proofs.world.fill.finish.Goals as goal

pub returns-clause-answers : goal.returns-clause-answers
returns-clause-answers g c oldest =
    let may : IsFilling c.request.inside.cache.phase = search rules in
    subst (λ (p : State). AnswersOf p (C.Request Q.Finish) c.args.request.now c.finish_write.result c.finish_write.new.events.items) c.parts.view_is
    (subst (λ (x : Ongoing). Answers c.parts.inside.store.state c.parts.inside.lock.table (C.Request Q.Finish) x c.finish_write.result c.finish_write.new.events.items) c.request.view_is
    (inl (may, c.finish_write.ensures.other, c.finish_write.ensures.answers (ap (λ (p : State). p.store.newest) c.parts.view_is ∙ oldest))))

pub returns-clause-moves : goal.returns-clause-moves
returns-clause-moves g c world =
    let pair = option_map (λ p. (p.0, reader_of p.1)) c.request.inside.pair in
    let d = c.request.inside.carried in
    let tracked = g.M.EvictionManager.tracked in
    moves-over _ (open_with d pair c.finish_write.new.cache) _ c.parts.view_is
    (subst (λ (x : Ongoing). Moves (g.M.EvictionManager.limits c.parts.inside.manager) (Some x) c.parts.inside.store.state (tracked c.parts.inside.manager) c.finish_write.new.events.items (open_with d pair c.finish_write.new.cache) c.finish_write.new.store.state (tracked c.finish_write.new.manager)) c.request.view_is
    (c.finish_write.ensures.moves pair d (subst (λ (x : Ongoing). IsOfWorld x.request) (sym c.request.view_is) world)))

pub returns-clause-locks : goal.returns-clause-locks
returns-clause-locks g c n =
    locks-over c.parts.view_is
    (subst (λ (x : Ongoing). MovesLocks n (deeds_by n 0 (status_finished c.finish_write.new.events.items) c.finish_write.new.events.items) x.request.held c.parts.inside.lock.table c.finish_write.new.cache.held c.finish_write.new.lock.table) c.request.view_is (c.finish_write.ensures.locks n))

pub returns-clause-evicted : goal.returns-clause-evicted
returns-clause-evicted g c world = evicts-over c.finish_write.new.events.items c.parts.view_is (c.finish_write.ensures.evicted (subst (λ (x : Ongoing). IsOfWorld x.request) (sym c.request.view_is) world))
