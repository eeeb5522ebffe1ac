use Rattle.pcache_world.specs.PartFacts.{facts_of}
use Rattle.pcache_world.proofs.Words.{None, Some, sym, subst, IsOfWorld, Ongoing, Closes, Moves, facts_in, HasSome, State}
use Rattle.pcache_world.proofs.OfParts.{evicts-over, moves-over}
use Rattle.pcache_world.proofs.world.puts.close_put.Goals as goal

pub returns-clause-answers : goal.returns-clause-answers
returns-clause-answers g c some =
    let had = subst (λ (x : Ongoing). HasSome g.P.PutPolicy.says c.parts.inside.store.state (Some x)) (sym c.put.view_is) (subst (λ (p : State). HasSome g.P.PutPolicy.says p.store (Some c.args.put)) (sym c.parts.view_is) some) in
    subst (λ (p : State). Closes (facts_of p c.args.put.request) c.args.put.put c.close_in.result c.close_in.new.events.items) c.parts.view_is
    (subst (λ (x : Ongoing). Closes (facts_in c.parts.inside.store.state c.parts.inside.lock.table x.request) x.put c.close_in.result c.close_in.new.events.items) c.put.view_is (c.close_in.ensures.answers c.parts.inside.lock.table had))

pub returns-clause-moves : goal.returns-clause-moves
returns-clause-moves g c world some =
    let had = subst (λ (x : Ongoing). HasSome g.P.PutPolicy.says c.parts.inside.store.state (Some x)) (sym c.put.view_is) (subst (λ (p : State). HasSome g.P.PutPolicy.says p.store (Some c.args.put)) (sym c.parts.view_is) some) in
    let tracked = g.M.EvictionManager.tracked in
    moves-over _ None _ c.parts.view_is
    (subst (λ (x : Ongoing). Moves (g.M.EvictionManager.limits c.parts.inside.manager) (Some x) c.parts.inside.store.state (tracked c.parts.inside.manager) c.close_in.new.events.items None c.close_in.new.store.state (tracked c.close_in.new.manager)) c.put.view_is
    (c.close_in.ensures.moves (subst (λ (x : Ongoing). IsOfWorld x.request) (sym c.put.view_is) world) had))

pub returns-clause-evicted : goal.returns-clause-evicted
returns-clause-evicted g c = evicts-over c.close_in.new.events.items c.parts.view_is c.close_in.ensures.evicted
