use Rattle.pcache_world.proofs.Words.{rules, inl, Some, subst, refl, MayLookUp, facts_in, KeepsKey, Ongoing, carrying, Looks, MovesLocks, deeds_by, TransientError}
use Rattle.pcache_world.proofs.Looking.{carried-moves, looks-by}
use Rattle.pcache_world.proofs.world.look.look.Goals as goal

pub returns-clause-answers : goal.returns-clause-answers
returns-clause-answers c =
    let may : MayLookUp c.args.request.now.request.phase = search rules in
    let looks = subst (λ (z : Ongoing). Looks (facts_in c.args.store.now.state c.args.lock.now.table z.request) z c.look_up.result c.look_up.new.events.items) c.carry.ensures c.look_up.ensures.answers in
    inl (may, c.look_up.ensures.other, looks-by _ (facts_in c.args.store.now.state c.args.lock.now.table c.args.request.now.request) (carrying c.args.decision c.args.request.now) c.look_up.result c.look_up.new.events.items refl refl looks)

pub returns-clause-keeps : goal.returns-clause-keeps
returns-clause-keeps c w =
    let h : KeepsKey (Some (carrying c.args.decision c.args.request.now)) (Some c.look_up.new.request) = subst (λ (z : Ongoing). KeepsKey (Some z) (Some c.look_up.new.request)) c.carry.ensures c.look_up.ensures.keeps in
    h (record { eviction = w.eviction; fills = w.fills })

pub returns-clause-moves : goal.returns-clause-moves
returns-clause-moves c = carried-moves c.args.decision c.args.request.now c.carry.new.request (Some c.look_up.new.request) c.args.store.now.state c.look_up.new.store.state c.look_up.new.events.items c.carry.ensures c.look_up.ensures.moves

pub returns-clause-locks : goal.returns-clause-locks
returns-clause-locks c n = subst (λ (z : Ongoing). MovesLocks n (deeds_by n c.args.now TransientError c.look_up.new.events.items) z.request.held c.args.lock.now.table c.look_up.new.request.request.held c.look_up.new.lock.table) c.carry.ensures (c.look_up.ensures.locks n)
