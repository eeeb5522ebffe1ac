use Rattle.std.proofs.Common.{option_map}
use Rattle.pcache_lock.specs.declared.lock.status.LockStatus.TheVariants.{Done}
use Rattle.pcache_world.proofs.Words.{Some, subst, reader_of, Ongoing, MovesStore, held_with, MovesLocks, deeds_by}
use Rattle.pcache_world.proofs.world.fill.begin.Goals as goal

pub returns-clause-moves : goal.returns-clause-moves
returns-clause-moves c =
    let pair = option_map (λ p. (p.0, reader_of p.1)) c.request.inside.pair in
    subst (λ (x : Ongoing). MovesStore (Some x) c.args.store.now.state c.begin_write.new.events.items (Some (held_with c.request.inside.carried pair c.begin_write.new.cache)) c.begin_write.new.store.state) c.request.view_is (c.begin_write.ensures.moves pair c.request.inside.carried)

pub returns-clause-locks : goal.returns-clause-locks
returns-clause-locks c n = subst (λ (x : Ongoing). MovesLocks n (deeds_by n 0 Done c.begin_write.new.events.items) x.request.held c.args.lock.now.table c.begin_write.new.cache.held c.begin_write.new.lock.table) c.request.view_is (c.begin_write.ensures.locks n)
