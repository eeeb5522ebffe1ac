use Rattle.pcache_world.proofs.Words.{◌∙◌, ap, sym, slot, facts_in, ongoing_put, taking}
use Rattle.pcache_world.proofs.Evicting.{close-evicts, unwritten-evicts}
use Rattle.pcache_world.proofs.PutClosed.{quiet-end, unwritten-answers-as, unwritten-moves-as, written-answers-as, written-moves-as, tells-as-answered}
use Rattle.pcache_world.proofs.world.puts.close_in.Goals as goal

pub returns-in-Some-clause-answers : goal.returns-in-Some-clause-answers
returns-in-Some-clause-answers g c t some =
    written-answers-as (taking c.args.ctx) c.args.store.now.state c.end_put-end.new.storage.state (g.M.EvictionManager.limits c.args.manager.now) (g.M.EvictionManager.tracked c.args.manager.now) (g.M.EvictionManager.tracked c.end_put-end.new.eviction) c.end_put-end.result.end c.end_put-end.result.entry c.end_put-end.ensures.entry c.end_put-end.ensures.ends
    g.P.PutPolicy.says some.0 some.1 some.2 t c.in-Some.write c.slot-slot.result c.end_written.result c.end_written.new.events.items some.4 (sym c.write_of-write.ensures.write ∙ c.in-Some.is) (sym c.write_of-write.ensures.entry ∙ c.in-Some.is) (c.slot-slot.ensures ∙ ap slot c.key.ensures) c.end_written.ensures.reply c.end_written.ensures.noted

pub returns-in-Some-clause-moves : goal.returns-in-Some-clause-moves
returns-in-Some-clause-moves g c world some =
    written-moves-as (taking c.args.ctx) c.args.store.now.state c.end_put-end.new.storage.state (g.M.EvictionManager.limits c.args.manager.now) (g.M.EvictionManager.tracked c.args.manager.now) (g.M.EvictionManager.tracked c.end_put-end.new.eviction) c.end_put-end.result.end c.end_put-end.result.entry c.end_put-end.ensures.entry c.end_put-end.ensures.ends
    g.P.PutPolicy.says some.0 some.1 some.2 c.end.new.storage.state c.end_put-end.new.self.stage c.in-Some.write c.slot-slot.result c.end_written.new.events.items world (sym c.write_of-write.ensures.write ∙ c.in-Some.is) (sym c.write_of-write.ensures.entry ∙ c.in-Some.is) (c.slot-slot.ensures ∙ ap slot c.key.ensures) c.end_written.ensures.noted c.end_put-end.ensures.stage c.end.ensures.store

pub returns-in-Some-clause-closes : goal.returns-in-Some-clause-closes
returns-in-Some-clause-closes g c pieces f taken =
    tells-as-answered (taking c.args.ctx) c.args.store.now.state c.end_put-end.new.storage.state (g.M.EvictionManager.limits c.args.manager.now) (g.M.EvictionManager.tracked c.args.manager.now) (g.M.EvictionManager.tracked c.end_put-end.new.eviction) c.end_put-end.result.end c.end_put-end.result.entry c.end_put-end.ensures.entry c.end_put-end.ensures.ends
    g.P.PutPolicy.says pieces f c.end_written.result c.end_written.ensures.reply (c.end_put-end.ensures.tells pieces f taken)

pub returns-in-Some-clause-quiet : goal.returns-in-Some-clause-quiet
returns-in-Some-clause-quiet g c = quiet-end _ _ _ _ _ c.end_written.ensures.noted

pub returns-in-None-clause-answers : goal.returns-in-None-clause-answers
returns-in-None-clause-answers g c t some =
    unwritten-answers-as (taking c.args.ctx) c.args.store.now.state c.end_put-end.new.storage.state (g.M.EvictionManager.limits c.args.manager.now) (g.M.EvictionManager.tracked c.args.manager.now) (g.M.EvictionManager.tracked c.end_put-end.new.eviction) c.end_put-end.result.end c.end_put-end.result.entry c.end_put-end.ensures.entry c.end_put-end.ensures.ends
    (facts_in c.args.store.now.state t (ongoing_put (taking c.args.ctx)).request) c.end_unwritten.result c.args.events.now.items c.requires.none (sym c.write_of-write.ensures.write ∙ c.in-None.is) c.end_unwritten.ensures

pub returns-in-None-clause-moves : goal.returns-in-None-clause-moves
returns-in-None-clause-moves g c world some =
    unwritten-moves-as (taking c.args.ctx) c.args.store.now.state c.end_put-end.new.storage.state (g.M.EvictionManager.limits c.args.manager.now) (g.M.EvictionManager.tracked c.args.manager.now) (g.M.EvictionManager.tracked c.end_put-end.new.eviction) c.end_put-end.result.end c.end_put-end.result.entry c.end_put-end.ensures.entry c.end_put-end.ensures.ends
    c.end.new.storage.state c.end_put-end.new.self.stage c.args.events.now.items c.requires.none (sym c.write_of-write.ensures.write ∙ c.in-None.is) c.end_put-end.ensures.stage c.end.ensures.store

pub returns-in-None-clause-closes : goal.returns-in-None-clause-closes
returns-in-None-clause-closes g c pieces f taken =
    tells-as-answered (taking c.args.ctx) c.args.store.now.state c.end_put-end.new.storage.state (g.M.EvictionManager.limits c.args.manager.now) (g.M.EvictionManager.tracked c.args.manager.now) (g.M.EvictionManager.tracked c.end_put-end.new.eviction) c.end_put-end.result.end c.end_put-end.result.entry c.end_put-end.ensures.entry c.end_put-end.ensures.ends
    g.P.PutPolicy.says pieces f c.end_unwritten.result c.end_unwritten.ensures (c.end_put-end.ensures.tells pieces f taken)

pub returns-in-Some-clause-evicted : goal.returns-in-Some-clause-evicted
returns-in-Some-clause-evicted g c =
    close-evicts (g.M.EvictionManager.tracked c.args.manager.now) _ (g.M.EvictionManager.limits c.args.manager.now) c.args.ctx.key c.args.ctx.parser c.args.store.now.state c.end_put-end.new.storage.state (g.M.EvictionManager.tracked c.end_put-end.new.eviction) _ c.args.ctx.stage c.in-Some.write c.slot-slot.result c.end_put-end.result.end c.end_put-end.result.entry c.end_written.new.events.items
    (sym c.write_of-write.ensures.write ∙ c.in-Some.is) c.end_put-end.ensures.ends c.end_put-end.ensures.entry c.end_put-end.ensures.evicted c.end_written.ensures.noted

pub returns-in-None-clause-evicted : goal.returns-in-None-clause-evicted
returns-in-None-clause-evicted g c =
    unwritten-evicts (g.M.EvictionManager.tracked c.args.manager.now) _ (g.M.EvictionManager.limits c.args.manager.now) c.args.ctx.key c.args.ctx.parser c.args.store.now.state c.end_put-end.new.storage.state (g.M.EvictionManager.tracked c.end_put-end.new.eviction) _ c.args.ctx.stage c.end_put-end.result.end c.args.events.now.items
    (sym c.write_of-write.ensures.write ∙ c.in-None.is) c.end_put-end.ensures.evicted c.requires.none
