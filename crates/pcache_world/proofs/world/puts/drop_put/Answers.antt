use Rattle.pcache_world.proofs.Words.{◌∙◌, sym, taking}
use Rattle.pcache_world.proofs.PutClosed.{drop-moves}
use Rattle.pcache_world.proofs.world.puts.drop_put.Goals as goal

pub returns-in-Some-clause-moves : goal.returns-in-Some-clause-moves
returns-in-Some-clause-moves g c = drop-moves c.args.put (taking c.put.inside.ctx) c.args.store.now.state c.end.new.storage.state c.in-Some.write c.args.events.now.items c.push_reserved.new.self.items c.put.view_is (sym c.write_of-write.ensures.write ∙ c.in-Some.is) c.requires.none c.push_reserved.ensures.items c.end.ensures.store
