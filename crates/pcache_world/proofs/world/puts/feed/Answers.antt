use Rattle.pcache_world.proofs.Words.{Some, subst, Ongoing, ongoing_put, MovesStore, taking}
use Rattle.pcache_world.proofs.world.puts.feed.Goals as goal

pub returns-clause-moves : goal.returns-clause-moves
returns-clause-moves g c = subst (λ (x : Ongoing). MovesStore (Some x) c.args.store.now.state c.feed_in.new.events.items (Some (ongoing_put (taking c.feed_in.new.ctx))) c.feed_in.new.store.state) c.put.view_is c.feed_in.ensures.moves
