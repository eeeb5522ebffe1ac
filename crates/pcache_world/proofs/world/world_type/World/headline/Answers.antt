use Rattle.pcache_history.proofs.Promised.{finds_untouched, hands_on_unhidden, finishes_untouched, hits_the_last, evicts_nothing_within, gives_where_none_waits}
use Rattle.pcache_world.proofs.Words.{stays_within}
use Rattle.pcache_world.proofs.world.world_type.World.headline.Goals as goal

pub returns-clause-finds : goal.returns-clause-finds
returns-clause-finds g c = finds_untouched c.args.self.now c.history-history.ensures.legal

pub returns-clause-hands_on : goal.returns-clause-hands_on
returns-clause-hands_on g c = hands_on_unhidden c.args.self.now c.history-history.ensures.legal

pub returns-clause-finishes : goal.returns-clause-finishes
returns-clause-finishes g c = finishes_untouched c.args.self.now c.history-history.ensures.legal

pub returns-clause-hits : goal.returns-clause-hits
returns-clause-hits g c = hits_the_last c.args.self.now c.history-history.ensures.legal

pub returns-clause-within : goal.returns-clause-within
returns-clause-within g c = stays_within c.args.self.now c.history-history.ensures.legal

pub returns-clause-evicts : goal.returns-clause-evicts
returns-clause-evicts g c = evicts_nothing_within c.args.self.now c.history-history.ensures.legal

pub returns-clause-locks : goal.returns-clause-locks
returns-clause-locks g c = gives_where_none_waits c.args.self.now c.history-history.ensures.legal
