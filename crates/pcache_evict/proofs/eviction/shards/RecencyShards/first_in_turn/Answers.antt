use Rattle.pcache_evict.proofs.Words.{◌∙◌, ap, sym, length}
use Rattle.pcache_evict.proofs.Chains.{turn-behind, turn-upto, turn-none}
use Rattle.pcache_evict.proofs.eviction.shards.RecencyShards.first_in_turn.Goals as goal

pub returns-then-is_some-clause-some : goal.returns-then-is_some-clause-some
returns-then-is_some-clause-some g c = turn-behind g.row.N c.args.place c.args.self.now c.first_of-behind.result (ap length (sym c.self.view_is) ∙ c.self.invariant.placed.long) c.first_of-behind.ensures.some

pub returns-clause-some : goal.returns-clause-some
returns-clause-some g c = turn-upto g.row.N c.args.place c.args.self.now c.first_of-behind.result c.first_of.result (ap length (sym c.self.view_is) ∙ c.self.invariant.placed.long) c.requires (sym c.is_some.ensures ∙ c.if-is_some.false) c.first_of-behind.ensures.none c.first_of.ensures.some

pub returns-clause-none : goal.returns-clause-none
returns-clause-none g c = turn-none g.row.N c.args.place c.args.self.now c.first_of-behind.result c.first_of.result (ap length (sym c.self.view_is) ∙ c.self.invariant.placed.long) c.requires (sym c.is_some.ensures ∙ c.if-is_some.false) c.first_of-behind.ensures.none c.first_of.ensures.none
