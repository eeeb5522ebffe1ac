use Rattle.pcache_policies.proofs.Words.{◌∙◌}
use Rattle.pcache_policies.proofs.InTurn.{once_turn, found_turn}
use Rattle.pcache_policies.proofs.one_queue.TurnsDiscipline.get.Goals as goal

pub returns-clause-value : goal.returns-clause-value
returns-clause-value g c = c.get.ensures.value ∙ found_turn c.args.item.now c.args.self.now.ring c.get.ensures.once

pub returns-clause-once : goal.returns-clause-once
returns-clause-once g c = once_turn c.args.self.now.ring c.get.ensures.once
