use Rattle.pcache_policies.proofs.InTurn.{once_turn}
use Rattle.pcache_policies.proofs.one_queue.TurnsDiscipline.weight.Goals as goal

pub returns-clause-once : goal.returns-clause-once
returns-clause-once g c = once_turn c.args.self.now.ring c.weight.ensures.once
