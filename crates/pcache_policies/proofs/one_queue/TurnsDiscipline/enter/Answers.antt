use Rattle.pcache_policies.proofs.Words.{◌++◌}
use Rattle.pcache_policies.proofs.InTurn.{absent_swap}
use Rattle.pcache_policies.proofs.one_queue.TurnsDiscipline.enter.Goals as goal

pub add_passed-requires : goal.add_passed-requires
add_passed-requires g c = absent_swap c.args.item (c.args.self.now.ring.leaving ++ c.args.self.now.ring.passed) c.args.self.now.ring.ahead c.requires
