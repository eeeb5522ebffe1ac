use Rattle.rendezvous.proofs.Wins.{one_alone}
use Rattle.rendezvous.proofs.laws.one_node.Goals as goal

pub returns : goal.returns
returns c = one_alone
