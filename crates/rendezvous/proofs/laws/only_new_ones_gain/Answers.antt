use Rattle.rendezvous.proofs.Wins.{gain}
use Rattle.rendezvous.proofs.laws.only_new_ones_gain.Goals as goal

pub returns : goal.returns
returns c = gain
