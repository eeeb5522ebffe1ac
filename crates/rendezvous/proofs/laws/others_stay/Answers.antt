use Rattle.rendezvous.proofs.Wins.{stay}
use Rattle.rendezvous.proofs.laws.others_stay.Goals as goal

pub returns : goal.returns
returns c = stay
