use Rattle.cache_simulation.proofs.Standing.{stays-within}
use Rattle.cache_simulation.proofs.laws.stays_within.Goals as goal

pub returns : goal.returns
returns c = stays-within
