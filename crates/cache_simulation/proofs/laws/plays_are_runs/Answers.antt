use Rattle.cache_simulation.proofs.Standing.{runs-of}
use Rattle.cache_simulation.proofs.laws.plays_are_runs.Goals as goal

pub returns : goal.returns
returns c = runs-of
