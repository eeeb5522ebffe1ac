use Rattle.cache_simulation.proofs.Standing.{hits-stand-all}
use Rattle.cache_simulation.proofs.laws.hits_stand.Goals as goal

pub returns : goal.returns
returns c = hits-stand-all
