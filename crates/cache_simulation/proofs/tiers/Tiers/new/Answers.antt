use Rattle.cache_simulation.proofs.Visits.{none-served}
use Rattle.cache_simulation.proofs.tiers.Tiers.new.Goals as goal

pub returns-clause-empty : goal.returns-clause-empty
returns-clause-empty c = none-served _ c.in_ok-empty_nodes.ensures.empty c.in_ok-empty_shield.ensures.empty
