use Rattle.pcache_history.proofs.SettlesLaw.{settles_always}
use Rattle.pcache_world.proofs.Words.{stays_within}
use Rattle.pcache_world.proofs.world.world_type.World.bounded_step.Goals as goal

pub returns-clause-within : goal.returns-clause-within
returns-clause-within g c = stays_within c.step.new.self c.step.ensures.legal

pub returns-clause-settles : goal.returns-clause-settles
returns-clause-settles g c = settles_always c.step.new.self c.step.ensures.legal
