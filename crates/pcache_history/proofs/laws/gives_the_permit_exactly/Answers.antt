use Rattle.pcache_history.proofs.Waiting.{gives_the_permit_exactly}
use Rattle.pcache_history.proofs.laws.gives_the_permit_exactly.Goals as goal

pub returns : goal.returns
returns c = gives_the_permit_exactly
