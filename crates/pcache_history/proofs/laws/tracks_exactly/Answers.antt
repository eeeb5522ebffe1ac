use Rattle.pcache_history.proofs.TrackedLaws.{tracks-exactly}
use Rattle.pcache_history.proofs.laws.tracks_exactly.Goals as goal

pub returns : goal.returns
returns c = tracks-exactly
