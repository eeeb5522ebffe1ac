use Rattle.pcache_policies.proofs.Words.{S3Fifo}
use Rattle.pcache_policies.proofs.fifos.FifosDiscipline.has_room.Goals as goal

pub returns-clause-room : goal.returns-clause-room
returns-clause-room g c = c.has_room.ensures.room S3Fifo

pub returns-clause-none : goal.returns-clause-none
returns-clause-none g c = c.has_room.ensures.none S3Fifo
