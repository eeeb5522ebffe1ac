use Rattle.pcache_policies.proofs.FifoLaws.{s3_fifo_laws}
use Rattle.pcache_policies.proofs.fifos.FifosDiscipline.laws.Goals as goal

pub returns : goal.returns
returns g c = s3_fifo_laws
