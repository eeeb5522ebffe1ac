use Rattle.pcache_policies.proofs.SieveLaws.{sieve_laws}
use Rattle.pcache_policies.proofs.sieve.HandDiscipline.laws.Goals as goal

pub returns : goal.returns
returns g c = sieve_laws
