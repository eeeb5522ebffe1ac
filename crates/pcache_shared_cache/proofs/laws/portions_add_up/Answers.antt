use Rattle.pcache_shared_cache.proofs.Adding.{add_up}
use Rattle.pcache_shared_cache.proofs.Together.{portions-whole}
use Rattle.pcache_shared_cache.proofs.laws.portions_add_up.Goals as goal

pub returns-clause-parts : goal.returns-clause-parts
returns-clause-parts c = add_up

pub returns-clause-limits : goal.returns-clause-limits
returns-clause-limits c = portions-whole
