use Rattle.pcache_shared_cache.proofs.Together.{within, within-count}
use Rattle.pcache_shared_cache.proofs.laws.parts_keep_the_whole.Goals as goal

pub returns-clause-bytes : goal.returns-clause-bytes
returns-clause-bytes c = within

pub returns-clause-count : goal.returns-clause-count
returns-clause-count c = within-count
