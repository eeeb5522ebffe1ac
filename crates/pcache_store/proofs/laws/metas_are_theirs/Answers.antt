use Rattle.pcache_store.proofs.OneResponse.{metas-are-theirs}
use Rattle.pcache_store.proofs.laws.metas_are_theirs.Goals as goal

pub returns : goal.returns
returns c = metas-are-theirs
