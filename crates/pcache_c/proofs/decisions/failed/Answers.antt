use Rattle.pcache_c.proofs.Words.{refl, inr}
use Rattle.pcache_c.proofs.decisions.failed.Goals as goal

pub returns-in-None : goal.returns-in-None
returns-in-None c = inr (refl, c.after_failure.ensures.none c.in-None.is, refl)
