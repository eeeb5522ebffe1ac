use Rattle.pcache_validation.proofs.Updates.{Replacing}
use Rattle.pcache_validation.proofs.updating.replace_all.Given as goal

abbrev pub invariant-names : goal.invariant-names
invariant-names l = Replacing l.fn.brought l.fn.updated l.updated l.name-iterator
