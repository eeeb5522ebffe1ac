use Rattle.pcache_validation.specs.Lists.{elements}
use Rattle.pcache_validation.proofs.Words.{◌≡◌, without_names}
use Rattle.pcache_validation.proofs.updating.take_out_elements.Given as goal

abbrev pub invariant-elements : goal.invariant-elements
invariant-elements l = without_names l.headers l.element-iterator ≡ without_names l.fn.headers (elements l.fn.line)
