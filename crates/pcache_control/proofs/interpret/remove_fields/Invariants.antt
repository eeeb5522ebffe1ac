use Rattle.pcache_control.specs.Control.{without_fields}
use Rattle.pcache_control.proofs.Words.{◌≡◌, Some}
use Rattle.pcache_control.proofs.interpret.remove_fields.Given as goal

abbrev pub invariant-names : goal.invariant-names
invariant-names l = without_fields l.headers (Some l.name-iterator) ≡ without_fields l.fn.headers (Some l.fn.names)
