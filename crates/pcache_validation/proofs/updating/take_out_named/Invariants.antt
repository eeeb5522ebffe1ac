use Rattle.pcache_validation.proofs.Words.{◌≡◌, codes, get_all, without_lines}
use Rattle.pcache_validation.proofs.updating.take_out_named.Given as goal

abbrev pub invariant-lines : goal.invariant-lines
invariant-lines l = without_lines l.headers l.line-iterator ≡ without_lines l.fn.headers (get_all l.fn.new (codes "connection"))
