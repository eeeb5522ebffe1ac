use Rattle.pcache_validation.proofs.Words.{◌≡◌, get_all, with_lines}
use Rattle.pcache_validation.proofs.updating.append_lines.Given as goal

abbrev pub invariant-lines : goal.invariant-lines
invariant-lines l = with_lines l.updated l.fn.name l.value-iterator ≡ with_lines l.fn.updated l.fn.name (get_all l.fn.brought l.fn.name)
