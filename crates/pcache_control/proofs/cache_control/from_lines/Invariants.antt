use Rattle.pcache_control.proofs.AllLines.{IsReadSoFar}
use Rattle.pcache_control.proofs.cache_control.from_lines.Given as goal

abbrev pub invariant-lines : goal.invariant-lines
invariant-lines l = IsReadSoFar l.fn.lines l.line-iterator l.directives.entries
