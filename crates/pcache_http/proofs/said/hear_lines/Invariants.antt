use Rattle.pcache_http.proofs.HeardLines.{IsHeardSoFar}
use Rattle.pcache_http.proofs.said.hear_lines.Given as goal

abbrev pub invariant-lines : goal.invariant-lines
invariant-lines g l = IsHeardSoFar g.L.Listens.Heard l.fn.lines l.line-iterator l.fn.listener l.listener
