use Rattle.pcache_control.specs.Directives.{AreDirectivesFrom}
use Rattle.pcache_http.proofs.Words.{◌≡◌, ◌++◌, List, Span, Directive, directives_in}
use Rattle.pcache_http.proofs.said.hear_line.Given as goal

abbrev pub invariant-spans : goal.invariant-spans
invariant-spans g l = record {
  line : l.span-iterator.0 ≡ l.line;
  held : (rest : List Span) → AreDirectivesFrom l.line l.span-iterator.1 rest → AreDirectivesFrom l.line 0 (l.yielded ++ rest);
  heard : (start : g.row.L.Denot) (said : List Directive) → g.L.Listens.Heard start said l.fn.listener
      → g.L.Listens.Heard start (said ++ directives_in l.line l.yielded) l.listener;
}
