use Rattle.pcache_control.specs.Maps.{AreNamed}
use Rattle.pcache_control.proofs.Words.{◌≡◌, ◌++◌, List, bytes_eq, insert_all, Span, AreDirectivesFrom, entries_of, directives_at}
use Rattle.pcache_control.proofs.cache_control.add_line.Given as goal

abbrev pub invariant-spans : goal.invariant-spans
invariant-spans l = record {
  line : l.span-iterator.0 ≡ l.line;
  held : (rest : List Span) → AreDirectivesFrom l.line l.span-iterator.1 rest → AreDirectivesFrom l.line 0 (l.yielded ++ rest);
  added : AreNamed l.fn.directives.entries → entries_of l.directives.entries ≡ insert_all bytes_eq (entries_of l.fn.directives.entries) (directives_at l.line l.yielded);
  named : AreNamed l.fn.directives.entries → AreNamed l.directives.entries;
}
