use Rattle.std.specs.List.{All}
use Rattle.cache_simulation.proofs.Words.{List, Request, HasPlayed, IsRow}
use Rattle.cache_simulation.proofs.runs.Runs.rows.Given as goal

abbrev pub invariant-loop-cache : goal.invariant-loop-cache
invariant-loop-cache l = (before asked : List Request) → HasPlayed before asked l.self → All (IsRow l.self.setting l.span before asked) l.rows.items
