use Rattle.std.specs.List.{All}
use Rattle.cache_simulation.proofs.Words.{[], StandsIn}
use Rattle.cache_simulation.proofs.runs.add.Given as goal

abbrev pub invariant-loop-size : goal.invariant-loop-size
invariant-loop-size l = All (StandsIn l.setting [] []) l.fn.caches.items → All (StandsIn l.setting [] []) l.caches.items
