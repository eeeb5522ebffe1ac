use Rattle.std.specs.List.{All}
use Rattle.cache_simulation.proofs.Words.{[], StandsIn}
use Rattle.cache_simulation.proofs.runs.Runs.new.Given as goal

abbrev pub invariant-loop-policy : goal.invariant-loop-policy
invariant-loop-policy l = All (StandsIn l.setting [] []) l.caches.items
