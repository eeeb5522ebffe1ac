use Rattle.std.specs.List.{All}
use Rattle.cache_simulation.proofs.Words.{◌≡◌, ◌≤◌, [], length, Got}
use Rattle.cache_simulation.proofs.tiers.calls.empty_nodes.Given as goal

abbrev pub invariant-loop : goal.invariant-loop
invariant-loop l = record {
  all : All (Got l.fn.setting l.fn.policy l.fn.size []) l.nodes.items;
  long : length l.nodes.items ≡ l.counter;
  upto : l.counter ≤ l.fn.count;
}
