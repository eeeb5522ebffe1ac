use Rattle.std.specs.List.{All}
use Rattle.cache_simulation.proofs.Words.{◌≡◌, ◌<◌, ◌≤◌, length, slice_index, EachIndex}
use Rattle.cache_simulation.proofs.tiers.calls.numbers.Given as goal

abbrev pub invariant-loop-number : goal.invariant-loop-number
invariant-loop-number l = record {
  long : length l.there.items ≡ l.number;
  each : EachIndex l.there.items (λ n. slice_index l.there.items n ≡ n);
  below : All (λ n. n < l.fn.count) l.there.items;
  upto : l.number ≤ l.fn.count;
}
