use Rattle.cache_simulation.proofs.Words.{◌≡◌, ℕ, ◌<◌, ◌≤◌, List, length, get_or, Told, Visit, HasHad, Tells, at_node}
use Rattle.cache_simulation.proofs.tiers.Tiers.each_node.Given as goal

-- the nodes so far have told
abbrev pub invariant-loop-node : goal.invariant-loop-node
invariant-loop-node l = record {
  long : length l.each.items ≡ l.node-index;
  upto : l.node-index ≤ length l.fn.self.nodes.items;
  each : (visits : List Visit) → HasHad visits l.fn.self → (n : ℕ) (d : Told) → n < length l.each.items → Tells l.fn.self.setting l.fn.self.policy l.fn.self.size (at_node n visits) (get_or l.each.items n d);
}
