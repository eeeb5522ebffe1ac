use Rattle.std.proofs.Common.{take}
use Rattle.rendezvous.specs.Nodes.{GoesTo}
use Rattle.rendezvous.proofs.nodes.node_of.Given as goal

abbrev pub invariant-loop-place : goal.invariant-loop-place
invariant-loop-place l = GoesTo l.hash (take l.place l.nodes) l.best
