use Rattle.pcache_files.specs.FileReading.{nodes_at}
use Rattle.pcache_files.proofs.Words.{◌≡◌, ◌-◌}
use Rattle.pcache_files.proofs.NodeLoop.{with_front}
use Rattle.pcache_files.proofs.codec.read_nodes.Given as goal

abbrev pub invariant-each : goal.invariant-each
invariant-each l = with_front l.nodes.items (nodes_at (l.count - l.i) l.reader) ≡ nodes_at l.count l.initial.reader
