use Rattle.std.proofs.Common.{IsTrue}
use Rattle.pcache_files.proofs.Words.{◌≡◌, length, IsAtEnd}
use Rattle.pcache_files.proofs.InPieces.{Reading}
use Rattle.pcache_files.proofs.pieces.read_nodes.Given as goal

abbrev pub invariant-each : goal.invariant-each
invariant-each g l =
    record {
      so_far : Reading (g.D.CountedRead.remaining l.fn.from) (g.D.CountedRead.remaining l.from) l.fn.ahead l.ahead l.nodes.items;
      end : IsTrue l.ended → IsAtEnd (g.D.CountedRead.remaining l.from);
      many : length l.nodes.items ≡ l.i;
      same : g.D.CountedRead.source l.from ≡ g.D.CountedRead.source l.fn.from;
      count : g.D.CountedRead.failed l.from ≡ g.D.CountedRead.failed l.fn.from;
    }
