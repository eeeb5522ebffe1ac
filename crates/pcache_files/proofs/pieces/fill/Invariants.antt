use Rattle.pcache_files.proofs.Words.{◌≡◌, ◌-◌, ◌++◌, List, ℕ, false, length, Consumes}
use Rattle.pcache_files.proofs.pieces.fill.Given as goal

abbrev pub invariant-pieces : goal.invariant-pieces
invariant-pieces g l =
    record {
      more : (piece : List ℕ) × Consumes (g.D.CountedRead.remaining l.fn.from) (g.D.CountedRead.remaining l.from) piece × (l.ahead ≡ l.fn.ahead ++ piece);
      same : g.D.CountedRead.source l.from ≡ g.D.CountedRead.source l.fn.from;
      count : g.D.CountedRead.failed l.from ≡ g.D.CountedRead.failed l.fn.from;
      goes_on : l.ended ≡ false;
      size : length l.piece ≡ 8192;
    }

abbrev pub decreases-pieces : goal.decreases-pieces
decreases-pieces g l = l.wanted - length l.ahead
