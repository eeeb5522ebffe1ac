use Rattle.pcache_files.proofs.Words.{◌≡◌, length}
use Rattle.pcache_files.proofs.Devices.{HasTaken}
use Rattle.pcache_files.proofs.device.write_whole.Given as goal

abbrev pub invariant-pieces : goal.invariant-pieces
invariant-pieces g l =
    record {
      taken : HasTaken (g.W.CountedWrite.contents l.fn.to) (g.W.CountedWrite.contents l.to) l.bytes l.rest;
      count : g.W.CountedWrite.failed l.to ≡ g.W.CountedWrite.failed l.fn.to;
    }

abbrev pub decreases-pieces : goal.decreases-pieces
decreases-pieces g l = length l.rest
