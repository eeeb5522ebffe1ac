use Rattle.pcache_files.proofs.Words.{◌≡◌, Keeps, Interrupted}
use Rattle.pcache_files.proofs.device.CountedCountedWrite.flush.Given as goal

abbrev pub invariant-tries : goal.invariant-tries
invariant-tries g l =
    record {
      kept : Keeps (g.T.TriedWrite.contents l.fn.self.device) (g.T.TriedWrite.contents l.self.device);
      tries : Interrupted g.T.TriedWrite.write_fails l.tried l.fn.self.device l.self.device;
      count : l.self.failures ≡ l.fn.self.failures;
    }
