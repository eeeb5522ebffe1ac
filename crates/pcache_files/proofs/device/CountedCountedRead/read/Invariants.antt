use Rattle.pcache_files.proofs.Words.{◌≡◌, Keeps, Interrupted}
use Rattle.pcache_files.proofs.device.CountedCountedRead.read.Given as goal

abbrev pub invariant-tries : goal.invariant-tries
invariant-tries g l =
    record {
      kept : Keeps (g.T.TriedRead.remaining l.fn.self.device) (g.T.TriedRead.remaining l.self.device);
      tries : Interrupted g.T.TriedRead.read_fails l.tried l.fn.self.device l.self.device;
      same : g.T.TriedRead.source l.self.device ≡ g.T.TriedRead.source l.fn.self.device;
      count : l.self.failures ≡ l.fn.self.failures;
    }
