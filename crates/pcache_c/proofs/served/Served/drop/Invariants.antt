use Rattle.std.specs.Vec.{vec_len}
use Rattle.pcache_c.proofs.served.Served.drop.Given as goal

abbrev pub decreases-seats : goal.decreases-seats
decreases-seats l = vec_len l.seats
