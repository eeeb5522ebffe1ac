use Rattle.std.specs.Vec.{vec_len}
use Rattle.examples.proofs.many.end_all.Given as goal

abbrev pub decreases-requests : goal.decreases-requests
decreases-requests l = vec_len l.requests
