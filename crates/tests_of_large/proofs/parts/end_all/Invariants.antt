use Rattle.std.specs.Vec.{vec_len}
use Rattle.tests_of_large.proofs.parts.end_all.Given as goal

abbrev pub decreases-open : goal.decreases-open
decreases-open g l = vec_len l.open
