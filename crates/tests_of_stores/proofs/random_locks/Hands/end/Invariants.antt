use Rattle.std.proofs.Common.{vec_len}
use Rattle.tests_of_stores.proofs.random_locks.Hands.end.Given as goal

abbrev pub decreases-loop-permit : goal.decreases-loop-permit
decreases-loop-permit l = vec_len l.permits

abbrev pub decreases-loop-read : goal.decreases-loop-read
decreases-loop-read l = vec_len l.readers
