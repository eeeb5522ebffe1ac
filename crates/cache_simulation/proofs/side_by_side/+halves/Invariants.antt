use Rattle.cache_simulation.proofs.Words.{◌+◌, ◌-◌, ◌*◌}
use Rattle.cache_simulation.proofs.side_by_side.+halves.Given as goal

abbrev pub decreases-play_each : goal.decreases-play_each
decreases-play_each g l = 4 * l.threads

abbrev pub decreases-play_both : goal.decreases-play_both
decreases-play_both g l = 4 * (l.here + l.there) - 1

abbrev pub decreases-play_both-first : goal.decreases-play_both-first
decreases-play_both-first g l = 4 * l.here + 1

abbrev pub decreases-play_both-second : goal.decreases-play_both-second
decreases-play_both-second g l = 4 * l.there + 1
