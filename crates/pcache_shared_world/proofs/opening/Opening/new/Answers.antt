use Rattle.pcache_shared_world.proofs.Moves.{begins}
use Rattle.pcache_shared_world.proofs.opening.Opening.new.Goals as goal

pub of_words-requires : goal.of_words-requires
of_words-requires g c = begins
