use Rattle.pcache_shared_world.proofs.Words.{◌≡◌, ◌++◌, List, take, Receipt, calls_of}
use Rattle.pcache_shared_world.proofs.workers.run_script.Given as goal

abbrev pub invariant-loop-index : goal.invariant-loop-index
invariant-loop-index g l = (new : List Receipt) × (l.share ≡ l.initial.share ++ new) × (calls_of new ≡ take l.index l.script)
