use Rattle.pcache_shared_world.proofs.Words.{◌≡◌, ◌+◌, ◌<◌, ℕ, List, length, slice_index_or, Receipt, script_at}
use Rattle.pcache_shared_world.proofs.workers.have_run.Given as goal

abbrev pub invariant-loop-worker : goal.invariant-loop-worker
invariant-loop-worker g l = (i : ℕ) (d : List Receipt) → i < l.worker → length (slice_index_or l.shares i d) ≡ slice_index_or l.before i 0 + length (script_at l.scripts i)
