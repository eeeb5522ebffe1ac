use Rattle.pcache_store.proofs.Words.{◌≡◌, ◌<◌, ◌≤◌, ◌+◌, length, take, concat}
use Rattle.pcache_store.proofs.memory.draft_text.piece_at.Given as goal

-- where the piece behind those that are left begins
abbrev pub invariant-loop-start : goal.invariant-loop-start
invariant-loop-start l = record {
  start : l.start ≡ length (concat (take l.count l.pieces));
  count : l.count ≤ length l.pieces;
  inside : l.count < length l.pieces → l.place < length (concat (take (l.count + 1) l.pieces));
}

abbrev pub decreases-loop-start : goal.decreases-loop-start
decreases-loop-start l = l.count
