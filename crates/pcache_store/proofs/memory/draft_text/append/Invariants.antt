use Rattle.pcache_store.proofs.Words.{◌≡◌, ◌++◌, take, concat}
use Rattle.pcache_store.proofs.memory.draft_text.append.Given as goal

abbrev pub invariant-loop-piece : goal.invariant-loop-piece
invariant-loop-piece l = l.text.items ≡ l.fn.text.items ++ concat (take l.piece-index l.pieces)
