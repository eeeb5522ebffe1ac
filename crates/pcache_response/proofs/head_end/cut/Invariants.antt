use Rattle.pcache_response.proofs.Words.{◌≡◌, ◌≤◌, ℕ, ◌-◌, length, take, state_after, Ended}
use Rattle.pcache_response.proofs.head_end.cut.Given as goal

abbrev pub invariant-bytes : goal.invariant-bytes
invariant-bytes l = record {
  within : l.at ≤ length l.piece;
  moved : l.state ≡ state_after l.initial.state (take l.at l.piece);
  none : (k : ℕ) → k ≤ l.at → state_after l.initial.state (take k l.piece) ≡ Ended → ⊥;
}

abbrev pub decreases-bytes : goal.decreases-bytes
decreases-bytes l = length l.piece - l.at
