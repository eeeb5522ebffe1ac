use Rattle.pcache_control.proofs.Words.{◌≡◌, ◌≤◌, ◌<◌, ◌-◌, ℕ, length, slice_index, true, is_token_byte}
use Rattle.pcache_control.proofs.scan.token_end.Given as goal

abbrev pub invariant-run : goal.invariant-run
invariant-run l = record {
  order : l.at ≤ l.end;
  within : l.end ≤ length l.line;
  run : (k : ℕ) → l.at ≤ k → k < l.end → is_token_byte (slice_index l.line k) ≡ true;
}

abbrev pub decreases-run : goal.decreases-run
decreases-run l = length l.line - l.end
