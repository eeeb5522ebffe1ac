use Rattle.pcache_control.proofs.Words.{◌≡◌, ◌≤◌, ◌<◌, ◌-◌, ℕ, length, slice_index, true, is_white_space}
use Rattle.pcache_control.proofs.scan.skip_white_space.Given as goal

abbrev pub invariant-run : goal.invariant-run
invariant-run l = record {
  order : l.at ≤ l.end;
  within : l.end ≤ length l.line;
  run : (k : ℕ) → l.at ≤ k → k < l.end → is_white_space (slice_index l.line k) ≡ true;
}

abbrev pub decreases-run : goal.decreases-run
decreases-run l = length l.line - l.end
