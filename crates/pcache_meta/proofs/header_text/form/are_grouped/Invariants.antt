use Rattle.pcache_meta.specs.HeaderForm.{lines_at}
use Rattle.pcache_meta.proofs.Words.{◌≡◌, ◌≤◌, length, map, take, are_grouped}
use Rattle.pcache_meta.proofs.HeaderForm.{grouped_with}
use Rattle.pcache_meta.proofs.header_text.form.are_grouped.Given as goal

abbrev pub invariant-lines : goal.invariant-lines
invariant-lines l = record {
  few : l.count ≤ 64;
  grouped : are_grouped 24576 (lines_at l.bytes) ≡ grouped_with (map (λ n. n.now) (take l.count l.passed)) l.room (lines_at l.rest);
}

abbrev pub decreases-lines : goal.decreases-lines
decreases-lines l = length l.rest
