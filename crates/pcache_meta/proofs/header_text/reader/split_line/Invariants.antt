use Rattle.pcache_meta.proofs.Words.{◌≡◌, ◌≤◌, ◌-◌, [], drop, take, length, line_from}
use Rattle.pcache_meta.proofs.header_text.reader.split_line.Given as goal

abbrev pub invariant-bytes : goal.invariant-bytes
invariant-bytes l = record {
  within : l.i ≤ length l.bytes;
  read : line_from (take l.i l.bytes) (drop l.i l.bytes) ≡ line_from [] l.bytes;
}

abbrev pub decreases-bytes : goal.decreases-bytes
decreases-bytes l = length l.bytes - l.i
