use Rattle.pcache_c.proofs.Words.{◌≡◌, map, take, All, header_bytes, IsShort, fields_after}
use Rattle.pcache_c.proofs.received.fields_in.Given as goal

abbrev pub invariant-spans : goal.invariant-spans
invariant-spans l = record {
  so_far : l.fields ≡ fields_after (map (header_bytes l.bytes) (take l.i l.spans));
  short : All IsShort (map (header_bytes l.bytes) (take l.i l.spans));
}
