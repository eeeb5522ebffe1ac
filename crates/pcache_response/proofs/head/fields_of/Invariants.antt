use Rattle.pcache_response.proofs.Words.{◌≡◌, map, take, All, header_bytes, IsShort, fields_after}
use Rattle.pcache_response.proofs.head.fields_of.Given as goal

abbrev pub invariant-spans : goal.invariant-spans
invariant-spans l = record {
  so_far : l.fields ≡ fields_after (map (header_bytes l.bytes) (take l.i l.spans));
  short : All IsShort (map (header_bytes l.bytes) (take l.i l.spans));
}
