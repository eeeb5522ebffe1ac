use Rattle.pcache_meta.proofs.Words.{◌≡◌, [], drop, take, name_from}
use Rattle.pcache_meta.proofs.header_text.reader.split_name.Given as goal

abbrev pub invariant-bytes : goal.invariant-bytes
invariant-bytes l = name_from (take l.i l.bytes) (drop l.i l.bytes) ≡ name_from [] l.bytes
