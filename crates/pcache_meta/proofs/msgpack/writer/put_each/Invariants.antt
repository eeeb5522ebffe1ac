use Rattle.pcache_meta.specs.Writing.{array_written, number_written}
use Rattle.pcache_meta.proofs.Words.{◌≡◌, ◌++◌, take, flat_map}
use Rattle.pcache_meta.proofs.msgpack.writer.put_each.Given as goal

abbrev pub invariant-each : goal.invariant-each
invariant-each l = l.out.items ≡ l.fn.out.items ++ array_written 16 ++ flat_map number_written (take l.b-index l.hash)
