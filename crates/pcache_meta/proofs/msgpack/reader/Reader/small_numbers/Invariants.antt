use Rattle.pcache_meta.specs.Reading.{small_numbers_at}
use Rattle.pcache_meta.proofs.Words.{◌≡◌, ◌-◌, length, take}
use Rattle.pcache_meta.proofs.HashLoop.{with_front}
use Rattle.pcache_meta.proofs.msgpack.reader.Reader.small_numbers.Given as goal

abbrev pub invariant-each : goal.invariant-each
invariant-each l = record {
  size : length l.out ≡ 16;
  read : with_front (take l.i l.out) (small_numbers_at (16 - l.i) l.self) ≡ small_numbers_at 16 l.initial.self;
}
