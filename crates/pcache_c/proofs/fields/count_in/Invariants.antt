use Rattle.std.proofs.Common.{◌<◌}
use Rattle.pcache_c.proofs.Words.{◌≡◌, ◌+◌, ◌^◌, length, get_all, lowercase}
use Rattle.pcache_c.proofs.fields.count_in.Given as goal

abbrev pub invariant-values : goal.invariant-values
invariant-values l = record {
  counted : l.count + length l._value-iterator ≡ length (get_all l.fn.fields (lowercase l.fn.name));
  fits : length (get_all l.fn.fields (lowercase l.fn.name)) < 2 ^ 64;
}
