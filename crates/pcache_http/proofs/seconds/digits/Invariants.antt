use Rattle.std.proofs.Common.{take, min}
use Rattle.std.specs.List.{list_all}
use Rattle.std.specs.Str.Parse.{digits_value}
use Rattle.pcache_http.proofs.Words.{◌≡◌, true, is_ascii_digit}
use Rattle.pcache_http.proofs.seconds.digits.Given as goal

abbrev pub invariant-digits : goal.invariant-digits
invariant-digits l = record {
  value : l.value ≡ min (digits_value 10 (take l.b-index l.bytes)) 4294967295;
  digits : list_all is_ascii_digit (take l.b-index l.bytes) ≡ true;
}
