use Rattle.pcache_control.proofs.Words.{◌≡◌, take, min, true, is_ascii_digit, list_all, digits_value}
use Rattle.pcache_control.proofs.seconds.digits.Given as goal

abbrev pub invariant-digits : goal.invariant-digits
invariant-digits l = record {
  value : l.value ≡ min (digits_value 10 (take l.b-index l.bytes)) 4294967296;
  digits : list_all is_ascii_digit (take l.b-index l.bytes) ≡ true;
}
