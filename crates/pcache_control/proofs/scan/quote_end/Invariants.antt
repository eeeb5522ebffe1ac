use Rattle.pcache_control.proofs.Words.{◌≡◌, false, drop}
use Rattle.pcache_control.proofs.Quotes.{quote_end}
use Rattle.pcache_control.proofs.scan.quote_end.Given as goal

abbrev pub invariant-bytes : goal.invariant-bytes
invariant-bytes l = quote_end l.escaped l.i (drop l.i l.line) ≡ quote_end false l.at (drop l.at l.line)
