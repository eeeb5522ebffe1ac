use Rattle.pcache_control.proofs.Words.{arith}
use Rattle.pcache_control.proofs.Quotes.{scan_stops, scan_finds, scan_ends}
use Rattle.pcache_control.proofs.scan.quote_end.Goals as goal

pub returns-then-b-eq10-clause-none : goal.returns-then-b-eq10-clause-none
returns-then-b-eq10-clause-none c = λ end. scan_stops c.args.line.now c.bytes.escaped c.args.at c.bytes.i end c.bytes.invariant c.if-escaped.true c.bytes-test.true c.if-b-eq10.true

pub returns-then-b-eq34-clause-found : goal.returns-then-b-eq34-clause-found
returns-then-b-eq34-clause-found c = scan_finds c.args.line.now c.bytes.escaped c.args.at c.bytes.i c.bytes.invariant c.if-escaped.false c.bytes-test.true c.if-b-eq34.true

pub returns-clause-none : goal.returns-clause-none
returns-clause-none c = λ end. scan_ends c.args.line.now c.bytes.escaped c.args.at c.bytes.i end c.bytes.invariant (omega (arith, c.bytes-test.false))
