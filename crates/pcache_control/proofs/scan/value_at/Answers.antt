use Rattle.pcache_control.proofs.Words.{arith}
use Rattle.pcache_control.proofs.Quotes.{no_value}
use Rattle.pcache_control.proofs.scan.value_at.Goals as goal

pub returns-in_default-clause-none : goal.returns-in_default-clause-none
returns-in_default-clause-none c = no_value c.args.line.now c.args.name_end c.token_end-end.result c.token_end-end.ensures (λ lt. omega (arith, c.if-start-end.false, lt)) c.in_default.ensures.none
