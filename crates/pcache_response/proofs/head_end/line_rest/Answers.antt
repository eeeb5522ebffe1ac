use Rattle.pcache_response.proofs.Words.{length, arith}
use Rattle.pcache_response.proofs.Joins.{inside_run}
use Rattle.pcache_response.proofs.head_end.line_rest.Goals as goal

pub returns-in-Some-clause-stays : goal.returns-in-Some-clause-stays
returns-in-Some-clause-stays c = inside_run c.args.bytes.now c.in-Some.end (λ k lt e. c.in-Some.ensures.0.before k (omega arith) lt e)

pub returns-in-None-clause-stays : goal.returns-in-None-clause-stays
returns-in-None-clause-stays c = inside_run c.args.bytes.now (length c.args.bytes.now) (λ k lt e. c.in-None.ensures k (omega arith) lt e)
