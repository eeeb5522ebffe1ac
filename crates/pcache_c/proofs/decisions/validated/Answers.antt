use Rattle.pcache_c.proofs.Words.{inr}
use Rattle.pcache_c.proofs.decisions.validated.Goals as goal

pub returns-in-Ok : goal.returns-in-Ok
returns-in-Ok c = inr (c.in-Ok.outcome, record { is_unsafe = c.in-Ok.ensures.is_unsafe; decided = λ safe. c.in-Ok.ensures.validated safe }, c.tell.ensures.numbers, c.tell.ensures.meta)
