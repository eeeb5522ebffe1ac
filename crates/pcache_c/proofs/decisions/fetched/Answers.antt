use Rattle.pcache_c.proofs.Words.{refl, inr}
use Rattle.pcache_c.proofs.decisions.fetched.Goals as goal

pub returns-in-Ok : goal.returns-in-Ok
returns-in-Ok c = inr (c.in-Ok.outcome, record { is_unsafe = c.in-Ok.ensures.is_unsafe; fetched = λ safe. c.in-Ok.ensures.fetched safe refl }, c.tell.ensures.numbers, c.tell.ensures.meta)
