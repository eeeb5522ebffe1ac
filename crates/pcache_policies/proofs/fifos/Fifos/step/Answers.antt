use Rattle.pcache_policies.specs.Fifos.{small, main}
use Rattle.pcache_policies.proofs.Words.{refl}
use Rattle.pcache_policies.proofs.fifos.Fifos.step.Goals as goal

pub look_at_small-requires : goal.look_at_small-requires
look_at_small-requires g c = c.if-is_small_next.ensures.some refl

pub returns-then-is_small_next-clause-ok : goal.returns-then-is_small_next-clause-ok
returns-then-is_small_next-clause-ok g c = small refl (c.if-is_small_next.ensures.yes refl) c.in_ok-look_at_small.ensures.ok

pub returns-clause-ok : goal.returns-clause-ok
returns-clause-ok g c = main (c.if-is_small_next.ensures.not refl) (c.if-is_small_next.ensures.none refl) c.in_ok-more.ensures.ok
