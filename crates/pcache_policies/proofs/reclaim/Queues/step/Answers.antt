use Rattle.pcache_policies.specs.Reclaim.{leaves}
use Rattle.pcache_policies.proofs.Words.{refl}
use Rattle.pcache_policies.proofs.reclaim.Queues.step.Goals as goal

pub choose_incoming-requires : goal.choose_incoming-requires
choose_incoming-requires g c = c.if-is_incoming_next.ensures.some refl

pub returns-then-is_incoming_next-clause-ok : goal.returns-then-is_incoming_next-clause-ok
returns-then-is_incoming_next-clause-ok g c = leaves refl (c.if-is_incoming_next.ensures.yes refl) c.in_ok-choose_incoming.ensures.ok
