use Rattle.pcache_shared_cache.proofs.Logs.{kept_in}
use Rattle.pcache_shared_cache.proofs.laws.a_part_keeps_its_settings.Goals as goal

pub returns-clause-limits : goal.returns-clause-limits
returns-clause-limits c = kept_in (λ p. p.limits) (λ p q leads. leads.limits)

pub returns-clause-weighing : goal.returns-clause-weighing
returns-clause-weighing c = kept_in (λ p. p.weighing) (λ p q leads. leads.weighing)

pub returns-clause-age : goal.returns-clause-age
returns-clause-age c = kept_in (λ p. p.locks.age_timeout) (λ p q leads. leads.age)
