use Rattle.pcache_c.proofs.Words.{rules, refl}
use Rattle.pcache_c.proofs.Outcomes.{outcome_done}
use Rattle.pcache_c.proofs.requests.finish.Goals as goal

pub returns-in-Ok-Some : goal.returns-in-Ok-Some
returns-in-Ok-Some c =
    outcome_done _ _ _ _ _ (search rules) (
      c.in-Ok-Some.report,
      refl,
      search rules,
      record { takes = rw c.in-Ok-Some.field-0-is at c.in-Ok-Some.ensures.takes; rest = ((refl, refl, refl), c.finish_miss_handler.ensures.fetch) },
    )
