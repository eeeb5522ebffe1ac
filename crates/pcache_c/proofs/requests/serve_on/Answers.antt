use Rattle.pcache_c.proofs.Words.{rules, refl}
use Rattle.pcache_c.proofs.Outcomes.{outcome_done}
use Rattle.pcache_c.proofs.requests.serve_on.Goals as goal

pub returns-in-Ok : goal.returns-in-Ok
returns-in-Ok c =
    outcome_done _ _ _ _ _ (search rules) (record {
      released = c.revalidate_uncacheable.result;
      takes = rw c.in-Ok.ensures.ok at c.revalidate_uncacheable.ensures.takes;
      rest = ((refl, refl, refl), c.revalidate_uncacheable.ensures.fetch);
    })
