use Rattle.pcache_c.proofs.Words.{rules, refl}
use Rattle.pcache_c.proofs.Outcomes.{outcome_refused}
use Rattle.pcache_c.proofs.requests.look.Goals as goal

pub returns-in-Err : goal.returns-in-Err
returns-in-Err c =
    outcome_refused _ _ _ _ _ c.code_of.result c.in-Err.e (search rules) c.code_of.ensures.code c.code_of.ensures.other (record {
      takes = c.in-Err.ensures.takes;
      fetch = c.cache_lookup_without_policy.ensures.fetch;
      rest = (refl, refl, refl);
    })
