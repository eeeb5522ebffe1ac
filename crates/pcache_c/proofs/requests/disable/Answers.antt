use Rattle.pcache_c.proofs.Words.{rules}
use Rattle.pcache_c.proofs.Outcomes.{outcome_done}
use Rattle.pcache_c.proofs.requests.disable.Goals as goal

pub returns : goal.returns
returns c =
    outcome_done _ _ _ _ _ (search rules) (record {
      between = c.let_go.new.cache;
      lets_go = search rules;
      released = c.disable.result;
      takes = search rules;
      none = search rules;
      piece = search rules;
      fetch = search rules;
    })
