use Rattle.cache_simulation.specs.declared.options.Policy.{Policy}
use Rattle.cache_simulation.proofs.Words.{[], ◌++◌, subst, sym, Stands, policy_of, rules_in, start_in}
use Rattle.cache_simulation.proofs.cache.Cache.mark.Goals as goal

pub returns-clause-served : goal.returns-clause-served
returns-clause-served c = λ setting before asked stands.
    subst (λ (p : Policy). Stands (before ++ asked) [] (rules_in p setting c.args.self.now.size) (start_in setting) c.mark-self.result c.mark-self.new.self) (sym c.mark-self.ensures.policy)
    (c.mark-self.ensures.served before asked (rules_in (policy_of c.args.self.now.run) setting c.args.self.now.size) (start_in setting) c.args.self.now.gone stands)
