use Rattle.cache_simulation.specs.declared.options.Policy.{Policy}
use Rattle.cache_simulation.proofs.Words.{◌++◌, subst, sym, on_ok_weaker, Stands, policy_of, rules_in, start_in}
use Rattle.cache_simulation.proofs.cache.Cache.play.Goals as goal

pub returns-clause-served : goal.returns-clause-served
returns-clause-served c = on_ok_weaker c.play.result (λ serves. λ setting before asked stands.
    subst (λ (p : Policy). Stands before (asked ++ c.args.requests.now) (rules_in p setting c.args.self.now.size) (start_in setting) c.args.self.now.gone c.play.new.self) (sym c.play.ensures.policy)
    (serves before asked (rules_in (policy_of c.args.self.now.run) setting c.args.self.now.size) (start_in setting) c.args.self.now.gone stands)) c.play.ensures.served
