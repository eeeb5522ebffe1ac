use Rattle.std.specs.Option.{option_map}
use Rattle.cache_simulation.specs.Reading.{named_in}
use Rattle.cache_simulation.proofs.Words.{◌≡◌, ◌∙◌, ◌++◌, [], List, Some, ap, sym, subst, cons_option, Request, HasAsked, request_with}
use Rattle.cache_simulation.proofs.player.Player.pick.Goals as goal

pub returns-clause-asked : goal.returns-clause-asked
returns-clause-asked g c = λ before asked held.
    let there : Some c.in-Some.key ≡ named_in c.args.self.now.runs.setting c.args.key.now = sym c.in-Some.is ∙ c.named.ensures in
    subst (λ (rs : List Request). HasAsked before (asked ++ rs) c.ask.new.self) (ap (λ o. cons_option (option_map (λ k. request_with k c.args.size c.args.second) o) []) there) (c.in_ok-ask.ensures.asked before asked held)
